use Rattle.std.proofs.Common.{◌++◌, take, ap, sym, ◌∙◌, arith}
use Rattle.std.specs.Prelude.{slice_range}
use Rattle.run_engine.proofs.ListingLemmas.{slice_range-none, slice_range-further, next-ones}
use Rattle.run_engine.proofs.editing.listing.Listing.copies.Goals as goal

pub loop-at-init : goal.loop-at-init
loop-at-init c = record { from_there = omega arith; before_end = omega arith; copies = rw c.in_ok-copies.ensures.items (sym (slice_range-none c.args.self.now.ops c.args.from)) }

pub loop-at-preserved : goal.loop-at-preserved
loop-at-preserved c = record {
  from_there = omega (arith, c.loop-at.invariant.from_there);
  before_end = omega arith;
  copies =
      c.in_ok-push_copies.ensures ∙ ap (λ xs. xs ++ take c.min-few.result c.from-ops.result.now) c.loop-at.invariant.copies
      ∙ ap (λ xs. slice_range c.args.self.now.ops c.args.from c.loop-at.at ++ xs) (next-ones c.args.self.now.ops c.from-ops.result.now c.loop-at.at c.min-few.result c.from-ops.ensures.ops (omega arith))
      ∙ sym (slice_range-further c.args.self.now.ops c.args.from c.loop-at.at c.min-few.result c.loop-at.invariant.from_there);
}
