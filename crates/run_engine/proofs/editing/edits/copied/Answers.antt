use Rattle.std.proofs.Common.{◌++◌, take, length, ap, sym, ◌∙◌}
use Rattle.std.proofs.Math.Seq.{take-add}
use Rattle.run_engine.proofs.ListingLemmas.{next-within}
use Rattle.run_engine.proofs.editing.edits.copied.Goals as goal

pub loop-at-preserved : goal.loop-at-preserved
loop-at-preserved c =
    let ops = c.args.ops.now.ops in
    let next = c.from-next.result.now in
    record {
      within = next-within c.args.ops.now.ops c.from-next.result.now c.loop-at.at c.from-next.ensures.ops c.loop-at.invariant.within;
      trace =
          c.in_ok-push_copies.ensures ∙ ap (λ xs. xs ++ c.from-next.result.now) c.loop-at.invariant.trace ∙ ap (λ xs. take c.loop-at.at c.args.ops.now.ops ++ xs) c.from-next.ensures.ops
          ∙ sym (take-add c.loop-at.at (length c.from-next.result.now) c.args.ops.now.ops);
    }
