use Rattle.std.proofs.Common.{◌<◌, ◌∙◌, ap, sym, arith, length, None}
use Rattle.std.specs.Ordering.{nat_cmp}
use Rattle.std.specs.BTreeSet.{contains}
use Rattle.run_engine.proofs.ClearedLemmas.{long-as-before, cleared-next, cleared-none, nothing-named}
use Rattle.run_engine.proofs.segments.names.clear_named.Goals as goal

pub at-requires : goal.at-requires
at-requires c =
    let long = ap length c.clear_if.ensures ∙ long-as-before c.is_among.result c.loop-i.segments c.loop-i.i in
    omega (arith, c.loop-i.invariant.long, c.loop-i-test.true, c.len-i-end.ensures)

pub loop-i-preserved : goal.loop-i-preserved
loop-i-preserved c =
    let lt : c.loop-i.i < length c.loop-i.segments = omega (arith, c.loop-i.invariant.long, c.loop-i-test.true, c.len-i-end.ensures) in
    record {
      long = ap length c.clear_if.ensures ∙ long-as-before c.is_among.result c.loop-i.segments c.loop-i.i ∙ c.loop-i.invariant.long;
      cleared = cleared-next (contains nat_cmp c.args.names.now) c.loop-i.before c.last_id-before.result c.is_among.result c.loop-i.segments c.clear_if.new.segments c.loop-i.i c.at.result c.is_among.ensures lt c.clear_if.ensures c.at.ensures c.last_id-before.ensures
          ∙ c.loop-i.invariant.cleared;
    }

pub returns-then-is_empty : goal.returns-then-is_empty
returns-then-is_empty c = sym (cleared-none (contains nat_cmp c.args.names.now) None c.args.segments.now (nothing-named c.args.names.now (c.is_empty.ensures.0 c.if-is_empty.true)))
