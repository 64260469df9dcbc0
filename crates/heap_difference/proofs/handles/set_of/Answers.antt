use Rattle.std.specs.Ordering.{nat_cmp}
use Rattle.std.specs.BTreeSet.{contains}
use Rattle.heap_difference.proofs.SiftLemmas.{inserted_next}
use Rattle.heap_difference.proofs.handles.set_of.Goals as goal

pub loop-number-preserved : goal.loop-number-preserved
loop-number-preserved c =
    inserted_next (λ q. contains nat_cmp c.loop-number.set q) (λ q. contains nat_cmp c.insert.new.self q) c.as_slice-number-items.result.now c.loop-number.number-index 0
    c.loop-number-test.true c.loop-number.invariant (λ q. c.in_ok-insert.ensures.updates.0 q)
