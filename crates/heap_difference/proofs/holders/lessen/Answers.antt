use Rattle.std.proofs.Common.{◌∙◌, ◌-◌, ap, get_or}
use Rattle.std.specs.Prelude.{slice_set}
use Rattle.heap_difference.specs.declared.holders.Holder.{Holder}
use Rattle.heap_difference.specs.Holders.{less_by}
use Rattle.heap_difference.proofs.HolderLemmas.{mapped_next}
use Rattle.heap_difference.proofs.holders.lessen.Goals as goal

pub loop-at-preserved : goal.loop-at-preserved
loop-at-preserved c =
    let none : Holder = record { object = 0; left = 0 } in
    ap (λ n. slice_set c.loop-at.items c.loop-at.at (record { object = (get_or c.loop-at.items c.loop-at.at none).object; left = n })) (c.saturating_sub.ensures ∙ ap (λ n. (get_or c.loop-at.items c.loop-at.at none).left - n) c.naming.ensures)
    ∙ mapped_next (less_by c.args.slots.now) c.args.items.now c.loop-at.items c.loop-at.at none c.loop-at-test.true c.loop-at.invariant
