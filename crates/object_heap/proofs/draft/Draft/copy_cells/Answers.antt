use Rattle.std.proofs.Common.{◌∙◌, refl, sym, subst}
use Rattle.std.specs.Prelude.{Option}
use Rattle.trace_types.specs.declared.slots.Slot.{Slot}
use Rattle.object_heap.specs.Counted.{drafted}
use Rattle.object_heap.specs.Laid.{MayHold}
use Rattle.object_heap.proofs.LayLemmas.{may_hold}
use Rattle.object_heap.proofs.draft.Draft.copy_cells.Goals as goal

pub put_cell-requires-clause-may : goal.put_cell-requires-clause-may
put_cell-requires-clause-may c =
    subst (λ (o : Option Slot). MayHold o) (sym (c.copied.ensures ∙ c.get.ensures)) (may_hold (drafted c.args.from.now) _ _ c.requires.from.sound.cells refl)
