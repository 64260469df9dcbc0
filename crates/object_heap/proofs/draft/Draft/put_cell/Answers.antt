use Rattle.std.proofs.Common.{ap, subst}
use Rattle.std.specs.Prelude.{Option}
use Rattle.trace_types.specs.declared.slots.Slot.{Slot}
use Rattle.trace_types.specs.declared.slots.Change.TheVariants.{SetCell}
use Rattle.ownership_model.specs.Bounds.{CellFits}
use Rattle.object_heap.specs.Counted.{drafted}
use Rattle.object_heap.specs.Laid.{with_cell, MayHold}
use Rattle.object_heap.proofs.GainLemmas.{on_ok}
use Rattle.object_heap.proofs.LayLemmas.{made}
use Rattle.object_heap.proofs.draft.Draft.put_cell.Goals as goal

pub returns-in-Some : goal.returns-in-Some
returns-in-Some c =
    let old = c.args.self.now in
    let q = c.args.cell in
    on_ok c.set_cell.result c.set_cell.ensures (λ r.
    made old c.set_cell.new.self (SetCell q c.in-Some.slot) (with_cell c.args.slot q (drafted old)) (ap (λ (o : Option Slot). with_cell o q (drafted old)) c.in-Some.is) c.requires.bounded
    (subst (λ (o : Option Slot). CellFits q o) c.in-Some.is c.requires.fits) (subst (λ (o : Option Slot). MayHold o) c.in-Some.is c.requires.may) r)
