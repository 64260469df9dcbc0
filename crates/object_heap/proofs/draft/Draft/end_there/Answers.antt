use Rattle.std.proofs.Common.{ap, sym, rules}
use Rattle.std.specs.Prelude.{Option, IsSome}
use Rattle.std.specs.FinMap.{get}
use Rattle.trace_types.specs.declared.slots.Slot.{Slot}
use Rattle.trace_types.specs.declared.slots.Change.TheVariants.{EndCell}
use Rattle.object_heap.specs.Counted.{drafted}
use Rattle.object_heap.specs.Laid.{cell_ended}
use Rattle.object_heap.proofs.GainLemmas.{on_ok}
use Rattle.object_heap.proofs.LayLemmas.{made}
use Rattle.object_heap.proofs.draft.Draft.end_there.Goals as goal

pub returns-in-Some : goal.returns-in-Some
returns-in-Some c =
    let old = c.args.self.now in
    let q = c.args.cell in
    let can : IsSome (get old.cells q) = search rules in
    on_ok c.end_cell.result c.end_cell.ensures (λ r.
    made old c.end_cell.new.self (EndCell q) (cell_ended (get old.cells q) q (drafted old)) (ap (λ (o : Option Slot). cell_ended o q (drafted old)) (sym c.in-Some.ensures)) c.requires.bounded tt can r)
