use Rattle.std.proofs.Common.{ap, sym, rules}
use Rattle.std.specs.Prelude.{Option, IsSome}
use Rattle.std.specs.FinMap.{get}
use Rattle.trace_types.specs.declared.slots.Holding.{Holding}
use Rattle.trace_types.specs.declared.slots.Change.TheVariants.{EndHandle}
use Rattle.object_heap.specs.Counted.{drafted}
use Rattle.object_heap.specs.Laid.{ended_at}
use Rattle.object_heap.proofs.GainLemmas.{on_ok}
use Rattle.object_heap.proofs.LayLemmas.{made}
use Rattle.object_heap.proofs.draft.Draft.end_held.Goals as goal

pub returns-in-Some : goal.returns-in-Some
returns-in-Some c =
    let old = c.args.self.now in
    let h = c.args.handle in
    let can : IsSome (get old.handles.holdings h) = search rules in
    on_ok c.end_handle.result c.end_handle.ensures (λ r.
    made old c.end_handle.new.self (EndHandle h) (ended_at (get old.handles.holdings h) h (drafted old)) (ap (λ (o : Option Holding). ended_at o h (drafted old)) (sym c.in-Some.ensures)) c.requires.bounded tt can r)
