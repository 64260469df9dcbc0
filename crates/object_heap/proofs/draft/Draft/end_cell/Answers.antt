use Rattle.std.proofs.Common.{refl, sym, subst}
use Rattle.std.specs.Prelude.{Option}
use Rattle.std.specs.Option.{option_map_or}
use Rattle.trace_types.specs.declared.slots.Slot.{Slot}
use Rattle.trace_types.specs.declared.slots.Change.TheVariants.{EndCell}
use Rattle.object_heap.specs.Gains.{CountsMore, HasSlots}
use Rattle.object_heap.specs.declared.draft.Draft.{Draft}
use Rattle.object_heap.specs.Counted.{drafted}
use Rattle.object_heap.proofs.ChangeWeights.{gained}
use Rattle.object_heap.proofs.GainLemmas.{on_ok, no_more, lost_in, changes}
use Rattle.object_heap.proofs.draft.Draft.end_cell.Goals as goal

pub let_go_cell-requires : goal.let_go_cell-requires
let_go_cell-requires c =
    let old = c.args.self.now in
    subst (λ (s : Option Slot). HasSlots old.objects.counts (λ w. option_map_or w s 0)) (sym c.get-held.ensures)
    (lost_in old.objects.counts old.objects.counts (drafted old) (EndCell c.args.cell) c.requires.can c.requires.counted (no_more old.objects.counts (gained (EndCell c.args.cell)) (λ w. refl)))

pub returns : goal.returns
returns c =
    let old = c.args.self.now in
    let new : Draft = record { handles = old.handles; cells = c.take.new.self; objects = c.let_go_cell.new.objects } in
    on_ok c.take.result c.take.ensures.ok (λ is.
    changes old.objects.counts old.objects.counts (drafted old) (EndCell c.args.cell) c.requires.can c.requires.counted (no_more old.objects.counts (gained (EndCell c.args.cell)) (λ w. refl)) old new refl
    (subst (λ (s : Option Slot). CountsMore c.let_go_cell.new.objects.counts old.objects.counts (λ w. option_map_or w s 0)) c.get-held.ensures c.in_ok-let_go_cell.ensures.counts)
    (λ i. record { handles = old.handles.holdings; cells = is i; objects = c.in_ok-let_go_cell.ensures.entries i; scopes = old.handles.scopes }))
