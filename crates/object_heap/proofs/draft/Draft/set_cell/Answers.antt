use Rattle.std.proofs.Common.{◌≡◌, [], refl, sym, subst, ◌∙◌, arith}
use Rattle.std.specs.Prelude.{Option}
use Rattle.std.specs.Option.{option_map_or}
use Rattle.trace_types.specs.declared.slots.Slot.{Slot}
use Rattle.trace_types.specs.declared.slots.Change.TheVariants.{SetCell}
use Rattle.trace_types.specs.declared.limits.TheConstants.{MAX_FIELDS}
use Rattle.object_heap.specs.Gains.{CountsMore, HasSlots}
use Rattle.object_heap.specs.declared.draft.Draft.{Draft}
use Rattle.object_heap.specs.Counted.{drafted}
use Rattle.object_heap.proofs.GainLemmas.{on_ok, lost_in, changes, room, less_room}
use Rattle.object_heap.proofs.draft.Draft.set_cell.Goals as goal

pub hold-requires : goal.hold-requires
hold-requires c =
    let old = c.args.self.now in
    less_room old.objects.counts 1 MAX_FIELDS (omega arith) (room old.objects.counts (drafted old) [] c.requires.bounded c.requires.counted (omega arith))

pub let_go_cell-requires : goal.let_go_cell-requires
let_go_cell-requires c =
    let old = c.args.self.now in
    subst (λ (s : Option Slot). HasSlots c.hold.new.objects.counts (λ w. option_map_or w s 0)) (sym c.get-held.ensures)
    (lost_in old.objects.counts c.hold.new.objects.counts (drafted old) (SetCell c.args.cell c.args.slot) c.requires.can c.requires.counted c.in_ok-hold.ensures.counts)

pub returns : goal.returns
returns c =
    let old = c.args.self.now in
    let new : Draft = record { handles = old.handles; cells = c.replace.new.self; objects = c.let_go_cell.new.objects } in
    let stay : c.let_go_cell.new.objects.entries ≡ old.objects.entries = c.in_ok-let_go_cell.ensures.entries ∙ c.in_ok-hold.ensures.entries in
    on_ok c.replace.result c.replace.ensures.ok (λ is.
    changes old.objects.counts c.hold.new.objects.counts (drafted old) (SetCell c.args.cell c.args.slot) c.requires.can c.requires.counted c.in_ok-hold.ensures.counts old new refl
    (subst (λ (s : Option Slot). CountsMore c.let_go_cell.new.objects.counts c.hold.new.objects.counts (λ w. option_map_or w s 0)) c.get-held.ensures c.in_ok-let_go_cell.ensures.counts)
    (λ i. record { handles = old.handles.holdings; cells = is i; objects = stay i; scopes = old.handles.scopes }))
