use Rattle.std.proofs.Common.{◌≡◌, [], refl, sym, subst, ◌∙◌, arith, rules}
use Rattle.std.specs.Prelude.{Option}
use Rattle.std.specs.Option.{option_map_or}
use Rattle.std.specs.FinMap.{insert}
use Rattle.ownership_model.specs.State.{holding_weight}
use Rattle.object_heap.specs.Gains.{CountsMore, HasSlots}
use Rattle.trace_types.specs.declared.slots.Holding.{Holding}
use Rattle.trace_types.specs.declared.slots.Change.TheVariants.{SetHandle}
use Rattle.object_heap.specs.declared.draft.Draft.{Draft}
use Rattle.object_heap.specs.Counted.{drafted}
use Rattle.object_heap.proofs.GainLemmas.{lost_in, changes, room}
use Rattle.object_heap.proofs.draft.Draft.replace_handle.Goals as goal

pub hold_holding-requires-clause-room : goal.hold_holding-requires-clause-room
hold_holding-requires-clause-room c =
    let old = c.args.self.now in
    room old.objects.counts (drafted old) [] c.requires.bounded c.requires.counted (omega arith)

pub let_go_held-requires : goal.let_go_held-requires
let_go_held-requires c =
    let old = c.args.self.now in
    subst (λ (h : Option Holding). HasSlots c.hold_holding.new.objects.counts (λ w. option_map_or (holding_weight w) h 0)) (sym (c.as_ref.ensures.value ∙ c.in_ok-held.ensures.was))
    (lost_in old.objects.counts c.hold_holding.new.objects.counts (drafted old) (SetHandle c.args.label c.args.handle c.args.holding.now) tt c.requires.counted c.in_ok-hold_holding.ensures.counts)

pub returns-clause-made : goal.returns-clause-made
returns-clause-made c =
    let old = c.args.self.now in
    let new : Draft = record { handles = c.set.new.self; cells = old.cells; objects = c.let_go_held.new.objects } in
    let same : c.in_ok-copy.copy ≡ c.args.holding.now = search rules in
    let rest = c.in_ok-let_go_held.ensures.entries ∙ c.in_ok-hold_holding.ensures.entries in
    let held = c.in_ok-held.ensures.held ∙ (λ i. insert old.handles.holdings c.args.handle (same i)) in
    changes old.objects.counts c.hold_holding.new.objects.counts (drafted old) (SetHandle c.args.label c.args.handle c.args.holding.now) tt c.requires.counted c.in_ok-hold_holding.ensures.counts old new refl
    (subst (λ (h : Option Holding). CountsMore c.let_go_held.new.objects.counts c.hold_holding.new.objects.counts (λ w. option_map_or (holding_weight w) h 0)) (c.as_ref.ensures.value ∙ c.in_ok-held.ensures.was) c.in_ok-let_go_held.ensures.counts)
    (λ i. record { handles = held i; cells = old.cells; objects = rest i; scopes = c.in_ok-held.ensures.scopes i })
