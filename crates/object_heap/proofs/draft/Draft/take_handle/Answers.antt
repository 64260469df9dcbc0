use Rattle.std.proofs.Common.{refl, ◌∙◌, sym, subst}
use Rattle.std.specs.Prelude.{Option}
use Rattle.std.specs.Option.{option_map_or}
use Rattle.ownership_model.specs.State.{holding_weight}
use Rattle.trace_types.specs.declared.slots.Holding.{Holding}
use Rattle.trace_types.specs.declared.slots.Change.TheVariants.{EndHandle}
use Rattle.object_heap.specs.Gains.{CountsMore, HasSlots}
use Rattle.object_heap.specs.declared.draft.Draft.{Draft}
use Rattle.object_heap.specs.Counted.{drafted}
use Rattle.object_heap.proofs.ChangeWeights.{gained}
use Rattle.object_heap.proofs.GainLemmas.{no_more, lost_in, changes}
use Rattle.object_heap.proofs.draft.Draft.take_handle.Goals as goal

pub let_go_held-requires : goal.let_go_held-requires
let_go_held-requires c =
    let old = c.args.self.now in
    subst (λ (h : Option Holding). HasSlots old.objects.counts (λ w. option_map_or (holding_weight w) h 0)) (sym (c.as_ref.ensures.value ∙ c.in_ok-held.ensures.was))
    (lost_in old.objects.counts old.objects.counts (drafted old) (EndHandle c.args.handle) c.requires.can c.requires.counted (no_more old.objects.counts (gained (EndHandle c.args.handle)) (λ w. refl)))

pub returns-clause-made : goal.returns-clause-made
returns-clause-made c =
    let old = c.args.self.now in
    let new : Draft = record { handles = c.end.new.self; cells = old.cells; objects = c.let_go_held.new.objects } in
    let stay = c.in_ok-let_go_held.ensures.entries in
    changes old.objects.counts old.objects.counts (drafted old) (EndHandle c.args.handle) c.requires.can c.requires.counted (no_more old.objects.counts (gained (EndHandle c.args.handle)) (λ w. refl)) old new refl
    (subst (λ (h : Option Holding). CountsMore c.let_go_held.new.objects.counts old.objects.counts (λ w. option_map_or (holding_weight w) h 0)) (c.as_ref.ensures.value ∙ c.in_ok-held.ensures.was) c.in_ok-let_go_held.ensures.counts)
    (λ i. record { handles = c.in_ok-held.ensures.held i; cells = old.cells; objects = stay i; scopes = c.in_ok-held.ensures.scopes i })
