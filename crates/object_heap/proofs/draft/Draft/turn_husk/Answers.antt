use Rattle.std.proofs.Common.{refl, ap, ◌∙◌}
use Rattle.trace_types.specs.declared.slots.Change.{Change}
use Rattle.trace_types.specs.declared.slots.Change.TheVariants.{TurnHusk}
use Rattle.object_heap.specs.declared.draft.Draft.{Draft}
use Rattle.object_heap.specs.Counted.{drafted}
use Rattle.object_heap.specs.TableView.{Kept}
use Rattle.object_heap.proofs.ChangeWeights.{gained, lost}
use Rattle.object_heap.proofs.GainLemmas.{on_both, no_more, lost_in, changes}
use Rattle.object_heap.proofs.HuskLemmas.{husk_put, still_counted}
use Rattle.object_heap.proofs.draft.Draft.turn_husk.Goals as goal

pub let_go_object-requires : goal.let_go_object-requires
let_go_object-requires c =
    let old = c.args.self.now in
    let change : Change = TurnHusk c.args.object in
    lost_in old.objects.counts old.objects.counts (drafted old) change c.requires.can c.requires.counted (no_more old.objects.counts (gained change) (λ w. refl))

pub returns : goal.returns
returns c =
    let old = c.args.self.now in
    let mid = c.let_go_object.new.objects in
    let new : Draft = record { handles = old.handles; cells = old.cells; objects = c.set_husk.new.self } in
    let change : Change = TurnHusk c.args.object in
    let same = c.counters_of-counters.ensures ∙ ap (λ (k : Kept). k.1) c.kept-kept.ensures in
    on_both c.set_husk.result c.set_husk.ensures.entries c.set_husk.ensures.set (λ put set.
    changes old.objects.counts old.objects.counts (drafted old) change c.requires.can c.requires.counted (no_more old.objects.counts (gained change) (λ w. refl)) old new refl
    (still_counted mid c.set_husk.new.self c.args.object c.counters_of-counters.result same set old.objects.counts (lost (drafted old) change) c.in_ok-let_go_object.ensures.counts)
    (husk_put old mid c.set_husk.new.self c.args.object put c.in_ok-let_go_object.ensures.entries))
