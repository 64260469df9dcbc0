use Rattle.std.proofs.Common.{◌≡◌, ◌-◌, refl, ap, ◌∙◌, sym, true, false}
use Rattle.object_heap.specs.declared.counters.Counters.{Counters}
use Rattle.object_heap.specs.declared.draft.Draft.{Draft}
use Rattle.object_heap.specs.Counted.{drafted}
use Rattle.object_heap.specs.TableView.{Kept, counters_at}
use Rattle.std.specs.FinMap.{get}
use Rattle.std.specs.Prelude.{Option, ◌==◌, ◌&&◌}
use Rattle.trace_types.specs.declared.slots.Entry.{Entry}
use Rattle.ownership_model.specs.Release.{is_husk}
use Rattle.object_heap.proofs.GainLemmas.{on_ok, on_both, same_state}
use Rattle.object_heap.proofs.DropLemmas.{drops_weak, quiet}
use Rattle.object_heap.proofs.draft.Draft.drop_weak.Goals as goal

pub returns-then-is_last : goal.returns-then-is_last
returns-then-is_last c =
    let old = c.args.self.now in
    let was = c.counters_of-was.result in
    let is : was ≡ counters_at (get old.objects.counts c.args.object) = c.counters_of-was.ensures ∙ ap (λ (k : Kept). k.1) c.kept-kept.ensures in
    let less : Counters = record { strong = was.strong; weak = was.weak - 1; ends = was.ends } in
    on_both c.free.result c.free.ensures.step c.free.ensures.set (λ step set.
    drops_weak old c.free.new.self c.args.object c.args.rest.now.items c.args.events.now.items c.free.new.events.items less set
    (ap (λ (v : Counters). v.strong) is) true c.requires.sound c.requires.counted (ap (λ (v : Counters). v.weak - 1) is) (ap (λ (v : Counters). v.ends) is)
    (sym c.if-is_last.true ∙ c.is_last.ensures ∙ ap (λ (e : Option Entry). (less.weak == 0) && (is_husk e && (less.ends == 0))) (c.entry_of.ensures ∙ ap (λ (k : Kept). k.0) c.kept-kept.ensures))
    (record { state = step.state; pending = refl; events = step.events }))

pub returns : goal.returns
returns c =
    let old = c.args.self.now in
    let was = c.counters_of-was.result in
    let is : was ≡ counters_at (get old.objects.counts c.args.object) = c.counters_of-was.ensures ∙ ap (λ (k : Kept). k.1) c.kept-kept.ensures in
    let less : Counters = record { strong = was.strong; weak = was.weak - 1; ends = was.ends } in
    let new : Draft = record { handles = old.handles; cells = old.cells; objects = c.set_counters.new.self } in
    on_ok c.set_counters.result c.set_counters.ensures.set (λ set.
    drops_weak old new c.args.object c.args.rest.now.items c.args.events.now.items c.args.events.now.items less set
    (ap (λ (v : Counters). v.strong) is) false c.requires.sound c.requires.counted (ap (λ (v : Counters). v.weak - 1) is) (ap (λ (v : Counters). v.ends) is)
    (sym c.if-is_last.false ∙ c.is_last.ensures ∙ ap (λ (e : Option Entry). (less.weak == 0) && (is_husk e && (less.ends == 0))) (c.entry_of.ensures ∙ ap (λ (k : Kept). k.0) c.kept-kept.ensures))
    (quiet (drafted old) (drafted new) c.args.rest.now.items c.args.events.now.items (same_state old c.set_counters.new.self c.set_counters.ensures.entries)))
