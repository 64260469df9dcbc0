use Rattle.std.proofs.Common.{◌≡◌, ◌-◌, refl, ap, ◌∙◌, sym, true, false}
use Rattle.object_heap.specs.declared.counters.Counters.{Counters}
use Rattle.object_heap.specs.declared.draft.Draft.{Draft}
use Rattle.object_heap.specs.Counted.{drafted}
use Rattle.object_heap.specs.TableView.{Kept, counters_at}
use Rattle.std.specs.FinMap.{get}
use Rattle.object_heap.proofs.GainLemmas.{on_ok, on_both, same_state}
use Rattle.object_heap.proofs.DropLemmas.{drops_end, quiet, is_none, is_some}
use Rattle.object_heap.proofs.draft.Draft.drop_end.Goals as goal

pub returns-then-less-eq0 : goal.returns-then-less-eq0
returns-then-less-eq0 c =
    let old = c.args.self.now in
    let was = c.counters_of-was.result in
    let is : was ≡ counters_at (get old.objects.counts c.args.object) = c.counters_of-was.ensures ∙ ap (λ (k : Kept). k.1) c.kept-kept.ensures in
    let less : Counters = record { strong = was.strong; weak = was.weak; ends = was.ends - 1 } in
    on_both c.free.result c.free.ensures.step c.free.ensures.set (λ step set.
    drops_end old c.free.new.self c.args.object c.args.rest.now.items c.args.events.now.items c.free.new.events.items less set
    (ap (λ (v : Counters). v.strong) is) true c.requires.sound c.requires.counted (ap (λ (v : Counters). v.weak) is) (ap (λ (v : Counters). v.ends - 1) is)
    (sym (is_none was.weak c.if-less-eq0.true))
    (record { state = step.state; pending = refl; events = step.events }))

pub returns : goal.returns
returns c =
    let old = c.args.self.now in
    let was = c.counters_of-was.result in
    let is : was ≡ counters_at (get old.objects.counts c.args.object) = c.counters_of-was.ensures ∙ ap (λ (k : Kept). k.1) c.kept-kept.ensures in
    let less : Counters = record { strong = was.strong; weak = was.weak; ends = was.ends - 1 } in
    let new : Draft = record { handles = old.handles; cells = old.cells; objects = c.set_counters.new.self } in
    on_ok c.set_counters.result c.set_counters.ensures.set (λ set.
    drops_end old new c.args.object c.args.rest.now.items c.args.events.now.items c.args.events.now.items less set
    (ap (λ (v : Counters). v.strong) is) false c.requires.sound c.requires.counted (ap (λ (v : Counters). v.weak) is) (ap (λ (v : Counters). v.ends - 1) is)
    (sym (is_some was.weak c.if-less-eq0.false))
    (quiet (drafted old) (drafted new) c.args.rest.now.items c.args.events.now.items (same_state old c.set_counters.new.self c.set_counters.ensures.entries)))
