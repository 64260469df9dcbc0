use Rattle.std.proofs.Common.{arith, ◌≡◌, ◌-◌, ap, ◌∙◌, sym, subst}
use Rattle.std.specs.Option.{option_copied}
use Rattle.std.specs.FinMap.{get}
use Rattle.trace_types.specs.declared.slots.Entry.{Entry}
use Rattle.std.specs.Prelude.{Option, true}
use Rattle.ownership_model.specs.State.{is_alive}
use Rattle.object_heap.specs.declared.counters.Counters.{Counters}
use Rattle.object_heap.specs.declared.draft.Draft.{Draft}
use Rattle.object_heap.specs.Counted.{drafted}
use Rattle.object_heap.specs.TableView.{Kept, counters_at}
use Rattle.object_heap.specs.Gains.{IsSetAt, ended}
use Rattle.object_heap.proofs.GainLemmas.{ends-le, on_ok, on_both, same_state}
use Rattle.object_heap.proofs.DropLemmas.{drops_last, drops_more}
use Rattle.object_heap.proofs.HuskLemmas.{alive_stands, first_alive, value_falls}
use Rattle.object_heap.proofs.draft.Draft.drop_strong.Goals as goal

pub fall-requires : goal.fall-requires
fall-requires c =
    let old = c.args.self.now in
    let is = c.entry_of.ensures ∙ ap (λ (k : Kept). k.0) c.kept-kept.ensures in
    subst (λ (e : Option Entry). is_alive e ≡ true) (sym is) (first_alive (drafted old) c.args.pending.now.items c.args.object c.requires.sound)

pub set_husk-requires : goal.set_husk-requires
set_husk-requires c =
    let old = c.args.self.now in
    alive_stands (get old.objects.entries c.args.object) (first_alive (drafted old) c.args.pending.now.items c.args.object c.requires.sound)

pub returns-then-less-eq0 : goal.returns-then-less-eq0
returns-then-less-eq0 c =
    let old = c.args.self.now in
    let new : Draft = record { handles = old.handles; cells = old.cells; objects = c.set_husk.new.self } in
    let was : c.counters_of-was.result ≡ counters_at (get old.objects.counts c.args.object) = c.counters_of-was.ensures ∙ ap (λ (k : Kept). k.1) c.kept-kept.ensures in
    let is : option_copied c.entry_of.result ≡ get old.objects.entries c.args.object = c.entry_of.ensures ∙ ap (λ (k : Kept). k.0) c.kept-kept.ensures in
    let alive = subst (λ (e : Option Entry). is_alive e ≡ true) (sym is) (first_alive (drafted old) c.args.pending.now.items c.args.object c.requires.sound) in
    on_both c.set_husk.result c.set_husk.ensures.entries c.set_husk.ensures.set (λ put set.
    drops_last old new c.args.object c.args.pending.now.items c.fall.new.pending.items c.args.events.now.items c.fall.new.events.items c.requires.sound
    (value_falls old c.set_husk.new.self c.args.object c.args.pending.now.items c.fall.new.pending.items c.args.events.now.items c.fall.new.events.items (option_copied c.entry_of.result) is alive c.in_ok-part.ensures.pending c.in_ok-part.ensures.events put)
    (subst (λ (n : Counters). IsSetAt old.objects.counts c.set_husk.new.self.counts c.args.object n) (c.ended.ensures ∙ ap ended was) set)
    c.requires.counted (sym (ap (λ (v : Counters). v.strong - 1) was) ∙ c.if-less-eq0.true))

pub returns : goal.returns
returns c =
    let old = c.args.self.now in
    let was = c.counters_of-was.result in
    let is : was ≡ counters_at (get old.objects.counts c.args.object) = c.counters_of-was.ensures ∙ ap (λ (k : Kept). k.1) c.kept-kept.ensures in
    let less : Counters = record { strong = was.strong - 1; weak = was.weak; ends = was.ends } in
    let new : Draft = record { handles = old.handles; cells = old.cells; objects = c.set_counters.new.self } in
    on_ok c.set_counters.result c.set_counters.ensures.set (λ set.
    drops_more old new c.args.object c.args.pending.now.items c.args.events.now.items less c.requires.sound c.requires.counted set (ap (λ (v : Counters). v.strong - 1) is)
    (ap (λ (v : Counters). v.weak) is) (ap (λ (v : Counters). v.ends) is) c.if-less-eq0.false (same_state old c.set_counters.new.self c.set_counters.ensures.entries))

pub ended-requires : goal.ended-requires
ended-requires c =
    let old = c.args.self.now in
    let was : c.counters_of-was.result ≡ counters_at (get old.objects.counts c.args.object) = c.counters_of-was.ensures ∙ ap (λ (k : Kept). k.1) c.kept-kept.ensures in
    omega (arith, ap (λ (v : Counters). v.ends) was, c.requires.counted.ends_is c.args.object, ends-le c.args.object c.args.pending.now.items)
