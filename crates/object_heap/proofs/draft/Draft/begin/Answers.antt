use Rattle.std.proofs.Common.{◌≡◌, ◌∷◌, ◌++◌, List, ap, ◌∙◌, sym, subst, rules}
use Rattle.trace_types.specs.declared.slots.Item.TheVariants as item
use Rattle.trace_types.specs.declared.slots.Slot.TheVariants as slot
use Rattle.ownership_model.specs.State.{State, IsSound}
use Rattle.ownership_model.specs.Release.{release, after}
use Rattle.trace_types.specs.declared.slots.Item.{Item}
use Rattle.ownership_model.specs.Footprint.{taken}
use Rattle.object_heap.specs.Counted.{drafted}
use Rattle.object_heap.specs.Told.{at_once}
use Rattle.object_heap.proofs.GainLemmas.{on_ok}
use Rattle.object_heap.proofs.ReleaseLemmas.{sound_next, release_next, taken_next}
use Rattle.object_heap.proofs.draft.Draft.begin.Goals as goal

-- what was pending, by its first item
whole : (c : goal.After-drop_uncounted) → c.args.items.now ≡ item.Slot (slot.Strong c.in-Some-Slot-Strong-default.object) ∷ c.add_all.new.pending.items
whole c = search rules

pub returns-in-Some-Slot-Strong-default-clause-rest : goal.returns-in-Some-Slot-Strong-default-clause-rest
returns-in-Some-Slot-Strong-default-clause-rest c =
    let mid = c.add_all.new in
    let new = c.drop_uncounted.new in
    on_ok c.drop_uncounted.result c.drop_uncounted.ensures (λ dropped.
    release_next mid.self new.self _ mid.pending.items c.args.items.now new.pending.items c.args.events.now.items new.events.items (whole c) dropped
    ∙ ap (λ (m : State). after c.args.events.now.items (release m c.args.items.now)) c.in_ok-add_all.ensures.state)

pub returns-in-Some-Slot-Strong-default-clause-sound : goal.returns-in-Some-Slot-Strong-default-clause-sound
returns-in-Some-Slot-Strong-default-clause-sound c =
    let mid = c.add_all.new in
    let new = c.drop_uncounted.new in
    on_ok c.drop_uncounted.result c.drop_uncounted.ensures (λ dropped.
    sound_next mid.self new.self _ mid.pending.items c.args.items.now new.pending.items c.args.events.now.items new.events.items (whole c) dropped
    (subst (λ (m : State). IsSound m c.args.items.now) (sym c.in_ok-add_all.ensures.state) c.requires.sound))

pub returns-in-Some-Slot-Strong-default-clause-taken : goal.returns-in-Some-Slot-Strong-default-clause-taken
returns-in-Some-Slot-Strong-default-clause-taken c =
    let mid = c.add_all.new in
    let new = c.drop_uncounted.new in
    on_ok c.drop_uncounted.result c.drop_uncounted.ensures (λ dropped.
    ap (λ (m : State). taken m c.args.items.now) (sym c.in_ok-add_all.ensures.state)
    ∙ taken_next mid.self new.self _ mid.pending.items c.args.items.now new.pending.items c.args.events.now.items new.events.items (whole c) dropped
    ∙ ap (λ (xs : List Item). at_once xs ++ taken (drafted new.self) new.pending.items) (sym (whole c)))
