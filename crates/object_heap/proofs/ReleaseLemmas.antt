-- What a cascade has told so far.
use Rattle.std.proofs.Common.{◌≡◌, ◌<◌, List, [], ◌∷◌, ◌++◌, ap, ◌∙◌, sym, subst, arith, append_assoc}
use Rattle.std.proofs.lemmas.List.{append-nil}
use Rattle.trace_types.specs.declared.slots.Item.{Item}
use Rattle.trace_types.specs.declared.outcomes.Event.{Event}
use Rattle.ownership_model.specs.Falling.{CascadesTo}
use Rattle.ownership_model.proofs.LawsHold.{in_turn, cascade, footprints}
use Rattle.ownership_model.specs.State.{State, IsSound}
use Rattle.ownership_model.specs.Release.{drop_first, Released, after, release, work}
use Rattle.ownership_model.specs.Footprint.{taken}
use Rattle.object_heap.specs.declared.draft.Draft.{Draft}
use Rattle.object_heap.specs.Counted.{drafted}
use Rattle.object_heap.specs.Drops.{DropsFirst}

after-after : (a b : List Event) (r : Released) → after (a ++ b) r ≡ after a (after b r)
after-after a b r = ap (λ (es : List Event). record { state = r.state; events = es }) (append_assoc a b r.events)

-- one item of a release
module _ (old new : Draft) (x : Item) (xs whole left : List Item) (before told : List Event) (first : whole ≡ x ∷ xs) (dropped : DropsFirst old new x xs left before told) where
  pub sound_next : IsSound (drafted old) whole → IsSound (drafted new) left
  sound_next sound =
      let now : IsSound (drop_first (drafted old) x xs).state (drop_first (drafted old) x xs).pending = in_turn.sound (drafted old) x xs (subst (λ (p : List Item). IsSound (drafted old) p) first sound) in
      subst (λ (p : List Item). IsSound (drafted new) p) (sym dropped.step.pending) (subst (λ (m : State). IsSound m (drop_first (drafted old) x xs).pending) (sym dropped.step.state) now)

  pub work_next : work (drafted new) left < work (drafted old) whole
  work_next =
      let smaller : work (drafted new) left ≡ work (drop_first (drafted old) x xs).state (drop_first (drafted old) x xs).pending = ap (λ (p : List Item). work (drafted new) p) dropped.step.pending ∙ ap (λ (m : State). work m (drop_first (drafted old) x xs).pending) dropped.step.state in
      let larger : work (drafted old) whole ≡ work (drafted old) (x ∷ xs) = ap (λ (p : List Item). work (drafted old) p) first in
      omega (arith, smaller, larger, in_turn.less (drafted old) x xs)

  pub release_next : after told (release (drafted new) left) ≡ after before (release (drafted old) whole)
  release_next =
      let d = drop_first (drafted old) x xs in
      let same : release (drafted new) left ≡ release d.state d.pending = ap (λ (p : List Item). release (drafted new) p) dropped.step.pending ∙ ap (λ (m : State). release m d.pending) dropped.step.state in
      ap (λ (r : Released). after told r) same
      ∙ ap (λ (es : List Event). after es (release d.state d.pending)) dropped.step.events
      ∙ after-after before d.events (release d.state d.pending)
      ∙ ap (λ (r : Released). after before r) (sym (in_turn.first (drafted old) x xs) ∙ ap (λ (p : List Item). release (drafted old) p) (sym first))

  -- the item is the first of all that the cascade drops
  pub taken_next : taken (drafted old) whole ≡ x ∷ taken (drafted new) left
  taken_next =
      let d = drop_first (drafted old) x xs in
      let rest : taken (drafted new) left ≡ taken d.state d.pending = ap (λ (p : List Item). taken (drafted new) p) dropped.step.pending ∙ ap (λ (m : State). taken m d.pending) dropped.step.state in
      ap (λ (p : List Item). taken (drafted old) p) first ∙ footprints.first_taken (drafted old) x xs ∙ ap (λ (ys : List Item). x ∷ ys) (sym rest)

-- nothing is left
pub release_end : (m : State) (before told : List Event) (left : List Item) (r : Released) → after told (release m left) ≡ after before r → left ≡ [] → (m ≡ r.state) × (told ≡ before ++ r.events)
release_end m before told left r is none =
    let same : after told (record { state = m; events = [] }) ≡ after before r = ap (λ (q : Released). after told q) (sym (in_turn.none m)) ∙ ap (λ (p : List Item). after told (release m p)) (sym none) ∙ is in
    (ap (λ (q : Released). q.state) same, sym (append-nil told) ∙ ap (λ (q : Released). q.events) same)

-- what was released from the same state is the cascade
pub cascades : (m from end : State) (pending items : List Item) (told : List Event) → IsSound m pending → from ≡ m → items ≡ pending
    → end ≡ (release from items).state → told ≡ (release from items).events → CascadesTo m end told
cascades m from end pending items told sound same all state events =
    let by : release from items ≡ release m pending = ap (λ (n : State). release n items) same ∙ ap (release m) all in
    subst (λ (n : State). CascadesTo m n told) (sym (state ∙ ap (λ (r : Released). r.state) by))
    (subst (λ (es : List Event). CascadesTo m (release m pending).state es) (sym (events ∙ ap (λ (r : Released). r.events) by)) (cascade.cascades m pending sound))
