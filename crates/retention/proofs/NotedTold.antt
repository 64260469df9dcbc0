-- Which objects stand for what is left at the end, by the numbers of a graph.
use Rattle.std.proofs.Common.{◌≡◌, ℕ, ◌+◌, ◌<◌, List, [], ◌∷◌, ◌++◌, take, map, refl, sym, ap, ◌∙◌, subst, Bool, true, inl, inr}
use Rattle.std.specs.Prelude.{Option, Some, None, not, filter, is_some, if◌then◌else◌}
use Rattle.std.proofs.lemmas.List.Elements.{filter_more}
use Rattle.std.specs.FinMap.{get, keys, contains_key-keys}
use Rattle.trace_types.specs.declared.slots.Entry.{Entry}
use Rattle.trace_types.specs.declared.slots.Entry.TheVariants.{Alive, Husk}
use Rattle.trace_types.specs.Operation.{Operation}
use Rattle.ownership_model.specs.State.{State, nothing_held, is_alive}
use Rattle.ownership_model.specs.Step.{end_from}
use Rattle.ownership_model.specs.Release.{is_husk}
use Rattle.ownership_model.specs.Reach.{has}
use Rattle.ownership_model.proofs.Searching.{has_as_any, or_left, or_right, either}
use Rattle.retention_model.specs.Since.{since_from}
use Rattle.retention.specs.declared.ending.Ending.{Ending}
use Rattle.retention.specs.Layout.{upto}
use Rattle.retention.specs.Graph.{size, object_at, alive_at}
use Rattle.retention.specs.Components.{is_least_of}
use Rattle.retention.specs.Endings.{IsEnding, IsEndOf, is_noted}
use Rattle.retention.specs.Ends.{AreAll, IsOfNote}
use Rattle.retention.proofs.JoinSteps.{has_kept, kept_has, has_upto, upto_has}
use Rattle.retention.proofs.GraphLaws.{object_index, same_index}
use Rattle.retention.proofs.AccountLemmas.{has_map, map_has}
use Rattle.retention.proofs.TotalsTold.{there, least_is, is_least, same_bool}

-- the objects of note, as a test
abbrev pub is_of_note : Ending → ℕ → Bool
is_of_note e o = has o (map (object_at e.graph) (filter (is_noted e) (upto (size e.graph))))

is_in : (e : Ending) (i : ℕ) → i < size e.graph → is_noted e i ≡ true → is_of_note e (object_at e.graph i) ≡ true
is_in e i within noted =
    has_map (object_at e.graph) i (filter (is_noted e) (upto (size e.graph))) (has_kept (is_noted e) (upto (size e.graph)) i (has_upto (size e.graph) i within) noted)

is_one : (e : Ending) (o : ℕ) → is_of_note e o ≡ true → (i : ℕ) × (i < size e.graph) × (is_noted e i ≡ true) × (object_at e.graph i ≡ o)
is_one e o h =
    let i = map_has (object_at e.graph) o (filter (is_noted e) (upto (size e.graph))) h in
    let kept = kept_has (is_noted e) (upto (size e.graph)) i.0 i.1 in
    (i.0, upto_has (size e.graph) i.0 kept.1, kept.0, i.2)

pub noted_at : (e : Ending) (i : ℕ) → i < size e.graph → is_of_note e (object_at e.graph i) ≡ is_noted e i
noted_at e i within =
    same_bool (is_of_note e (object_at e.graph i)) (is_noted e i)
    (λ h. let it = is_one e (object_at e.graph i) h in subst (λ j. is_noted e j ≡ true) (same_index e.graph it.0 i it.1 within it.3) it.2)
    (λ h. is_in e i within h)

-- one object more
pub noted_more : (e : Ending) (i : ℕ) (old new : List ℕ) → i < size e.graph → old ≡ filter (is_of_note e) (take i e.graph.objects.items)
    → new ≡ old ++ (if is_noted e i then object_at e.graph i ∷ [] else []) → new ≡ filter (is_of_note e) (take (i + 1) e.graph.objects.items)
noted_more e i old new within was is =
    is ∙ ap (λ xs. xs ++ (if is_noted e i then object_at e.graph i ∷ [] else [])) was
    ∙ ap (λ b. filter (is_of_note e) (take i e.graph.objects.items) ++ (if b then object_at e.graph i ∷ [] else [])) (sym (noted_at e i within))
    ∙ sym (filter_more (is_of_note e) e.graph.objects.items i 0 within)

dead_husk : (x : Option Entry) → is_some x ≡ true → not (is_alive x) ≡ true → is_husk x ≡ true
dead_husk None there h = absurd cc
dead_husk (Some (Alive fields)) there h = absurd cc
dead_husk (Some Husk) there h = refl

husk_dead : (x : Option Entry) → is_husk x ≡ true → (is_some x ≡ true) × (not (is_alive x) ≡ true)
husk_dead None h = absurd cc
husk_dead (Some (Alive fields)) h = absurd cc
husk_dead (Some Husk) h = (refl, refl)

module _ (ops : List Operation) (e : Ending) (of : IsEndOf ops e) (ending : IsEnding e) where
  abbrev End : State
  End = end_from nothing_held ops

  noted_is : (i : ℕ) → i < size e.graph → is_noted e i ≡ true → IsOfNote End (object_at e.graph i)
  noted_is i within h =
      either (IsOfNote End (object_at e.graph i)) (is_least_of e.cycles.parts.items e.cycles.marks.items i) (not (alive_at e.graph i)) h
      (λ stands. inl (least_is ops e of ending i within stands))
      (λ dead. inr (dead_husk (get End.objects (object_at e.graph i)) (there ops e of ending i within) (ap not (sym (of.1.alive i within)) ∙ dead)))

  key_of : (o : ℕ) → is_some (get End.objects o) ≡ true → has o (keys End.objects) ≡ true
  key_of o h = sym (contains_key-keys End.objects o ∙ has_as_any o (keys End.objects)) ∙ h

  is_noted_by : (o : ℕ) → IsOfNote End o → is_of_note e o ≡ true
  is_noted_by o (inl least) =
      let i = is_least ops e of ending o least in
      subst (λ x. is_of_note e x ≡ true) i.2 (is_in e i.0 i.1 (or_left (is_least_of e.cycles.parts.items e.cycles.marks.items i.0) (not (alive_at e.graph i.0)) i.3))
  is_noted_by o (inr husk) =
      let dead = husk_dead (get End.objects o) husk in
      let i = object_index End (λ p. since_from nothing_held ops p 0) e.graph of.1 o (key_of o dead.0) in
      let gone : not (alive_at e.graph i.0) ≡ true = ap not (of.1.alive i.0 i.1 ∙ ap (λ x. is_alive (get End.objects x)) i.2) ∙ dead.1 in
      subst (λ x. is_of_note e x ≡ true) i.2 (is_in e i.0 i.1 (or_right (is_least_of e.cycles.parts.items e.cycles.marks.items i.0) (not (alive_at e.graph i.0)) gone))

  pub noted_told : (os : List ℕ) → os ≡ filter (is_of_note e) e.graph.objects.items → AreAll End (IsOfNote End) os
  noted_told os is = (
    is_of_note e,
    λ o. ((λ h. let it = is_one e o h in subst (λ x. IsOfNote End x) it.3 (noted_is it.0 it.1 it.2)), is_noted_by o),
    is ∙ ap (λ ks. filter (is_of_note e) ks) of.1.objects,
  )
