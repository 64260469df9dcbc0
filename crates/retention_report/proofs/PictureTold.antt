-- What is drawn by the graph is the picture of the state.
use Rattle.std.proofs.Common.{◌≡◌, ℕ, List, [], ◌∷◌, ◌++◌, refl, sym, ap, ◌∙◌, Bool, true, false, cond}
use Rattle.std.specs.Prelude.{Option, Some, None, flat_map, filter, ◌==◌, ◌&&◌, unwrap_or}
use Rattle.ownership_model.proofs.Searching.{or_left, or_right}
use Rattle.trace_types.specs.Slots.{named_by}
use Rattle.trace_types.specs.declared.slots.Slot.{Slot}
use Rattle.trace_types.specs.declared.slots.Slot.TheVariants.{Nothing, Strong, Weak, Dangling}
use Rattle.trace_types.specs.Operation.{Operation}
use Rattle.ownership_model.specs.State.{State, nothing_held}
use Rattle.ownership_model.specs.Step.{end_from}
use Rattle.ownership_model.specs.Reach.{has}
use Rattle.retention_model.specs.declared.place.Place.{Place}
use Rattle.retention_model.specs.declared.place.Held.{Held}
use Rattle.retention_model.specs.Places.{at, places_of}
use Rattle.retention_model.specs.Since.{since_from}
use Rattle.retention.specs.declared.ending.Ending.{Ending}
use Rattle.retention.specs.Graph.{IsGraphOf}
use Rattle.retention.specs.HeldPlaces.{held_if, held_among}
use Rattle.retention.specs.Told.{is_weak_to}
use Rattle.retention.proofs.WalkSteps.{same_number}
use Rattle.retention_text.specs.Pictures.{root_text, edge_text}
use Rattle.retention_report.specs.Pictured.{stands_in_shown, names_shown, roots_of, once, is_bold, drawn, slot_line}
use Rattle.retention_report.specs.Drawn.{is_marked_in, is_drawn, edge_of, is_joined, roots_text, edges_text}
use Rattle.retention_report.proofs.DrawLemmas.{kept_if, kept_append, kept_one}

-- ---- the text

and_false : (b : Bool) → (b && false) ≡ false
and_false true = refl
and_false false = refl

-- whether a place with this slot is drawn
abbrev drawn_at : (ℕ → Bool) → Place → Option Slot → Bool
drawn_at k p y = stands_in_shown k p && names_shown k (named_by (unwrap_or y Nothing))

none_drawn : {A : Type 0} (b : Bool) (xs : List A) → [] ≡ cond (b && false) xs []
none_drawn true xs = refl
none_drawn false xs = refl

module _ {A : Type 0} (k : ℕ → Bool) (F : Held → List A) (G : Place → Option Slot → List A) (since : Place → ℕ)
    (same : (p : Place) (s : Slot) (o : ℕ) → named_by s ≡ Some o → F (record { place = p; slot = s; since = since p }) ≡ G p (Some s)) where
  abbrev is_such : Held → Bool
  is_such x = stands_in_shown k x.place && names_shown k (named_by x.slot)

  one_place : (p : Place) (y : Option Slot) → flat_map F (filter is_such (held_if p y (since p))) ≡ cond (drawn_at k p y) (G p y) []
  one_place p None = none_drawn (stands_in_shown k p) (G p None)
  one_place p (Some Nothing) = none_drawn (stands_in_shown k p) (G p (Some Nothing))
  one_place p (Some (Strong o)) = kept_one F is_such (record { place = p; slot = Strong o; since = since p }) ∙ ap (λ zs. cond (stands_in_shown k p && k o) zs []) (same p (Strong o) o refl)
  one_place p (Some (Weak o)) = kept_one F is_such (record { place = p; slot = Weak o; since = since p }) ∙ ap (λ zs. cond (stands_in_shown k p && k o) zs []) (same p (Weak o) o refl)
  one_place p (Some Dangling) = none_drawn (stands_in_shown k p) (G p (Some Dangling))

  all_places : (m : State) (ps : List Place) → flat_map F (filter is_such (held_among m since ps)) ≡ flat_map (λ p. G p (at m p)) (filter (λ p. drawn_at k p (at m p)) ps)
  all_places m [] = refl
  all_places m (p ∷ ps) =
      kept_append F is_such (held_if p (at m p) (since p)) (held_among m since ps)
      ∙ ap (λ zs. zs ++ flat_map F (filter is_such (held_among m since ps))) (one_place p (at m p))
      ∙ ap (λ zs. cond (drawn_at k p (at m p)) (G p (at m p)) [] ++ zs) (all_places m ps)
      ∙ sym (kept_if (λ q. G q (at m q)) (drawn_at k p (at m p)) p (filter (λ q. drawn_at k q (at m q)) ps))

pub same_kept : {A : Type 0} (F G : ℕ → List A) (K : ℕ → Bool) (xs : List ℕ) → ((o : ℕ) → has o xs ≡ true → F o ≡ G o) → flat_map F (filter K xs) ≡ flat_map G (filter K xs)
same_kept F G K [] same = refl
same_kept F G K (x ∷ xs) same =
    kept_if F (K x) x (filter K xs) ∙ ap (λ zs. cond (K x) zs [] ++ flat_map F (filter K xs)) (same x (or_left (x == x) (has x xs) (same_number x)))
    ∙ ap (λ zs. cond (K x) (G x) [] ++ zs) (same_kept F G K xs (λ o h. same o (or_right (x == o) (has o xs) h)))
    ∙ sym (kept_if G (K x) x (filter K xs))

-- the line of a slot, by what stands at its place
abbrev line_at : (ℕ → ℕ → Bool) → (Place → ℕ) → Place → Option Slot → List ℕ
line_at joined since p y =
    let o : ℕ = unwrap_or (named_by (unwrap_or y Nothing)) 0 in
    edge_text p o (since p) (is_weak_to o y) (is_bold joined p o)

edge_same : (e : Ending) (since : Place → ℕ) (p : Place) (s : Slot) (o : ℕ) → named_by s ≡ Some o → edge_of e (record { place = p; slot = s; since = since p }) ≡ line_at (is_joined e) since p (Some s)
edge_same e since p Nothing o h = absurd cc
edge_same e since p (Strong r) o h = refl
edge_same e since p (Weak r) o h = ap (λ b. edge_text p r (since p) b (is_bold (is_joined e) p r)) (sym (same_number r))
edge_same e since p Dangling o h = absurd cc

pub edges_same : (ops : List Operation) (e : Ending) (shown : List Bool) (leaked : ℕ → Bool)
    → IsGraphOf (end_from nothing_held ops) (λ p. since_from nothing_held ops p 0) e.graph
    → edges_text e shown ≡ flat_map (slot_line ops (end_from nothing_held ops) (is_marked_in e.graph.objects.items shown) leaked (is_joined e))
    (drawn ops (end_from nothing_held ops) (is_marked_in e.graph.objects.items shown) leaked (is_joined e))
edges_same ops e shown leaked is =
    ap (λ hs. flat_map (edge_of e) (filter (is_drawn e.graph.objects.items shown) hs)) is.held
    ∙ all_places (is_marked_in e.graph.objects.items shown) (edge_of e) (line_at (is_joined e) (λ p. since_from nothing_held ops p 0)) (λ p. since_from nothing_held ops p 0) (edge_same e (λ p. since_from nothing_held ops p 0))
    (end_from nothing_held ops) (places_of (end_from nothing_held ops))

pub roots_same : (ops : List Operation) (e : Ending) (shown : List Bool) (leaked : ℕ → Bool)
    → IsGraphOf (end_from nothing_held ops) (λ p. since_from nothing_held ops p 0) e.graph
    → roots_text e.graph shown ≡ flat_map root_text (once (flat_map roots_of (drawn ops (end_from nothing_held ops) (is_marked_in e.graph.objects.items shown) leaked (is_joined e))))
roots_same ops e shown leaked is =
    ap (λ ps. flat_map root_text (once ps)) (
    ap (λ hs. flat_map (λ (x : Held). roots_of x.place) (filter (is_drawn e.graph.objects.items shown) hs)) is.held
    ∙ all_places (is_marked_in e.graph.objects.items shown) (λ (x : Held). roots_of x.place) (λ p y. roots_of p) (λ p. since_from nothing_held ops p 0) (λ p s o h. refl)
    (end_from nothing_held ops) (places_of (end_from nothing_held ops))
    )
