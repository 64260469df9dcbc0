-- The places that are told to hold an object, or to keep its allocation, are those of the state.
use Rattle.std.proofs.Common.{◌≡◌, ℕ, zero, suc, ◌<◌, List, [], ◌∷◌, ◌++◌, length, get_or, map, refl, sym, ap, ◌∙◌, subst, arith, Bool, true, false}
use Rattle.std.specs.Prelude.{Option, Some, None, ◌==◌, filter, unwrap_or, slice_index, if◌then◌else◌}
use Rattle.std.proofs.lemmas.Bool.Decides.{nat_tests}
use Rattle.std.proofs.lemmas.List.{same_lists, length-map, get_or-map}
use Rattle.std.proofs.lemmas.List.Elements.{filter-append}
use Rattle.std.proofs.lemmas.List.FromFn.{length-range_with_len, get_or-range_with_len}
use Rattle.trace_types.specs.declared.slots.Slot.{Slot}
use Rattle.trace_types.specs.declared.slots.Slot.TheVariants.{Nothing, Strong, Weak, Dangling}
use Rattle.ownership_model.specs.State.{State}
use Rattle.retention_model.specs.declared.place.Place.{Place}
use Rattle.retention_model.specs.declared.place.Place.TheVariants.{Cell}
use Rattle.retention_model.specs.declared.place.Held.{Held}
use Rattle.retention_model.specs.Places.{at, places_of}
use Rattle.retention.specs.declared.graph.Graph.{Graph}
use Rattle.retention.specs.HeldPlaces.{held_if, held_among}
use Rattle.retention.specs.Layout.{upto, naming}
use Rattle.trace_types.specs.Slots.{named_by}
use Rattle.retention.specs.Graph.{size, places, object_at, held_at, target_at, IsGraphOf}
use Rattle.retention.specs.Told.{is_strong_to, is_weak_to}
use Rattle.retention.specs.AccountsAt.{is_such, holders_at}
use Rattle.retention.proofs.GraphLaws.{held_of, tells}

-- whether a slot names the object
abbrev slot_names : ℕ → Slot → Bool
slot_names o Nothing = false
slot_names o (Strong q) = q == o
slot_names o (Weak q) = q == o
slot_names o Dangling = false

-- whether it is an Arc to it, or a Weak
abbrev holds_so : Bool → ℕ → Option Slot → Bool
holds_so true o s = is_weak_to o s
holds_so false o s = is_strong_to o s

-- a list that is gone through with a function and a test
filter_map_alike : (f : ℕ → Held) (q : ℕ → Bool) (t : Held → Bool) (xs : List ℕ) → ((i : ℕ) → i < length xs → q (get_or xs i 0) ≡ t (f (get_or xs i 0))) → map f (filter q xs) ≡ filter t (map f xs)
filter_map_alike f q t [] same = refl
filter_map_alike f q t (x ∷ xs) same = by_test (q x) (t (f x)) (same 0 (omega arith)) (filter_map_alike f q t xs (λ i less. same (suc i) (omega (arith, less))))
  where
    by_test : (a b : Bool) → a ≡ b → map f (filter q xs) ≡ filter t (map f xs) → map f (if a then x ∷ filter q xs else filter q xs) ≡ (if b then f x ∷ filter t (map f xs) else filter t (map f xs))
    by_test true true e rest = ap (λ hs. f x ∷ hs) rest
    by_test true false e rest = absurd cc
    by_test false true e rest = absurd cc
    by_test false false e rest = rest

abbrev no_place : Held
no_place = record { place = Cell 0; slot = Nothing; since = 0 }

-- the places in order are the list
all_places : (g : Graph) → map (held_at g) (upto (places g)) ≡ g.held.items
all_places g =
    same_lists (map (held_at g) (upto (places g))) g.held.items (length-map (upto (places g)) (held_at g) ∙ length-range_with_len 0 (places g))
    (λ k d less. at_index k d (omega (arith, less, length-map (upto (places g)) (held_at g), length-range_with_len 0 (places g))))
  where
    at_index : (k : ℕ) (d : Held) → k < places g → get_or (map (held_at g) (upto (places g))) k d ≡ get_or g.held.items k d
    at_index k d less =
        get_or-map (held_at g) (upto (places g)) k 0 d (omega (arith, less, length-range_with_len 0 (places g)))
        ∙ ap (held_at g) (get_or-range_with_len 0 (places g) k 0 less ∙ omega arith)
        ∙ any_default g.held.items k no_place d less
      where
        any_default : (hs : List Held) (i : ℕ) (a b : Held) → i < length hs → get_or hs i a ≡ get_or hs i b
        any_default [] i a b less = absurd (omega (arith, less))
        any_default (h ∷ hs) zero a b less = refl
        any_default (h ∷ hs) (suc i) a b less = any_default hs i a b (omega (arith, less))

module _ (m : State) (since : Place → ℕ) (weakly : Bool) (o : ℕ) where
  abbrev chosen : List Held → List Held
  chosen hs = filter (λ (h : Held). is_such weakly h.slot) (filter (λ (h : Held). slot_names o h.slot) hs)

  abbrev told : List Place → List Held
  told ps = map (held_of m since) (filter (λ p. holds_so weakly o (at m p)) ps)

-- one place
one_told : (weakly : Bool) (o : ℕ) (p : Place) (s : Option Slot) (d : ℕ)
    → filter (λ (h : Held). is_such weakly h.slot) (filter (λ (h : Held). slot_names o h.slot) (held_if p s d)) ≡ (if holds_so weakly o s then record { place = p; slot = unwrap_or s Nothing; since = d } ∷ [] else [])
one_told true o p None d = refl
one_told false o p None d = refl
one_told true o p (Some Nothing) d = refl
one_told false o p (Some Nothing) d = refl
one_told true o p (Some Dangling) d = refl
one_told false o p (Some Dangling) d = refl
one_told true o p (Some (Strong q)) d = by_test (q == o)
  where
    by_test : (b : Bool) → filter (λ (h : Held). is_such true h.slot) (if b then record { place = p; slot = Strong q; since = d } ∷ [] else []) ≡ []
    by_test true = refl
    by_test false = refl
one_told false o p (Some (Strong q)) d = by_test (q == o)
  where
    by_test : (b : Bool) → filter (λ (h : Held). is_such false h.slot) (if b then record { place = p; slot = Strong q; since = d } ∷ [] else []) ≡ (if b then record { place = p; slot = Strong q; since = d } ∷ [] else [])
    by_test true = refl
    by_test false = refl
one_told true o p (Some (Weak q)) d = by_test (q == o)
  where
    by_test : (b : Bool) → filter (λ (h : Held). is_such true h.slot) (if b then record { place = p; slot = Weak q; since = d } ∷ [] else []) ≡ (if b then record { place = p; slot = Weak q; since = d } ∷ [] else [])
    by_test true = refl
    by_test false = refl
one_told false o p (Some (Weak q)) d = by_test (q == o)
  where
    by_test : (b : Bool) → filter (λ (h : Held). is_such false h.slot) (if b then record { place = p; slot = Weak q; since = d } ∷ [] else []) ≡ []
    by_test true = refl
    by_test false = refl

-- all places
places_told : (m : State) (since : Place → ℕ) (weakly : Bool) (o : ℕ) (ps : List Place) → chosen m since weakly o (held_among m since ps) ≡ told m since weakly o ps
places_told m since weakly o [] = refl
places_told m since weakly o (p ∷ ps) =
    ap (filter (λ (h : Held). is_such weakly h.slot)) (filter-append (λ (h : Held). slot_names o h.slot) (held_if p (at m p) (since p)) (held_among m since ps))
    ∙ filter-append (λ (h : Held). is_such weakly h.slot) (filter (λ (h : Held). slot_names o h.slot) (held_if p (at m p) (since p))) (filter (λ (h : Held). slot_names o h.slot) (held_among m since ps))
    ∙ ap (λ hs. hs ++ chosen m since weakly o (held_among m since ps)) (one_told weakly o p (at m p) (since p))
    ∙ by_test (holds_so weakly o (at m p)) (places_told m since weakly o ps)
  where
    by_test : (b : Bool) → chosen m since weakly o (held_among m since ps) ≡ told m since weakly o ps
        → (if b then held_of m since p ∷ [] else []) ++ chosen m since weakly o (held_among m since ps) ≡ map (held_of m since) (if b then p ∷ filter (λ q. holds_so weakly o (at m q)) ps else filter (λ q. holds_so weakly o (at m q)) ps)
    by_test true rest = ap (λ hs. held_of m since p ∷ hs) rest
    by_test false rest = rest

tests_alike : (t i o x : ℕ) → (t ≡ i → o ≡ x) → (o ≡ x → t ≡ i) → (t == i) ≡ (o == x)
tests_alike t i o x there back = both (t == i) (o == x) (λ e. test o x (there (number t i e))) (λ e. test t i (back (number o x e)))
  where
    number : (a b : ℕ) → (a == b) ≡ true → a ≡ b
    number a b e = grind (arith, nat_tests, e)

    test : (a b : ℕ) → a ≡ b → (a == b) ≡ true
    test a b e = grind (arith, nat_tests, e)

    both : (a b : Bool) → (a ≡ true → b ≡ true) → (b ≡ true → a ≡ true) → a ≡ b
    both true b f g = sym (f refl)
    both false true f g = g refl
    both false false f g = refl

module _ (m : State) (since : Place → ℕ) (g : Graph) (is : IsGraphOf m since g) where
  -- which object a place names
  named_alike : (s : Slot) (t i q : ℕ) → named_by s ≡ Some q → (t ≡ i → q ≡ object_at g i) → (q ≡ object_at g i → t ≡ i) → (t == i) ≡ slot_names (object_at g i) s
  named_alike Nothing t i q e there back = absurd cc
  named_alike (Strong o) t i q e there back = let same : o ≡ q = cc in tests_alike t i o (object_at g i) (λ x. same ∙ there x) (λ x. back (sym same ∙ x))
  named_alike (Weak o) t i q e there back = let same : o ≡ q = cc in tests_alike t i o (object_at g i) (λ x. same ∙ there x) (λ x. back (sym same ∙ x))
  named_alike Dangling t i q e there back = absurd cc

  pub holders_told : (weakly : Bool) (i : ℕ) → i < size g → holders_at g weakly i ≡ map (held_of m since) (filter (λ p. holds_so weakly (object_at g i) (at m p)) (places_of m))
  holders_told weakly i within =
      let long : length g.targets.items ≡ places g = omega (arith, g.laid.targets_long, g.held.ok.0) in
      let numbers : naming g.targets.items i ≡ filter (λ p. slice_index g.targets.items p == i) (upto (places g)) = ap (λ n. filter (λ p. slice_index g.targets.items p == i) (upto n)) long in
      let alike : map (held_at g) (filter (λ p. slice_index g.targets.items p == i) (upto (places g))) ≡ filter (λ (h : Held). slot_names (object_at g i) h.slot) (map (held_at g) (upto (places g))) =
      filter_map_alike (held_at g) (λ p. slice_index g.targets.items p == i) (λ (h : Held). slot_names (object_at g i) h.slot) (upto (places g))
      (λ k less.
      let n : length (upto (places g)) ≡ places g = length-range_with_len 0 (places g) in
      let p : get_or (upto (places g)) k 0 ≡ k = get_or-range_with_len 0 (places g) k 0 (omega (arith, less, n)) ∙ omega arith in
      let inside : k < places g = omega (arith, less, n) in
      let t = tells m since g is k inside in
      subst (λ x. (slice_index g.targets.items x == i) ≡ slot_names (object_at g i) (held_at g x).slot) (sym p)
      (named_alike (held_at g k).slot (target_at g k) i t.object t.names
      (is.targets.each k inside t.object i t.names within).0 (is.targets.each k inside t.object i t.names within).1)) in
      ap (λ ps. filter (λ (h : Held). is_such weakly h.slot) (map (held_at g) ps)) numbers
      ∙ ap (filter (λ (h : Held). is_such weakly h.slot)) (alike ∙ ap (filter (λ (h : Held). slot_names (object_at g i) h.slot)) (all_places g ∙ is.held))
      ∙ places_told m since weakly (object_at g i) (places_of m)
