-- A graph is made of a state: its places object by object.
use Rattle.std.proofs.Common.{◌≡◌, ℕ, zero, suc, ◌+◌, ◌-◌, ◌<◌, ◌≤◌, List, [], ◌∷◌, ◌++◌, length, get_or, map, take, refl, sym, ap, ◌∙◌, subst, arith, append_assoc, append-nil, true, false, length-append}
use Rattle.std.specs.Prelude.{Option, Some, None, flat_map, nat_lt}
use Rattle.std.specs.List.{AllByRecursion}
use Rattle.std.proofs.lemmas.Bool.Decides.{nat_tests}
use Rattle.std.proofs.lemmas.List.{take_more, get_or_append_left, get_or_push, get_or-append_right, get_or-map}
use Rattle.std.proofs.lemmas.List.Elements.{All-from_recursion}
use Rattle.std.specs.FinMap.{FinMap, get, keys}
use Rattle.std.specs.Ordering.{nat_cmp}
use Rattle.std.proofs.lemmas.Map.Keys.{below_from_sorted}
use Rattle.retention.specs.Layout.{IsRising}
use Rattle.trace_types.specs.declared.slots.Slot.{Slot}
use Rattle.trace_types.specs.declared.slots.Slot.TheVariants.{Nothing}
use Rattle.trace_types.specs.declared.slots.Holding.{Holding}
use Rattle.trace_types.specs.declared.slots.Holding.TheVariants as holding
use Rattle.trace_types.specs.declared.slots.Entry.{Entry}
use Rattle.trace_types.specs.declared.slots.Entry.TheVariants.{Alive, Husk}
use Rattle.ownership_model.specs.State.{State, is_alive}
use Rattle.retention_model.specs.declared.place.Place.{Place}
use Rattle.retention_model.specs.declared.place.Place.TheVariants.{Handle, Cell, Field}
use Rattle.retention_model.specs.declared.place.Held.{Held}
use Rattle.retention_model.specs.Places.{IsRoot, IsFieldOf, places_from, handle_places, object_places}
use Rattle.retention.specs.declared.graph.Graph.{Graph}
use Rattle.retention.specs.HeldPlaces.{held_among, root_places_of, field_places_of}
use Rattle.retention.specs.Targets.{AreTargets}
use Rattle.retention.specs.Graph.{size, places, object_at, held_at, start_at, IsFieldAt, IsGraphOf}
use Rattle.retention.proofs.HeldLemmas.{Tells, held_append, held_all, keys_sorted}
use Rattle.retention.proofs.WalkSteps.{by_number, apart_number}
use Rattle.retention.proofs.GraphLaws.{same_index, test_below}

-- Lists that are made one after another.

flat_append : (f : ℕ → List Place) (xs ys : List ℕ) → flat_map f (xs ++ ys) ≡ flat_map f xs ++ flat_map f ys
flat_append f [] ys = refl
flat_append f (x ∷ xs) ys = ap (λ ps. f x ++ ps) (flat_append f xs ys) ∙ sym (append_assoc (f x) (flat_map f xs) (flat_map f ys))

flat_more : (f : ℕ → List Place) (xs : List ℕ) (k : ℕ) → k < length xs → flat_map f (take (k + 1) xs) ≡ flat_map f (take k xs) ++ f (get_or xs k 0)
flat_more f xs k h = ap (flat_map f) (take_more xs k 0 h) ∙ flat_append f (take k xs) (get_or xs k 0 ∷ []) ∙ ap (λ ps. flat_map f (take k xs) ++ ps) (append-nil (f (get_or xs k 0)))

-- the places of one more number, behind what was there before
pub held_more : (m : State) (since : Place → ℕ) (f : ℕ → List Place) (xs : List ℕ) (k x : ℕ) (base old new : List Held) → k < length xs → get_or xs k 0 ≡ x
    → old ≡ base ++ held_among m since (flat_map f (take k xs)) → new ≡ old ++ held_among m since (f x) → new ≡ base ++ held_among m since (flat_map f (take (k + 1) xs))
held_more m since f xs k x base old new h is was now =
    now ∙ ap (λ hs. hs ++ held_among m since (f x)) was
    ∙ append_assoc base (held_among m since (flat_map f (take k xs))) (held_among m since (f x))
    ∙ ap (λ hs. base ++ hs) (sym (held_append m since (flat_map f (take k xs)) (f x)))
    ∙ ap (λ y. base ++ held_among m since (flat_map f (take k xs) ++ f y)) (sym is)
    ∙ ap (λ ps. base ++ held_among m since ps) (sym (flat_more f xs k h))

-- where the fields of one object more begin
pub starts_more : (starts : List ℕ) (k v low high : ℕ) → length starts ≡ k → v ≡ low → low ≤ high
    → ((i : ℕ) → i < k → (i + 1 < k → get_or starts i 0 ≤ get_or starts (i + 1) 0) × (get_or starts i 0 ≤ low))
    → (i : ℕ) → i < k + 1 → (i + 1 < k + 1 → get_or (starts ++ v ∷ []) i 0 ≤ get_or (starts ++ v ∷ []) (i + 1) 0) × (get_or (starts ++ v ∷ []) i 0 ≤ high)
starts_more starts k v low high long is less rising i h =
    by_number (λ x. (x + 1 < k + 1 → get_or (starts ++ v ∷ []) x 0 ≤ get_or (starts ++ v ∷ []) (x + 1) 0) × (get_or (starts ++ v ∷ []) x 0 ≤ high)) k i
    (λ u. absurd (omega (arith, u)), subst (λ x. x ≤ high) (sym (get_or_push starts v 0 k long)) (omega (arith, is, less)))
    (λ e.
    let below : i < k = (let apart : i ≡ k → ⊥ = apart_number i k e in omega (arith, apart, h)) in
    let old : get_or (starts ++ v ∷ []) i 0 ≡ get_or starts i 0 = get_or_append_left starts (v ∷ []) 0 i (omega (arith, below, long)) in
    let top : get_or starts i 0 ≤ low = (rising i below).1 in (
      λ u. by_number (λ y. y ≡ i + 1 → get_or (starts ++ v ∷ []) i 0 ≤ get_or (starts ++ v ∷ []) y 0) k (i + 1)
          (λ s. subst (λ x. get_or (starts ++ v ∷ []) i 0 ≤ x) (sym (get_or_push starts v 0 k long)) (subst (λ x. x ≤ v) (sym old) (omega (arith, top, is))))
          (λ f s.
          let next : i + 1 < k = (let apart : i + 1 ≡ k → ⊥ = apart_number (i + 1) k f in omega (arith, apart, u)) in
          subst (λ x. get_or (starts ++ v ∷ []) i 0 ≤ x) (sym (get_or_append_left starts (v ∷ []) 0 (i + 1) (omega (arith, next, long)))) (subst (λ x. x ≤ get_or starts (i + 1) 0) (sym old) ((rising i below).0 next))) refl,
      subst (λ x. x ≤ high) (sym old) (omega (arith, top, less)),
    ))

pub each_more : (m : State) (since : Place → ℕ) (os : List ℕ) (base held : List Held) (starts : List ℕ) (k v : ℕ) → length starts ≡ k → v ≡ length held
    → held ≡ base ++ held_among m since (field_places_of m (take k os)) → ((i : ℕ) → i < k → get_or starts i 0 ≡ length base + length (held_among m since (field_places_of m (take i os))))
    → (i : ℕ) → i < k + 1 → get_or (starts ++ v ∷ []) i 0 ≡ length base + length (held_among m since (field_places_of m (take i os)))
each_more m since os base held starts k v long is are each i h =
    by_number (λ x. get_or (starts ++ v ∷ []) x 0 ≡ length base + length (held_among m since (field_places_of m (take x os)))) k i
    (get_or_push starts v 0 k long ∙ is ∙ ap length are ∙ length-append base (held_among m since (field_places_of m (take k os))))
    (λ e. let below : i < k = (let apart : i ≡ k → ⊥ = apart_number i k e in omega (arith, apart, h)) in
    get_or_append_left starts (v ∷ []) 0 i (omega (arith, below, long)) ∙ each i below)

-- What the places are of.

roots_append : (ps qs : List Place) → AllByRecursion IsRoot ps → AllByRecursion IsRoot qs → AllByRecursion IsRoot (ps ++ qs)
roots_append [] qs a b = b
roots_append (p ∷ ps) qs a b = (a.0, roots_append ps qs a.1 b)

from_roots : (h i : ℕ) (ss : List Slot) → AllByRecursion IsRoot (places_from (λ i. Handle h (Some i)) i ss)
from_roots h i [] = tt
from_roots h i (s ∷ ss) = (tt, from_roots h (i + 1) ss)

handle_roots : (h : ℕ) (x : Option Holding) → AllByRecursion IsRoot (handle_places h x)
handle_roots h None = tt
handle_roots h (Some (holding.Slot s)) = (tt, tt)
handle_roots h (Some (holding.Bare fields)) = from_roots h 0 fields

flat_roots : (f : ℕ → List Place) → ((k : ℕ) → AllByRecursion IsRoot (f k)) → (ks : List ℕ) → AllByRecursion IsRoot (flat_map f ks)
flat_roots f all [] = tt
flat_roots f all (k ∷ ks) = roots_append (f k) (flat_map f ks) (all k) (flat_roots f all ks)

all_roots : (m : State) → AllByRecursion IsRoot (root_places_of m)
all_roots m =
    roots_append (flat_map (λ h. handle_places h (get m.handles h)) (keys m.handles)) (flat_map (λ c. Cell c ∷ []) (keys m.cells))
    (flat_roots (λ h. handle_places h (get m.handles h)) (λ h. handle_roots h (get m.handles h)) (keys m.handles)) (flat_roots (λ c. Cell c ∷ []) (λ c. (tt, tt)) (keys m.cells))

from_fields : (o i : ℕ) (ss : List Slot) → AllByRecursion (IsFieldOf o) (places_from (Field o) i ss)
from_fields o i [] = tt
from_fields o i (s ∷ ss) = (refl, from_fields o (i + 1) ss)

object_fields : (o : ℕ) (x : Option Entry) → AllByRecursion (IsFieldOf o) (object_places o x)
object_fields o None = tt
object_fields o (Some (Alive fields)) = from_fields o 0 fields
object_fields o (Some Husk) = tt

-- Of the fields of some objects.
module _ (m : State) (since : Place → ℕ) where
  abbrev pub Fields : List ℕ → List Held
  Fields os = held_among m since (field_places_of m os)

  abbrev pub Own : ℕ → List Held
  Own o = held_among m since (object_places o (get m.objects o))

  fields_cons : (o : ℕ) (os : List ℕ) → Fields (o ∷ os) ≡ Own o ++ Fields os
  fields_cons o os = held_append m since (object_places o (get m.objects o)) (field_places_of m os)

  length_cons : (o : ℕ) (os : List ℕ) → length (Fields (o ∷ os)) ≡ length (Own o) + length (Fields os)
  length_cons o os = ap length (fields_cons o os) ∙ length-append (Own o) (Fields os)

  own_field : (o q : ℕ) (d : Held) → q < length (Own o) → IsFieldOf o (get_or (Own o) q d).place
  own_field o q d h = (All-from_recursion (λ x. Tells m since x × IsFieldOf o x.place) (Own o) (held_all m since (IsFieldOf o) (object_places o (get m.objects o)) (object_fields o (get m.objects o))) q d h).1

  -- a place between the ends of two objects is a field of the second
  segment : (os : List ℕ) (i q : ℕ) (d : Held) → i < length os → length (Fields (take i os)) ≤ q → q < length (Fields (take (suc i) os)) → IsFieldOf (get_or os i 0) (get_or (Fields os) q d).place
  segment [] i q d h l u = absurd (omega (arith, h))
  segment (o ∷ os) zero q d h l u =
      let e : length (Fields (o ∷ [])) ≡ length (Own o) + 0 = length_cons o [] in
      let below : q < length (Own o) = omega (arith, e, u) in
      subst (λ (hs : List Held). IsFieldOf o (get_or hs q d).place) (sym (fields_cons o os)) (subst (λ (x : Held). IsFieldOf o x.place) (sym (get_or_append_left (Own o) (Fields os) d q below)) (own_field o q d below))
  segment (o ∷ os) (suc i) q d h l u =
      let low : length (Fields (o ∷ take i os)) ≡ length (Own o) + length (Fields (take i os)) = length_cons o (take i os) in
      let high : length (Fields (o ∷ take (suc i) os)) ≡ length (Own o) + length (Fields (take (suc i) os)) = length_cons o (take (suc i) os) in
      let own : length (Own o) ≤ q = omega (arith, low, l) in
      subst (λ (hs : List Held). IsFieldOf (get_or os i 0) (get_or hs q d).place) (sym (fields_cons o os))
      (subst (λ (x : Held). IsFieldOf (get_or os i 0) x.place) (sym (get_or-append_right (Own o) (Fields os) (length (Own o)) q d refl own))
      (segment os i (q - length (Own o)) d (omega (arith, h)) (omega (arith, low, l)) (omega (arith, high, u, own))))

not_below : (a b : ℕ) → nat_lt a b ≡ false → b ≤ a
not_below a b e = grind (arith, nat_tests, e)

-- A root is no field.
root_or_field : (q : Place) (o : ℕ) → IsRoot q → IsFieldOf o q → ⊥
root_or_field (Handle h i) o r f = f
root_or_field (Cell c) o r f = f
root_or_field (Field p i) o r f = r

one_owner : (q : Place) (o p : ℕ) → IsFieldOf o q → IsFieldOf p q → o ≡ p
one_owner (Handle h i) o p a b = absurd a
one_owner (Cell c) o p a b = absurd a
one_owner (Field r i) o p a b = sym a ∙ b

-- The lists of a graph, made of a state.
module _ (m : State) (since : Place → ℕ) (g : Graph) (R : List Held)
    (objects : g.objects.items ≡ keys m.objects)
    (alive : g.alive.items ≡ map (λ o. is_alive (get m.objects o)) g.objects.items)
    (roots : R ≡ held_among m since (root_places_of m))
    (held : g.held.items ≡ R ++ held_among m since (field_places_of m g.objects.items))
    (each : (i : ℕ) → i < size g + 1 → start_at g i ≡ length R + length (held_among m since (field_places_of m (take i g.objects.items))))
    (targets : AreTargets g.objects.items g.held.items g.targets.items) where
  first_start : start_at g 0 ≡ length R
  first_start = let e : start_at g 0 ≡ length R + 0 = each 0 (omega arith) in omega (arith, e)

  is_root : (p : ℕ) → p < start_at g 0 → IsRoot (held_at g p).place
  is_root p h =
      let below : p < length R = omega (arith, h, first_start) in
      let all : AllByRecursion (λ x. Tells m since x × IsRoot x.place) R = subst (λ hs. AllByRecursion (λ x. Tells m since x × IsRoot x.place) hs) (sym roots) (held_all m since IsRoot (root_places_of m) (all_roots m)) in
      subst (λ (hs : List Held). IsRoot (get_or hs p (record { place = Cell 0; slot = Nothing; since = 0 })).place) (sym held)
      (subst (λ (x : Held). IsRoot x.place) (sym (get_or_append_left R (Fields m since g.objects.items) (record { place = Cell 0; slot = Nothing; since = 0 }) p below))
      (All-from_recursion (λ x. Tells m since x × IsRoot x.place) R all p (record { place = Cell 0; slot = Nothing; since = 0 }) below).1)

  is_field : (i p : ℕ) → i < size g → IsFieldAt g i p → IsFieldOf (object_at g i) (held_at g p).place
  is_field i p h f =
      let low : start_at g i ≤ p = f.0 in
      let high : p < start_at g (i + 1) = f.1 in
      let a : start_at g i ≡ length R + length (Fields m since (take i g.objects.items)) = each i (omega (arith, h)) in
      let b : start_at g (i + 1) ≡ length R + length (Fields m since (take (i + 1) g.objects.items)) = each (i + 1) (omega (arith, h)) in
      let above : length R ≤ p = omega (arith, a, low) in
      subst (λ (hs : List Held). IsFieldOf (object_at g i) (get_or hs p (record { place = Cell 0; slot = Nothing; since = 0 })).place) (sym held)
      (subst (λ (x : Held). IsFieldOf (object_at g i) x.place) (sym (get_or-append_right R (Fields m since g.objects.items) (length R) p (record { place = Cell 0; slot = Nothing; since = 0 }) refl above))
      (segment m since g.objects.items i (p - length R) (record { place = Cell 0; slot = Nothing; since = 0 }) h (omega (arith, a, low))
      (subst (λ n. p - length R < length (Fields m since (take n g.objects.items))) (let e : i + 1 ≡ suc i = omega arith in e) (omega (arith, b, high, above)))))

  -- each field is one of an object
  some_field : (p : ℕ) → p < places g → start_at g 0 ≤ p → (i : ℕ) × (i < size g) × IsFieldAt g i p
  some_field p h low = let own = g.laid.are_sources.own p low h in (get_or g.sources.items p 0, own.0, own.1)

  root_at : (p : ℕ) → p < places g → IsRoot (held_at g p).place → p < start_at g 0
  root_at p h r =
      elim (nat_lt p (start_at g 0)) as (λ b. nat_lt p (start_at g 0) ≡ b → p < start_at g 0) [
        | true ↦ λ e. test_below p (start_at g 0) e
        | false ↦ λ e. absurd (let it = some_field p h (not_below p (start_at g 0) e) in root_or_field (held_at g p).place (object_at g it.0) r (is_field it.0 p it.1 it.2))
      ] refl

  field_at : (i p : ℕ) → i < size g → p < places g → IsFieldOf (object_at g i) (held_at g p).place → IsFieldAt g i p
  field_at i p h k f =
      elim (nat_lt p (start_at g 0)) as (λ b. nat_lt p (start_at g 0) ≡ b → IsFieldAt g i p) [
        | true ↦ λ e. absurd (root_or_field (held_at g p).place (object_at g i) (is_root p (test_below p (start_at g 0) e)) f)
        | false ↦ λ e.
            let it = some_field p k (not_below p (start_at g 0) e) in
            subst (λ x. IsFieldAt g x p) (same_index g it.0 i it.1 h (one_owner (held_at g p).place (object_at g it.0) (object_at g i) (is_field it.0 p it.1 it.2) f)) it.2
      ] refl

  pub made : IsGraphOf m since g
  made = record {
    objects = objects;
    alive = λ i h. ap (λ bs. get_or bs i false) alive ∙ get_or-map (λ o. is_alive (get m.objects o)) g.objects.items i 0 false h;
    held = held ∙ ap (λ hs. hs ++ Fields m since g.objects.items) roots ∙ sym (held_append m since (root_places_of m) (field_places_of m g.objects.items))
        ∙ ap (λ os. held_among m since (root_places_of m ++ field_places_of m os)) objects;
    targets = targets;
    roots = λ p h. (is_root p, root_at p h);
    fields = λ i p h k. (is_field i p h, field_at i p h k);
  }

-- the keys of a map rise
pub keys_rising : {X : Type 0} (m : FinMap nat_cmp X) → IsRising (keys m)
keys_rising m i j h k = below_from_sorted (keys m) i j 0 (keys_sorted m) h k
