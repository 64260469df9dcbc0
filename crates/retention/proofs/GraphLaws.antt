-- What a graph says of the state of which it is one: places, ways, and what leads where.
use Rattle.std.proofs.Common.{◌≡◌, ℕ, suc, ◌+◌, ◌<◌, ◌⊎◌, inl, inr, List, [], ◌∷◌, ◌++◌, length, get_or, map, reverse, refl, sym, ap, ◌∙◌, subst, arith, append_assoc, append-nil, Bool, true, false, length-append}
use Rattle.std.specs.Prelude.{Some, None, nat_lt, ◌↔◌, unwrap_or, if◌then◌else◌}
use Rattle.std.specs.List.{AllByRecursion}
use Rattle.std.proofs.lemmas.Bool.Decides.{nat_tests}
use Rattle.std.proofs.lemmas.List.{map-append}
use Rattle.std.proofs.lemmas.Grind.{reverse_onto}
use Rattle.std.proofs.lemmas.List.Elements.{All-from_recursion}
use Rattle.std.specs.FinMap.{keys}
use Rattle.ownership_model.specs.Reach.{has, Reaches}
use Rattle.ownership_model.specs.declared.link.Link.TheVariants.{StrongOnly}
use Rattle.trace_types.specs.declared.slots.Slot.{Slot}
use Rattle.trace_types.specs.declared.slots.Slot.TheVariants.{Nothing, Strong, Weak, Dangling}
use Rattle.ownership_model.specs.State.{State}
use Rattle.retention_model.specs.declared.place.Place.{Place}
use Rattle.retention_model.specs.declared.place.Place.TheVariants.{Handle, Cell, Field}
use Rattle.retention_model.specs.declared.place.Held.{Held}
use Rattle.retention_model.specs.Places.{at, IsRoot, IsFieldOf, Precedes, places_of}
use Rattle.retention_model.specs.Ways.{LeadsTo, BeginsIn, IsWay, IsNoLater, IsLeastWay}
use Rattle.retention_model.specs.Cycles as state
use Rattle.retention_model.proofs.LawsHold as law
use Rattle.retention.specs.declared.graph.Graph.{Graph}
use Rattle.retention.specs.declared.walk.Walk.{Walk}
use Rattle.retention.specs.Graph.{size, places, object_at, held_at, target_at, strong_target, holds, start_at, IsFieldAt, is_field_at, is_root_at, IsGraphOf}
use Rattle.trace_types.specs.Slots.{named_by}
use Rattle.retention.specs.Targets.{IsTarget}
use Rattle.retention.specs.HeldPlaces.{held_among}
use Rattle.retention.specs.Walked.{Leads, Less, NoLater, IsLeast, IsToldWay, Keeps, has_come, IsWalkFrom}
use Rattle.retention.proofs.WalkSteps.{number_same}
use Rattle.retention.proofs.PathLemmas.{at_has}
use Rattle.retention.proofs.GraphPaths.{strong_object, held_place, field_object, field_true, true_field}
use Rattle.retention.proofs.HeldLemmas.{Tells, held_all, all_stand, field_key, listed, places_in, AreInOrder, places_in_order, held_in_order, order_at}

-- A place with its slot and its date.
abbrev pub held_of : State → (Place → ℕ) → Place → Held
held_of m since p = record { place = p; slot = unwrap_or (at m p) Nothing; since = since p }

-- Ways of a state, place by place from the first on.

leads_snoc : (m : State) (way : List Place) (r : ℕ) (q : Place) (o : ℕ) → LeadsTo m r way → IsFieldOf r q → at m q ≡ Some (Strong o) → LeadsTo m o (way ++ q ∷ [])
leads_snoc m [] r q o l f e = absurd l
leads_snoc m (p ∷ []) r q o l f e = ((r, l, f), e)
leads_snoc m (p ∷ s ∷ way) r q o l f e = (l.0, leads_snoc m (s ∷ way) r q o l.1 f e)

begins_snoc : (From : Place → Type 0) (way : List Place) (q : Place) → BeginsIn From way → BeginsIn From (way ++ q ∷ [])
begins_snoc From [] q b = absurd b
begins_snoc From (p ∷ way) q b = b

-- strictly before, place by place
abbrev IsBefore : List Place → List Place → Type 0
IsBefore [] other = ⊥
IsBefore (p ∷ way) [] = ⊥
IsBefore (p ∷ way) (q ∷ other) = Precedes p q ⊎ ((p ≡ q) × IsBefore way other)

before_longer : (a b c d : List Place) → IsBefore a b → IsBefore (a ++ c) (b ++ d)
before_longer [] b c d h = absurd h
before_longer (p ∷ a) [] c d h = absurd h
before_longer (p ∷ a) (q ∷ b) c d (inl h) = inl h
before_longer (p ∷ a) (q ∷ b) c d (inr h) = inr (h.0, before_longer a b c d h.1)

before_same : (a : List Place) (p q : Place) → Precedes p q → IsBefore (a ++ p ∷ []) (a ++ q ∷ [])
before_same [] p q h = inl h
before_same (r ∷ a) p q h = inr (refl, before_same a p q h)

no_later_before : (a b : List Place) → length a ≡ length b → IsBefore a b → IsNoLater a b
no_later_before [] b e h = tt
no_later_before (p ∷ a) [] e h = absurd h
no_later_before (p ∷ a) (q ∷ b) e (inl h) = inl h
no_later_before (p ∷ a) (q ∷ b) e (inr h) = inr (h.0, no_later_before a b (let n : length a ≡ length b = cc in n) h.1)

no_later_itself : (a : List Place) → IsNoLater a a
no_later_itself [] = tt
no_later_itself (p ∷ a) = inr (refl, no_later_itself a)

-- the place with this number
abbrev pub place_at : Graph → ℕ → Place
place_at g p = (held_at g p).place

-- the places of a way, the first one first
abbrev pub forward : Graph → List ℕ → List Place
forward g [] = []
forward g (p ∷ way) = forward g way ++ place_at g p ∷ []

forward_length : (g : Graph) (way : List ℕ) → length (forward g way) ≡ length way
forward_length g [] = refl
forward_length g (p ∷ way) =
    let l : length (forward g way ++ place_at g p ∷ []) ≡ length (forward g way) + 1 = length-append (forward g way) (place_at g p ∷ []) in
    let r : length (forward g way) ≡ length way = forward_length g way in
    omega (arith, l, r)

-- a place of a way
abbrev pub Within : ℕ → List ℕ → Type 0
Within q [] = ⊥
Within q (p ∷ way) = (p ≡ q) ⊎ Within q way

longer_both : (g : Graph) (p q : ℕ) (a b : List ℕ) → (length a < length b) ⊎ ((length a ≡ length b) × IsBefore (forward g a) (forward g b)) → (length (p ∷ a) < length (q ∷ b)) ⊎ ((length (p ∷ a) ≡ length (q ∷ b)) × IsBefore (forward g (p ∷ a)) (forward g (q ∷ b)))
longer_both g p q a b (inl h) = inl (omega (arith, h))
longer_both g p q a b (inr h) = inr (ap suc h.0, before_longer (forward g a) (forward g b) (place_at g p ∷ []) (place_at g q ∷ []) h.1)

all_any : (ps : List Place) → AllByRecursion (λ q. Unit {0}) ps
all_any [] = tt
all_any (p ∷ ps) = (tt, all_any ps)

append_nil : (ps : List Place) → ps ++ [] ≡ ps
append_nil ps = append-nil ps

pub test_below : (a b : ℕ) → nat_lt a b ≡ true → a < b
test_below a b e = grind (arith, nat_tests, e)

pub below_test : (a b : ℕ) → a < b → nat_lt a b ≡ true
below_test a b h = grind (arith, nat_tests, h)

some_below : (i n : ℕ) → i < n → (if nat_lt i n then Some i else None) ≡ Some i
some_below i n h = ap (λ b. if b then Some i else None) (below_test i n h)

-- objects with the same number are the same
pub same_index : (g : Graph) (j i : ℕ) → j < size g → i < size g → object_at g j ≡ object_at g i → j ≡ i
same_index g j i h k e =
    elim (nat_lt j i) as (λ b. nat_lt j i ≡ b → j ≡ i) [
      | true ↦ λ t. absurd (let l : object_at g j < object_at g i = g.laid.rising j i (test_below j i t) k in omega (arith, l, e))
      | false ↦ λ f. elim (nat_lt i j) as (λ b. nat_lt i j ≡ b → j ≡ i) [
        | true ↦ λ t. absurd (let l : object_at g i < object_at g j = g.laid.rising i j (test_below i j t) h in omega (arith, l, e))
        | false ↦ λ n. grind (arith, nat_tests, f, n)
      ] refl
    ] refl

-- The graph is that of the state.
module _ (m : State) (since : Place → ℕ) (g : Graph) (is : IsGraphOf m since g) where
  pub tells : (p : ℕ) → p < places g → Tells m since (held_at g p)
  tells p h =
      let all = All-from_recursion (λ x. Tells m since x × Unit {0}) (held_among m since (places_of m)) (held_all m since (λ q. Unit {0}) (places_of m) (all_any (places_of m))) in
      let same = is.held in
      (subst (λ (hs : List Held). (k : ℕ) (d : Held) → k < length hs → Tells m since (get_or hs k d) × Unit {0}) (sym same) all p (record { place = Cell 0; slot = Nothing; since = 0 }) h).0

  -- what a place holds, it holds in the state
  strong_of : (s : Slot) (t n o : ℕ) (p : ℕ) → strong_target s t n ≡ Some o → IsTarget g.objects.items s t → n ≡ size g → s ≡ Strong (object_at g o)
  strong_of Nothing t n o p h target e = absurd cc
  strong_of (Strong q) t n o p h target e =
      let it = strong_object (Strong q) t n o h in
      ap Strong ((target q o refl (subst (λ k. o < k) e it.1)).0 it.0)
  strong_of (Weak q) t n o p h target e = absurd cc
  strong_of Dangling t n o p h target e = absurd cc

  pub strong_at : (p t : ℕ) → holds g p ≡ Some t → at m (place_at g p) ≡ Some (Strong (object_at g t))
  strong_at p t h =
      let inside = held_place g p t h in
      (tells p inside).slot ∙ ap Some (strong_of (held_at g p).slot (target_at g p) (size g) t p h (is.targets.each p inside) refl)

  -- and the other way round: it is among the places
  place_number : (q : Place) (s : Slot) (o : ℕ) → at m q ≡ Some s → named_by s ≡ Some o → (p : ℕ) × (p < places g) × (place_at g p ≡ q)
  place_number q s o e n =
      let it = listed m since (places_of m) q s o (all_stand m number_same q s e) e n in
      let same : held_among m since (places_of m) ≡ g.held.items = sym is.held in
      (it.0, subst (λ (hs : List Held). it.0 < length hs) same it.1, subst (λ (hs : List Held). (get_or hs it.0 (record { place = Cell 0; slot = Nothing; since = 0 })).place ≡ q) same (it.2 (record { place = Cell 0; slot = Nothing; since = 0 })))

  holds_of : (s : Slot) (t i : ℕ) → s ≡ Strong (object_at g i) → i < size g → IsTarget g.objects.items s t → strong_target s t (size g) ≡ Some i
  holds_of Nothing t i e h target = absurd cc
  holds_of (Strong q) t i e h target =
      let named : q ≡ object_at g i = cc in
      let to : t ≡ i = (target q i refl h).1 named in
      subst (λ x. strong_target (Strong q) x (size g) ≡ Some i) (sym to) (some_below i (size g) h)
  holds_of (Weak q) t i e h target = absurd cc
  holds_of Dangling t i e h target = absurd cc

  pub place_index : (q : Place) (i : ℕ) → i < size g → at m q ≡ Some (Strong (object_at g i)) → (p : ℕ) × (p < places g) × (place_at g p ≡ q) × (holds g p ≡ Some i)
  place_index q i h e =
      let it = place_number q (Strong (object_at g i)) (object_at g i) e refl in
      let slot : Some (held_at g it.0).slot ≡ Some (Strong (object_at g i)) = sym (tells it.0 it.1).slot ∙ ap (at m) it.2 ∙ e in
      (it.0, it.1, it.2, holds_of (held_at g it.0).slot (target_at g it.0) i (let s : (held_at g it.0).slot ≡ Strong (object_at g i) = cc in s) h (is.targets.each it.0 it.1))

  -- an object that is there has a number
  pub object_index : (o : ℕ) → has o (keys m.objects) ≡ true → (i : ℕ) × (i < size g) × (object_at g i ≡ o)
  object_index o h = at_has g.objects.items o (subst (λ os. has o os ≡ true) (sym is.objects) h)

  -- Ways.

  forward_leads : (from : ℕ → Bool) (way : List ℕ) (i : ℕ) → Leads g from i way → LeadsTo m (object_at g i) (forward g way)
  forward_leads from [] i l = absurd l
  forward_leads from (p ∷ []) i l = strong_at p i l.0
  forward_leads from (p ∷ q ∷ way) i l =
      let r = l.1.0 in
      leads_snoc m (forward g (q ∷ way)) (object_at g l.1.0) (place_at g p) (object_at g i) (forward_leads from (q ∷ way) l.1.0 l.1.2)
      ((is.fields l.1.0 p (field_object g l.1.0 p l.1.1) (held_place g p i l.0)).0 l.1.1) (strong_at p i l.0)

  forward_begins : (from : ℕ → Bool) (From : Place → Type 0) → ((p : ℕ) → p < places g → from p ≡ true → From (place_at g p)) → (way : List ℕ) (i : ℕ) → Leads g from i way → BeginsIn From (forward g way)
  forward_begins from From begins [] i l = absurd l
  forward_begins from From begins (p ∷ []) i l = begins p (held_place g p i l.0) l.1
  forward_begins from From begins (p ∷ q ∷ way) i l = begins_snoc From (forward g (q ∷ way)) (place_at g p) (forward_begins from From begins (q ∷ way) l.1.0 l.1.2)

  -- what has a field is there
  has_field : (t : ℕ) (q : Place) (s : Slot) → IsFieldOf t q → at m q ≡ Some s → has t (keys m.objects) ≡ true
  has_field t (Handle h i) s f e = absurd f
  has_field t (Cell c) s f e = absurd f
  has_field t (Field o i) s f e = subst (λ k. has k (keys m.objects) ≡ true) f (field_key m number_same o i s e)

  first_slot : (way : List Place) (q : Place) (o : ℕ) → LeadsTo m o (q ∷ way) → (r : ℕ) × (at m q ≡ Some (Strong r))
  first_slot [] q o l = (o, l)
  first_slot (s ∷ way) q o l = (l.0.0, l.0.1)

  -- the object that the first place holds is there
  first_index : (way : List Place) (q : Place) (i : ℕ) → i < size g → LeadsTo m (object_at g i) (q ∷ way) → (j : ℕ) × (j < size g) × (at m q ≡ Some (Strong (object_at g j)))
  first_index [] q i h l = (i, h, l)
  first_index (s ∷ way) q i h l =
      let next = first_slot way s (object_at g i) l.1 in
      let it = object_index l.0.0 (has_field l.0.0 s (Strong next.0) l.0.2 next.1) in
      (it.0, it.1, l.0.1 ∙ ap (λ x. Some (Strong x)) (sym it.2))

  abbrev IsNumbered : (ℕ → Bool) → ℕ → List Place → Type 0
  IsNumbered from i places = (way : List ℕ) × Leads g from i way × (forward g way ≡ places)

  go_on : (from : ℕ → Bool) (way : List Place) (q : Place) (i : ℕ) → i < size g → LeadsTo m (object_at g i) (q ∷ way)
      → (before : List ℕ) (p j : ℕ) → place_at g p ≡ q → at m q ≡ Some (Strong (object_at g j)) → j < size g → Leads g from j (p ∷ before) → IsNumbered from i (forward g (p ∷ before) ++ way)
  go_on from [] q i h l before p j e s k leads =
      let same : object_at g j ≡ object_at g i = (let u : Some (Strong (object_at g j)) ≡ Some (Strong (object_at g i)) = sym s ∙ l in cc) in
      let number : j ≡ i = same_index g j i k h same in
      (p ∷ before, subst (λ x. Leads g from x (p ∷ before)) number leads, sym (append_nil (forward g (p ∷ before))))
  go_on from (t ∷ way) q i h l before p j e s k leads =
      let owner : l.0.0 ≡ object_at g j = (let u : Some (Strong l.0.0) ≡ Some (Strong (object_at g j)) = sym l.0.1 ∙ s in cc) in
      let next = first_index way t i h l.1 in
      let it = place_index t next.0 next.1 next.2 in
      let field : IsFieldAt g j it.0 = (is.fields j it.0 k it.1).1 (subst (λ x. IsFieldOf (object_at g j) x) (sym it.2) (subst (λ x. IsFieldOf x t) owner l.0.2)) in
      let rest = go_on from way t i h l.1 (p ∷ before) it.0 next.0 it.2 next.2 next.1 (it.3, (j, field, leads)) in
      (rest.0, rest.1, rest.2 ∙ ap (λ x. forward g (p ∷ before) ++ x ∷ [] ++ way) it.2 ∙ append_assoc (forward g (p ∷ before)) (t ∷ []) way)

  -- each way of the state has numbers
  numbered : (from : ℕ → Bool) (From : Place → Type 0) → ((p : ℕ) → p < places g → From (place_at g p) → from p ≡ true) → (way : List Place) (i : ℕ) → i < size g → IsWay m From (object_at g i) way → IsNumbered from i way
  numbered from From begins [] i h w = absurd w.0
  numbered from From begins (q ∷ way) i h w =
      let first = first_index way q i h w.1 in
      let it = place_index q first.0 first.1 first.2 in
      let start : from it.0 ≡ true = begins it.0 it.1 (subst (λ x. From x) (sym it.2) w.0) in
      let all = go_on from way q i h w.1 [] it.0 first.0 it.2 first.2 first.1 (it.3, start) in
      (all.0, all.1, all.2 ∙ ap (λ x. x ∷ way) it.2)

  -- The order of ways.

  later_place : (p q : ℕ) → p < q → q < places g → Precedes (place_at g p) (place_at g q)
  later_place p q h k =
      let same : held_among m since (places_of m) ≡ g.held.items = sym is.held in
      order_at g.held.items p q (record { place = Cell 0; slot = Nothing; since = 0 })
      (subst (λ (hs : List Held). AreInOrder (places_in hs)) same (held_in_order m since (places_of m) (places_in_order m))) h k

  less_forward : (a b : List ℕ) → ((q : ℕ) → Within q b → q < places g) → Less a b → (length a < length b) ⊎ ((length a ≡ length b) × IsBefore (forward g a) (forward g b))
  less_forward [] [] inside h = absurd h
  less_forward [] (q ∷ b) inside h = inl (omega arith)
  less_forward (p ∷ a) [] inside h = absurd h
  less_forward (p ∷ a) (q ∷ b) inside (inl h) = longer_both g p q a b (less_forward a b (λ x w. inside x (inr w)) h)
  less_forward (p ∷ a) (q ∷ b) inside (inr h) =
      inr (ap suc (ap length h.0), subst (λ x. IsBefore (forward g a ++ place_at g p ∷ []) (forward g x ++ place_at g q ∷ [])) h.0 (before_same (forward g a) (place_at g p) (place_at g q) (later_place p q h.1 (inside q (inl refl)))))

  way_within : (from : ℕ → Bool) (way : List ℕ) (i : ℕ) → Leads g from i way → (q : ℕ) → Within q way → q < places g
  way_within from [] i l q w = absurd w
  way_within from (p ∷ []) i l q (inl e) = subst (λ x. x < places g) e (held_place g p i l.0)
  way_within from (p ∷ []) i l q (inr w) = absurd w
  way_within from (p ∷ s ∷ way) i l q (inl e) = subst (λ x. x < places g) e (held_place g p i l.0)
  way_within from (p ∷ s ∷ way) i l q (inr w) = way_within from (s ∷ way) l.1.0 l.1.2 q w

  abbrev IsLeastOf : List Place → List Place → Type 0
  IsLeastOf way other = (length way < length other) ⊎ ((length way ≡ length other) × IsNoLater way other)

  of_less : (a b : List ℕ) → (length a < length b) ⊎ ((length a ≡ length b) × IsBefore (forward g a) (forward g b)) → IsLeastOf (forward g a) (forward g b)
  of_less a b (inl h) = inl (let x : length (forward g a) ≡ length a = forward_length g a in let y : length (forward g b) ≡ length b = forward_length g b in omega (arith, x, y, h))
  of_less a b (inr h) = let same : length (forward g a) ≡ length (forward g b) = forward_length g a ∙ h.0 ∙ sym (forward_length g b) in inr (same, no_later_before (forward g a) (forward g b) same h.1)

  of_no_later : (from : ℕ → Bool) (i : ℕ) (a b : List ℕ) → Leads g from i b → NoLater a b → IsLeastOf (forward g a) (forward g b)
  of_no_later from i a b l (inl e) = subst (λ x. IsLeastOf (forward g a) (forward g x)) e (inr (refl, no_later_itself (forward g a)))
  of_no_later from i a b l (inr h) = of_less a b (less_forward a b (way_within from b i l) h)

  pub least_way : (from : ℕ → Bool) (From : Place → Type 0) → ((p : ℕ) → p < places g → (from p ≡ true → From (place_at g p)) × (From (place_at g p) → from p ≡ true)) → (i : ℕ) → i < size g → (way : List ℕ) → IsLeast g from i way → IsLeastWay m From (object_at g i) (forward g way)
  least_way from From begins i h way least = record {
    is_way = (forward_begins from From (λ p k. (begins p k).0) way i least.0, forward_leads from way i least.0);
    least = λ other w.
        let it = numbered from From (λ p k. (begins p k).1) other i h w in
        subst (λ x. IsLeastOf (forward g way) x) it.2 (of_no_later from i way it.0 it.1 (least.1 it.0 it.1));
  }

  -- A told way, and what it says.

  held_same : (h : Held) → Tells m since h → h ≡ held_of m since h.place
  held_same h t =
      let slot : h.slot ≡ unwrap_or (at m h.place) Nothing = sym (ap (λ x. unwrap_or x Nothing) t.slot) in
      let date : h.since ≡ since h.place = t.date in
      λ i. record { place = h.place; slot = slot i; since = date i }

  reverse_cons : (p : ℕ) (way : List ℕ) → reverse (p ∷ way) ≡ reverse way ++ p ∷ []
  reverse_cons p way = reverse_onto way p []

  forward_told : (way : List ℕ) → ((q : ℕ) → Within q way → q < places g) → map (held_at g) (reverse way) ≡ map (held_of m since) (forward g way)
  forward_told [] inside = refl
  forward_told (p ∷ way) inside =
      ap (map (held_at g)) (reverse_cons p way) ∙ map-append (held_at g) (reverse way) (p ∷ [])
      ∙ ap (λ hs. hs ++ held_at g p ∷ []) (forward_told way (λ q w. inside q (inr w)))
      ∙ ap (λ h. map (held_of m since) (forward g way) ++ h ∷ []) (held_same (held_at g p) (tells p (inside p (inl refl))))
      ∙ sym (map-append (held_of m since) (forward g way) (place_at g p ∷ []))

  pub way_told : (from : ℕ → Bool) (From : Place → Type 0) → ((p : ℕ) → p < places g → (from p ≡ true → From (place_at g p)) × (From (place_at g p) → from p ≡ true)) → (i : ℕ) → i < size g
      → (told : List Held) → IsToldWay g from i told → (ps : List Place) × IsLeastWay m From (object_at g i) ps × (told ≡ map (held_of m since) ps)
  way_told from From begins i h told it = (forward g it.0, least_way from From begins i h it.0 it.1, it.2 ∙ forward_told it.0 (way_within from it.0 i it.1.0))

  -- Where ways begin.

  pub root_begins : (p : ℕ) → p < places g → (is_root_at g p ≡ true → IsRoot (place_at g p)) × (IsRoot (place_at g p) → is_root_at g p ≡ true)
  root_begins p h = (λ e. (is.roots p h).0 (test_below p (start_at g 0) e), λ r. below_test p (start_at g 0) ((is.roots p h).1 r))

  pub field_begins : (i : ℕ) → i < size g → (p : ℕ) → p < places g → (is_field_at g i p ≡ true → IsFieldOf (object_at g i) (place_at g p)) × (IsFieldOf (object_at g i) (place_at g p) → is_field_at g i p ≡ true)
  field_begins i k p h = (λ e. (is.fields i p k h).0 (true_field g i p e), λ r. field_true g i p ((is.fields i p k h).1 r))

  -- What is reached, and what leads where.

  pub reached_told : (w : Walk) → IsWalkFrom g (is_root_at g) w → (i : ℕ) → i < size g → (has_come w.steps.items i ≡ true) ↔ Reaches StrongOnly m (object_at g i)
  reached_told w walked i h = (
    λ come. (law.ways m (object_at g i)).1 (forward g (walked.way i), (least_way (is_root_at g) IsRoot root_begins i h (walked.way i) (walked.least i come)).is_way),
    λ reaches. let way = (law.ways m (object_at g i)).0 reaches in
        let it = numbered (is_root_at g) IsRoot (λ p k. (root_begins p k).1) way.0 i h way.1 in
        walked.all i it.0 it.1,
  )

  pub keeps_told : (i j : ℕ) → i < size g → j < size g → Keeps g i j ↔ state.Keeps m (object_at g i) (object_at g j)
  keeps_told i j h k = (
    λ it. (forward g it.0, (forward_begins (is_field_at g i) (IsFieldOf (object_at g i)) (λ p l. (field_begins i h p l).0) it.0 j it.1, forward_leads (is_field_at g i) it.0 j it.1)),
    λ way. let it = numbered (is_field_at g i) (IsFieldOf (object_at g i)) (λ p l. (field_begins i h p l).1) way.0 j k way.1 in (it.0, it.1),
  )
