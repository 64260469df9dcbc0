-- What a path leads to, one with as many fields as there are objects does: so `is_reached` tells what is reached, and there is one
-- set of the objects reached.
use Rattle.std.proofs.Common.{◌≡◌, ℕ, zero, suc, ◌+◌, ◌<◌, ◌≤◌, ◌⊎◌, inl, inr, List, [], ◌∷◌, length, refl, sym, ap, ◌∙◌, arith, Bool, true, false}
use Rattle.std.specs.Prelude.{Option, Some, None, ◌==◌, ◌&&◌, if◌then◌else◌, is_some}
use Rattle.std.specs.List.{list_any}
use Rattle.std.proofs.lemmas.Bool.Decides.{nat_tests}
use Rattle.std.specs.FinMap.{get, keys, contains_key-keys}
use Rattle.trace_types.specs.declared.slots.Entry.{Entry}
use Rattle.ownership_model.specs.State.{State}
use Rattle.ownership_model.specs.declared.link.Link.{Link}
use Rattle.ownership_model.specs.Reach.{root_names, field_names, entry_names, has, Reaches, Reaches.by_root, Reaches.by_field, IsReach, is_reached_within, is_reached}
use Rattle.ownership_model.proofs.Searching.{either, or_left, or_right, has_as_any}

both : (a b : Bool) → a ≡ true → b ≡ true → (a && b) ≡ true
both true b p q = q
both false b p q = absurd cc

left : (a b : Bool) → (a && b) ≡ true → a ≡ true
left true b h = refl
left false b h = absurd cc

right : (a b : Bool) → (a && b) ≡ true → b ≡ true
right true b h = h
right false b h = absurd cc

-- a member that passes the test
any_member : (f : ℕ → Bool) (p : ℕ) (ks : List ℕ) → has p ks ≡ true → f p ≡ true → list_any f ks ≡ true
any_member f p [] h t = absurd cc
any_member f p (k ∷ ks) h t =
    either (list_any f (k ∷ ks) ≡ true) (k == p) (has p ks) h
    (λ e. let same : k ≡ p = grind (arith, nat_tests) in or_left (f k) (list_any f ks) (ap f same ∙ t))
    (λ e. or_right (f k) (list_any f ks) (any_member f p ks e t))

member_of_any : (P : Type 0) (f : ℕ → Bool) (ks : List ℕ) → list_any f ks ≡ true → ((p : ℕ) → has p ks ≡ true → f p ≡ true → P) → P
member_of_any P f [] h g = absurd cc
member_of_any P f (k ∷ ks) h g =
    either P (f k) (list_any f ks) h
    (λ t. g k (grind (arith, nat_tests)) t)
    (λ e. member_of_any P f ks e (λ p is t. g p (or_right (k == p) (has p ks) is) t))

-- how many members pass the test
abbrev count_in : (ℕ → Bool) → List ℕ → ℕ
count_in f [] = 0
count_in f (k ∷ ks) = (if f k then 1 else 0) + count_in f ks

-- where each member that passes the one test passes the other, as many do, and then they are the same, or more
more_or_same : (f g : ℕ → Bool) → ((p : ℕ) → f p ≡ true → g p ≡ true) → (ks : List ℕ)
    → (count_in f ks < count_in g ks) ⊎ ((count_in f ks ≤ count_in g ks) × ((p : ℕ) → has p ks ≡ true → g p ≡ true → f p ≡ true))
more_or_same f g sub [] = inr (omega arith, λ p h t. absurd cc)
more_or_same f g sub (k ∷ ks) = step (f k) (g k) refl refl (more_or_same f g sub ks)
  where
    step : (a b : Bool) → f k ≡ a → g k ≡ b → (count_in f ks < count_in g ks) ⊎ ((count_in f ks ≤ count_in g ks) × ((p : ℕ) → has p ks ≡ true → g p ≡ true → f p ≡ true))
        → ((if a then 1 else 0) + count_in f ks < (if b then 1 else 0) + count_in g ks) ⊎ (((if a then 1 else 0) + count_in f ks ≤ (if b then 1 else 0) + count_in g ks) × ((p : ℕ) → has p (k ∷ ks) ≡ true → g p ≡ true → f p ≡ true))
    step true false x y r = absurd (let t : g k ≡ true = sym (sym (sub k x)) in cc)
    step true true x y (inl l) = inl (omega (arith, l))
    step true true x y (inr r) = inr (omega (arith, r.0), λ p h t. either (f p ≡ true) (k == p) (has p ks) h (λ e. let same : k ≡ p = grind (arith, nat_tests) in sym (ap f same) ∙ x) (λ e. r.1 p e t))
    step false true x y (inl l) = inl (omega (arith, l))
    step false true x y (inr r) = inl (omega (arith, r.0))
    step false false x y (inl l) = inl (omega (arith, l))
    step false false x y (inr r) = inr (omega (arith, r.0), λ p h t. either (f p ≡ true) (k == p) (has p ks) h (λ e. let same : k ≡ p = grind (arith, nat_tests) in absurd (let u : g k ≡ true = ap g same ∙ t in cc)) (λ e. r.1 p e t))

all_pass : (xs : List ℕ) → count_in (λ _. true) xs ≡ length xs
all_pass [] = refl
all_pass (x ∷ xs) = omega (arith, all_pass xs)

all_counted : (f : ℕ → Bool) (ks : List ℕ) → length ks ≤ count_in f ks → (p : ℕ) → has p ks ≡ true → f p ≡ true
all_counted f ks full p h = at (more_or_same f (λ _. true) (λ q _. refl) ks)
  where
    at : (count_in f ks < count_in (λ _. true) ks) ⊎ ((count_in f ks ≤ count_in (λ _. true) ks) × ((q : ℕ) → has q ks ≡ true → true ≡ true → f q ≡ true)) → f p ≡ true
    at (inl l) = absurd (omega (arith, l, all_pass ks, full))
    at (inr r) = r.1 p h refl

no_names : (by : Link) (o : ℕ) (e : Option Entry) → is_some e ≡ false → has o (entry_names by e) ≡ true → ⊥
no_names by o None h t = cc
no_names by o (Some e) h t = absurd cc

module _ (by : Link) (m : State) where
  abbrev Within : ℕ → ℕ → Type 0
  Within n o = is_reached_within n by m o ≡ true

  -- what has fields that name something stands
  names_stand : (p o : ℕ) → has o (field_names by m p) ≡ true → has p (keys m.objects) ≡ true
  names_stand p o h =
      elim (has p (keys m.objects)) as (λ b. has p (keys m.objects) ≡ b → b ≡ true) [
        | true ↦ λ e. refl
        | false ↦ λ e. absurd (no_names by o (get m.objects p) (contains_key-keys m.objects p ∙ has_as_any p (keys m.objects) ∙ e) h)
      ] refl

  longer : (n o : ℕ) → Within n o → Within (suc n) o
  longer n o h = or_left (is_reached_within n by m o) _ h

  one_field : (n p o : ℕ) → Within n p → has o (field_names by m p) ≡ true → Within (suc n) o
  one_field n p o h named =
      or_right (is_reached_within n by m o) _ (any_member (λ q. is_reached_within n by m q && has o (field_names by m q)) p (keys m.objects) (names_stand p o named) (both _ _ h named))

  -- no object is reached by a path of one field more alone
  abbrev Settled : ℕ → Type 0
  Settled n = (p : ℕ) → has p (keys m.objects) ≡ true → Within (suc n) p → Within n p

  settled_next : (n : ℕ) → Settled n → (o : ℕ) → Within (suc (suc n)) o → Within (suc n) o
  settled_next n settled o h =
      either (Within (suc n) o) (is_reached_within (suc n) by m o) _ h (λ e. e)
      (λ e. member_of_any (Within (suc n) o) (λ q. is_reached_within (suc n) by m q && has o (field_names by m q)) (keys m.objects) e
      (λ p there t. one_field n p o (settled p there (left (is_reached_within (suc n) by m p) _ t)) (right (is_reached_within (suc n) by m p) _ t)))

  abbrev reached_count : ℕ → ℕ
  reached_count n = count_in (λ o. is_reached_within n by m o) (keys m.objects)

  grown : (n : ℕ) → (reached_count n < reached_count (suc n)) ⊎ ((reached_count n ≤ reached_count (suc n)) × Settled n)
  grown n = more_or_same (λ o. is_reached_within n by m o) (λ o. is_reached_within (suc n) by m o) (longer n) (keys m.objects)

  -- with each field more an object more is reached, or none ever
  settles : (n : ℕ) → Settled n ⊎ (n < reached_count n)
  settles zero = at (more_or_same (λ _. false) (λ o. is_reached_within zero by m o) (λ p h. absurd cc) (keys m.objects))
    where
      at : (count_in (λ _. false) (keys m.objects) < count_in (λ o. is_reached_within zero by m o) (keys m.objects)) ⊎ ((count_in (λ _. false) (keys m.objects) ≤ count_in (λ o. is_reached_within zero by m o) (keys m.objects)) × ((p : ℕ) → has p (keys m.objects) ≡ true → Within zero p → false ≡ true)) → Settled zero ⊎ (zero < reached_count zero)
      at (inl l) = inr (omega (arith, l))
      at (inr r) = inl (λ p there h. either (Within zero p) (is_reached_within zero by m p) _ h (λ e. e)
          (λ e. member_of_any (Within zero p) (λ q. is_reached_within zero by m q && has p (field_names by m q)) (keys m.objects) e (λ q is t. absurd (let f : false ≡ true = r.1 q is (left (is_reached_within zero by m q) _ t) in cc))))
  settles (suc n) = at (settles n) (grown (suc n))
    where
      at : Settled n ⊎ (n < reached_count n) → (reached_count (suc n) < reached_count (suc (suc n))) ⊎ ((reached_count (suc n) ≤ reached_count (suc (suc n))) × Settled (suc n)) → Settled (suc n) ⊎ (suc n < reached_count (suc n))
      at (inl settled) next = inl (λ p there h. settled_next n settled p h)
      at (inr many) (inr r) = inl r.1
      at (inr many) (inl l) = then' (grown n)
        where
          then' : (reached_count n < reached_count (suc n)) ⊎ ((reached_count n ≤ reached_count (suc n)) × Settled n) → Settled (suc n) ⊎ (suc n < reached_count (suc n))
          then' (inl more) = inr (omega (arith, many, more))
          then' (inr r) = inl (λ p there h. settled_next n r.1 p h)

  -- one field more than there are objects reaches nothing more
  all_within : (n : ℕ) → length (keys m.objects) ≡ n → (o : ℕ) → Within (suc n) o → Within n o
  all_within zero is o h =
      either (Within zero o) (is_reached_within zero by m o) _ h (λ e. e)
      (λ e. member_of_any (Within zero o) (λ q. is_reached_within zero by m q && has o (field_names by m q)) (keys m.objects) e (λ q there t. absurd (none (keys m.objects) is q there)))
    where
      none : (ks : List ℕ) → length ks ≡ 0 → (q : ℕ) → has q ks ≡ true → ⊥
      none [] is q h = cc
      none (k ∷ ks) is q h = absurd (omega (arith, is))
  all_within (suc n) is o h = at (settles n)
    where
      at : Settled n ⊎ (n < reached_count n) → Within (suc n) o
      at (inl settled) = settled_next n settled o h
      at (inr many) = settled_next n (λ p there _. all_counted (λ q. is_reached_within n by m q) (keys m.objects) (omega (arith, many, is)) p there) o h

  from_root : (n o : ℕ) → has o (root_names by m) ≡ true → Within n o
  from_root zero o h = h
  from_root (suc n) o h = longer n o (from_root n o h)

  along_path : (n o : ℕ) → Within n o → Reaches by m o
  along_path zero o h = by_root o h
  along_path (suc n) o h =
      either (Reaches by m o) (is_reached_within n by m o) _ h (along_path n o)
      (λ e. member_of_any (Reaches by m o) (λ q. is_reached_within n by m q && has o (field_names by m q)) (keys m.objects) e
      (λ p there t. by_field p o (along_path n p (left (is_reached_within n by m p) _ t)) (right (is_reached_within n by m p) _ t)))

pub reached : (by : Link) (m : State) → IsReach by m (λ o. is_reached by m o)
unfolding is_reached
reached by m = record {
  roots = λ o h. from_root by m (length (keys m.objects)) o h;
  fields = λ p o h n. all_within by m (length (keys m.objects)) refl o (one_field by m (length (keys m.objects)) p o h n);
  reached = λ o h. along_path by m (length (keys m.objects)) o h;
}

-- a closed set has what is reached
pub has_reached : (by : Link) (m : State) (k : ℕ → Bool) → IsReach by m k → (o : ℕ) → Reaches by m o → k o ≡ true
has_reached by m k r _ (by_root o h) = r.roots o h
has_reached by m k r _ (by_field p o q h) = r.fields p o (has_reached by m k r p q) h

same_bool : (a b : Bool) → (a ≡ true → b ≡ true) → (b ≡ true → a ≡ true) → a ≡ b
same_bool true b f g = sym (f refl)
same_bool false true f g = g refl
same_bool false false f g = refl

-- so there is one
pub same_reach : (by : Link) (m : State) (k j : ℕ → Bool) → IsReach by m k → IsReach by m j → (o : ℕ) → k o ≡ j o
same_reach by m k j r s o = same_bool (k o) (j o) (λ h. has_reached by m j s o (r.reached o h)) (λ h. has_reached by m k r o (s.reached o h))

pub is_reach : (by : Link) (m : State) (k : ℕ → Bool) → IsReach by m k → (o : ℕ) → k o ≡ is_reached by m o
is_reach by m k r = same_reach by m k (λ o. is_reached by m o) r (reached by m)
