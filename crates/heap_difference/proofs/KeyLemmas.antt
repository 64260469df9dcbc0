-- Sets of numbers and of keys: what is in them when they are made of lists, and looked up.
use Rattle.std.proofs.Common.{◌≡◌, ℕ, zero, suc, ◌<◌, ◌≤◌, List, [], ◌∷◌, ◌++◌, length, get_or, refl, ap, ◌∙◌, sym, subst, arith, Bool, true, false}
use Rattle.std.proofs.lemmas.Bool.Decides.{nat_tests}
use Rattle.std.specs.Prelude.{◌↔◌, nat_le, ◌==◌, ◌||◌, Result, Ok, Err, Option, Some, None, option_to_list, is_ok}
use Rattle.std.specs.List.{Contains, dedup, list_any}
use Rattle.std.specs.List.Sorted.{IsPermutation, IsStrictlyIncreasing, IsBinarySearchResult}
use Rattle.std.specs.Ordering.{nat_cmp}
use Rattle.std.proofs.lemmas.Grind.{flat_map-append}
use Rattle.std.proofs.lemmas.List.Folds.{list_any_at}
use Rattle.std.proofs.lemmas.List.Elements.{Contains-push, Contains-append_left, Contains-append_right}
use Rattle.std.proofs.lemmas.List.Kept.{Contains-dedup_nat, Contains-from_dedup, AllPairs-from_increasing}
use Rattle.std.proofs.lemmas.List.Sorted.{list_any-IsPermutation, searched}
use Rattle.ownership_model.specs.declared.key.Key.{Key}
use Rattle.ownership_model.specs.declared.key.Key.TheVariants.{Handle, Cell, Object, Scope}
use Rattle.ownership_model.specs.Reach.{has}
use Rattle.ownership_model.specs.Alike.{AreWithin}
use Rattle.ownership_model.proofs.Counting.{same_number}
use Rattle.ownership_model.proofs.Searching.{has-append}
use Rattle.heap_difference.specs.declared.key_set.KeySet.{KeySet}
use Rattle.heap_difference.specs.KeySets.{nothing, is_among, Kind, Handles, Cells, Objects, Labels, kind_number, numbers, set_of, Has, share_one, meet}
use Rattle.heap_difference.proofs.Tests.{clash, itself, has_first, or_right}

both_ways : (b c : Bool) → (b ≡ true → c ≡ true) → (c ≡ true → b ≡ true) → b ≡ c
both_ways true true p q = refl
both_ways true false p q = sym (p refl)
both_ways false true p q = q refl
both_ways false false p q = refl

-- ---- numbers
pub has_from : (q : ℕ) (xs : List ℕ) → Contains xs q → has q xs ≡ true
has_from q xs c = list_any_at (λ p. p == q) xs c.0 q c.1 (ap (λ x. x == q) c.2 ∙ itself q)

contains_first : {X : Type 0} (x : X) (xs : List X) → Contains (x ∷ xs) x
contains_first x xs = Contains-append_left (x ∷ []) xs x (Contains-push [] x)

pub contains_from : (q : ℕ) (xs : List ℕ) → has q xs ≡ true → Contains xs q
contains_from q [] here = absurd cc
contains_from q (x ∷ xs) here = at (x == q) refl (λ e. contains_from q xs e)
  where
    at : (b : Bool) → (x == q) ≡ b → (has q xs ≡ true → Contains xs q) → Contains (x ∷ xs) q
    at true e rest = subst (λ n. Contains (x ∷ xs) n) (same_number x q e) (contains_first x xs)
    at false e rest = Contains-append_right (x ∷ []) xs q (rest (sym (ap (λ b. b || has q xs) e) ∙ here))

-- a list that is sorted, and then has each number once, has what it had
pub has_sorted : (q : ℕ) (xs ys : List ℕ) → IsPermutation xs ys → has q (dedup (λ x y. x == y) ys) ≡ has q xs
has_sorted q xs ys moved =
    both_ways (has q (dedup (λ x y. x == y) ys)) (has q ys)
    (λ here. has_from q ys (Contains-from_dedup (λ x y. x == y) ys q (contains_from q (dedup (λ x y. x == y) ys) here)))
    (λ here. has_from q (dedup (λ x y. x == y) ys) (Contains-dedup_nat ys q (contains_from q ys here)))
    ∙ sym (list_any-IsPermutation (λ p. p == q) xs ys moved)

-- numbers that rise never fall
never_fall : (xs : List ℕ) → IsStrictlyIncreasing xs → (i j : ℕ) → i ≤ j → j < length xs → get_or xs i 0 ≤ get_or xs j 0
never_fall xs up i j low within = at (i == j) refl
  where
    at : (b : Bool) → (i == j) ≡ b → get_or xs i 0 ≤ get_or xs j 0
    at true e = let same : get_or xs i 0 ≡ get_or xs j 0 = ap (λ n. get_or xs n 0) (same_number i j e) in omega (arith, same)
    at false e =
        let less : i < j = grind (arith, nat_tests, low, e) in
        let higher : get_or xs i 0 < get_or xs j 0 = AllPairs-from_increasing xs up i j 0 less within in
        omega (arith, higher)

same_default : (xs : List ℕ) (k : ℕ) (d : ℕ) → k < length xs → get_or xs k d ≡ get_or xs k 0
same_default [] k d within = absurd (omega (arith, within))
same_default (x ∷ xs) zero d within = refl
same_default (x ∷ xs) (suc k) d within = same_default xs k d (omega (arith, within))

-- a list of no length has no number
pub none_has : (q : ℕ) (xs : List ℕ) → length xs ≡ 0 → false ≡ has q xs
none_has q [] e = refl
none_has q (x ∷ xs) e = absurd (omega (arith, e))

-- no number of a list that rises is below its first or above its last
pub below_first : (q f : ℕ) (xs : List ℕ) → IsStrictlyIncreasing xs → f ≡ get_or xs 0 f → q < f → false ≡ has q xs
below_first q f xs up first less = both_ways false (has q xs) (λ e. absurd cc) (λ here. absurd (nowhere (contains_from q xs here)))
  where
    nowhere : Contains xs q → ⊥
    nowhere c =
        let is : get_or xs c.0 0 ≡ q = sym (same_default xs c.0 q c.1) ∙ c.2 in
        let bottom : f ≡ get_or xs 0 0 = first ∙ same_default xs 0 f (omega (arith, c.1)) in
        let low : get_or xs 0 0 ≤ get_or xs c.0 0 = never_fall xs up 0 c.0 (omega arith) c.1 in
        omega (arith, less, is, bottom, low)

pub above_last : (q l : ℕ) (xs : List ℕ) (n : ℕ) → IsStrictlyIncreasing xs → suc n ≡ length xs → l ≡ get_or xs n l → l < q → false ≡ has q xs
above_last q l xs n up all last more = both_ways false (has q xs) (λ e. absurd cc) (λ here. absurd (nowhere (contains_from q xs here)))
  where
    nowhere : Contains xs q → ⊥
    nowhere c =
        let is : get_or xs c.0 0 ≡ q = sym (same_default xs c.0 q c.1) ∙ c.2 in
        let top : l ≡ get_or xs n 0 = last ∙ same_default xs n l (omega (arith, all)) in
        let high : get_or xs c.0 0 ≤ get_or xs n 0 = never_fall xs up c.0 n (omega (arith, all, c.1)) (omega (arith, all)) in
        omega (arith, more, is, top, high)

-- what a search tells
pub searched_has : (q : ℕ) (xs : List ℕ) (r : Result ℕ ℕ) → IsStrictlyIncreasing xs → IsBinarySearchResult (λ y. nat_cmp y q) xs r → is_ok r ≡ has q xs
searched_has q xs (Ok i) up found =
    let at = searched xs q (Ok i) found (never_fall xs up) in
    sym (list_any_at (λ p. p == q) xs i 0 at.0 (ap (λ x. x == q) at.1 ∙ itself q))
searched_has q xs (Err i) up found =
    let at = searched xs q (Err i) found (never_fall xs up) in
    both_ways false (has q xs) (λ f. absurd cc) (λ here. absurd (nowhere at.1 at.2 (contains_from q xs here)))
  where
    nowhere : ((k : ℕ) → k < i → get_or xs k 0 < q) → ((k : ℕ) → i ≤ k → k < length xs → q < get_or xs k 0) → Contains xs q → ⊥
    nowhere lower higher c =
        let is : get_or xs c.0 0 ≡ q = sym (same_default xs c.0 q c.1) ∙ c.2 in
        at (nat_le i c.0) refl is
      where
        at : (b : Bool) → nat_le i c.0 ≡ b → get_or xs c.0 0 ≡ q → ⊥
        at true e is = let over : q < get_or xs c.0 0 = higher c.0 (grind (arith, nat_tests, e)) c.1 in omega (arith, over, is)
        at false e is = let under : get_or xs c.0 0 < q = lower c.0 (grind (arith, nat_tests, e)) in omega (arith, under, is)

-- of two lists it doesn't matter which is looked through
share_holds : (xs ys : List ℕ) (x : ℕ) → has x xs ≡ true → has x ys ≡ true → share_one xs ys ≡ true
share_holds [] ys x here there = absurd cc
share_holds (z ∷ xs) ys x here there = at (z == x) refl (λ e. share_holds xs ys x e there)
  where
    at : (b : Bool) → (z == x) ≡ b → (has x xs ≡ true → share_one xs ys ≡ true) → share_one (z ∷ xs) ys ≡ true
    at true e rest = ap (λ b. b || share_one xs ys) (ap (λ n. has n ys) (same_number z x e) ∙ there)
    at false e rest = or_right (has z ys) (share_one xs ys) (rest (sym (ap (λ b. b || has x xs) e) ∙ here))

share_more : (x : ℕ) (xs zs : List ℕ) → share_one zs xs ≡ true → share_one zs (x ∷ xs) ≡ true
share_more x xs [] t = absurd cc
share_more x xs (z ∷ zs) t = at (has z xs) refl (λ e. share_more x xs zs e)
  where
    at : (b : Bool) → has z xs ≡ b → (share_one zs xs ≡ true → share_one zs (x ∷ xs) ≡ true) → share_one (z ∷ zs) (x ∷ xs) ≡ true
    at true e rest = ap (λ b. b || share_one zs (x ∷ xs)) (or_right (x == z) (has z xs) e)
    at false e rest = or_right (has z (x ∷ xs)) (share_one zs (x ∷ xs)) (rest (sym (ap (λ b. b || share_one zs xs) e) ∙ t))

share_turn : (xs ys : List ℕ) → share_one xs ys ≡ true → share_one ys xs ≡ true
share_turn [] ys s = absurd cc
share_turn (x ∷ xs) ys s = at (has x ys) refl (λ e. share_turn xs ys e)
  where
    at : (b : Bool) → has x ys ≡ b → (share_one xs ys ≡ true → share_one ys xs ≡ true) → share_one ys (x ∷ xs) ≡ true
    at true e rest = share_holds ys (x ∷ xs) x e (has_first x xs)
    at false e rest = share_more x xs ys (rest (sym (ap (λ b. b || share_one xs ys) e) ∙ s))

pub share_turned : (xs ys : List ℕ) → share_one xs ys ≡ share_one ys xs
share_turned xs ys = both_ways (share_one xs ys) (share_one ys xs) (share_turn xs ys) (share_turn ys xs)

-- ---- keys
has_later : (q : ℕ) (xs ys : List ℕ) → has q ys ≡ true → has q (xs ++ ys) ≡ true
has_later q xs ys here = has-append q xs ys ∙ or_right (has q xs) (has q ys) here

listed_first : (x : Key) (keys : List Key) → is_among (set_of (x ∷ keys)) x ≡ true
listed_first (Handle q) keys = has_first q (numbers Handles keys)
listed_first (Cell q) keys = has_first q (numbers Cells keys)
listed_first (Object q) keys = has_first q (numbers Objects keys)
listed_first (Scope q) keys = has_first q (numbers Labels keys)

listed_later : (x y : Key) (keys : List Key) → is_among (set_of keys) x ≡ true → is_among (set_of (y ∷ keys)) x ≡ true
listed_later (Handle q) y keys n = has_later q (option_to_list (kind_number Handles y)) (numbers Handles keys) n
listed_later (Cell q) y keys n = has_later q (option_to_list (kind_number Cells y)) (numbers Cells keys) n
listed_later (Object q) y keys n = has_later q (option_to_list (kind_number Objects y)) (numbers Objects keys) n
listed_later (Scope q) y keys n = has_later q (option_to_list (kind_number Labels y)) (numbers Labels keys) n

all_listed : (k : Key → Bool) (keys : List Key) → ((x : Key) → is_among (set_of keys) x ≡ true → k x ≡ true) → AreWithin k keys
all_listed k [] f = tt
all_listed k (x ∷ keys) f = (f x (listed_first x keys), all_listed k keys (λ y n. f y (listed_later y x keys n)))

-- a number comes from a key of its kind
module _ (k : Kind) (make : ℕ → Key) (made : (y : Key) (p : ℕ) → kind_number k y ≡ Some p → y ≡ make p) where
  found_in : (q : ℕ) (keys : List Key) → has q (numbers k keys) ≡ true → Contains keys (make q)
  found_in q [] here = absurd cc
  found_in q (y ∷ ys) here = by (kind_number k y) refl (λ n. Contains-append_right (y ∷ []) ys (make q) (found_in q ys n))
    where
      at : (p : ℕ) (b : Bool) → (p == q) ≡ b → kind_number k y ≡ Some p → (b || has q (numbers k ys)) ≡ true → (has q (numbers k ys) ≡ true → Contains (y ∷ ys) (make q)) → Contains (y ∷ ys) (make q)
      at p true e is h later = subst (λ z. Contains (z ∷ ys) (make q)) (sym (made y p is ∙ ap make (same_number p q e))) (contains_first (make q) ys)
      at p false e is h later = later h

      by : (o : Option ℕ) → kind_number k y ≡ o → (has q (numbers k ys) ≡ true → Contains (y ∷ ys) (make q)) → Contains (y ∷ ys) (make q)
      by None is later = later (sym (ap (λ o. has q (option_to_list o ++ numbers k ys)) is) ∙ here)
      by (Some p) is later = at p (p == q) refl is (sym (ap (λ o. has q (option_to_list o ++ numbers k ys)) is) ∙ here) later

pub some_same : (a b : ℕ) → Some a ≡ Some b → a ≡ b
some_same a b e = ap (λ (x : Option ℕ). of x) e
  where
    of : Option ℕ → ℕ
    of None = 0
    of (Some x) = x

of_handle : (y : Key) (p : ℕ) → kind_number Handles y ≡ Some p → y ≡ Handle p
of_handle (Handle q) p is = ap (λ n. Handle n) (some_same q p is)
of_handle (Cell q) p is = absurd cc
of_handle (Object q) p is = absurd cc
of_handle (Scope q) p is = absurd cc

of_cell : (y : Key) (p : ℕ) → kind_number Cells y ≡ Some p → y ≡ Cell p
of_cell (Handle q) p is = absurd cc
of_cell (Cell q) p is = ap (λ n. Cell n) (some_same q p is)
of_cell (Object q) p is = absurd cc
of_cell (Scope q) p is = absurd cc

of_object : (y : Key) (p : ℕ) → kind_number Objects y ≡ Some p → y ≡ Object p
of_object (Handle q) p is = absurd cc
of_object (Cell q) p is = absurd cc
of_object (Object q) p is = ap (λ n. Object n) (some_same q p is)
of_object (Scope q) p is = absurd cc

of_scope : (y : Key) (p : ℕ) → kind_number Labels y ≡ Some p → y ≡ Scope p
of_scope (Handle q) p is = absurd cc
of_scope (Cell q) p is = absurd cc
of_scope (Object q) p is = absurd cc
of_scope (Scope q) p is = ap (λ n. Scope n) (some_same q p is)

found_listed : (keys : List Key) (x : Key) → is_among (set_of keys) x ≡ true → Contains keys x
found_listed keys (Handle q) here = found_in Handles (λ h. Handle h) of_handle q keys here
found_listed keys (Cell q) here = found_in Cells (λ c. Cell c) of_cell q keys here
found_listed keys (Object q) here = found_in Objects (λ o. Object o) of_object q keys here
found_listed keys (Scope q) here = found_in Labels (λ t. Scope t) of_scope q keys here

-- a set that has what the list has as a set has its keys
pub Has-same : (d : KeySet) (keys : List Key) → ((x : Key) → is_among d x ≡ is_among (set_of keys) x) → Has d keys
Has-same d keys same = record { all = all_listed (is_among d) keys (λ x here. same x ∙ here); only = λ x here. found_listed keys x (sym (same x) ∙ here) }

-- a list as a set has its keys
pub Has-set_of : (keys : List Key) → Has (set_of keys) keys
Has-set_of keys = Has-same (set_of keys) keys (λ x. refl)

pub beside_nothing : (d : KeySet) (x : Key) → (is_among nothing x || is_among d x) ≡ is_among d x
beside_nothing d (Handle q) = refl
beside_nothing d (Cell q) = refl
beside_nothing d (Object q) = refl
beside_nothing d (Scope q) = refl

key_within : (k : Key → Bool) (keys : List Key) (x : Key) → AreWithin k keys → Contains keys x → k x ≡ true
key_within k keys x all c = at keys c.0 all c.1 c.2
  where
    at : (ys : List Key) (i : ℕ) → AreWithin k ys → i < length ys → get_or ys i x ≡ x → k x ≡ true
    at [] i all within is = absurd (omega (arith, within))
    at (y ∷ ys) zero all within is = subst (λ z. k z ≡ true) is all.0
    at (y ∷ ys) (suc i) all within is = at ys i all.1 (omega (arith, within)) is

-- two sets of the same keys have the same
pub among_same : (a b : KeySet) (keys : List Key) → Has a keys → Has b keys → (x : Key) → is_among a x ≡ is_among b x
among_same a b keys h g x =
    both_ways (is_among a x) (is_among b x)
    (λ here. key_within (is_among b) keys x g.all (h.only x here))
    (λ here. key_within (is_among a) keys x h.all (g.only x here))

-- a set that has the keys of a list has what the list has as a set
pub among_set_of : (d : KeySet) (keys : List Key) → Has d keys → (x : Key) → is_among d x ≡ is_among (set_of keys) x
among_set_of d keys h = among_same d (set_of keys) keys h (Has-set_of keys)

-- of two lists one after the other
pub among_append : (xs ys : List Key) (x : Key) → is_among (set_of (xs ++ ys)) x ≡ (is_among (set_of xs) x || is_among (set_of ys) x)
among_append xs ys (Handle q) = ap (has q) (flat_map-append (λ k. option_to_list (kind_number Handles k)) xs ys) ∙ has-append q (numbers Handles xs) (numbers Handles ys)
among_append xs ys (Cell q) = ap (has q) (flat_map-append (λ k. option_to_list (kind_number Cells k)) xs ys) ∙ has-append q (numbers Cells xs) (numbers Cells ys)
among_append xs ys (Object q) = ap (has q) (flat_map-append (λ k. option_to_list (kind_number Objects k)) xs ys) ∙ has-append q (numbers Objects xs) (numbers Objects ys)
among_append xs ys (Scope q) = ap (has q) (flat_map-append (λ k. option_to_list (kind_number Labels k)) xs ys) ∙ has-append q (numbers Labels xs) (numbers Labels ys)

-- ---- keys that are looked up one after another
first_of_four : (a b c d e : Bool) → (a || (b || (c || (d || e)))) ≡ ((a || b) || (c || (d || e)))
first_of_four true b c d e = refl
first_of_four false b c d e = refl

second_of_four : (a b c d e : Bool) → (a || (b || (c || (d || e)))) ≡ (b || ((a || c) || (d || e)))
second_of_four true true c d e = refl
second_of_four true false c d e = refl
second_of_four false b c d e = refl

third_of_four : (a b c d e : Bool) → (a || (b || (c || (d || e)))) ≡ (b || (c || ((a || d) || e)))
third_of_four true true c d e = refl
third_of_four true false true d e = refl
third_of_four true false false d e = refl
third_of_four false b c d e = refl

fourth_of_four : (a b c d e : Bool) → (a || (b || (c || (d || e)))) ≡ (b || (c || (d || (a || e))))
fourth_of_four true true c d e = refl
fourth_of_four true false true d e = refl
fourth_of_four true false false true e = refl
fourth_of_four true false false false e = refl
fourth_of_four false b c d e = refl

module _ (s : KeySet) where
  meets_listed : (keys : List Key) → list_any (is_among s) keys ≡ meet (set_of keys) s
  meets_listed [] = refl
  meets_listed (x ∷ keys) = ap (λ b. is_among s x || b) (meets_listed keys) ∙ one x
    where
      one : (y : Key) → (is_among s y || meet (set_of keys) s) ≡ meet (set_of (y ∷ keys)) s
      one (Handle q) = first_of_four (has q s.handles) (share_one (numbers Handles keys) s.handles) (share_one (numbers Cells keys) s.cells) (share_one (numbers Objects keys) s.objects) (share_one (numbers Labels keys) s.labels)
      one (Cell q) = second_of_four (has q s.cells) (share_one (numbers Handles keys) s.handles) (share_one (numbers Cells keys) s.cells) (share_one (numbers Objects keys) s.objects) (share_one (numbers Labels keys) s.labels)
      one (Object q) = third_of_four (has q s.objects) (share_one (numbers Handles keys) s.handles) (share_one (numbers Cells keys) s.cells) (share_one (numbers Objects keys) s.objects) (share_one (numbers Labels keys) s.labels)
      one (Scope q) = fourth_of_four (has q s.labels) (share_one (numbers Handles keys) s.handles) (share_one (numbers Cells keys) s.cells) (share_one (numbers Objects keys) s.objects) (share_one (numbers Labels keys) s.labels)

pub meet_turned : (a b : KeySet) → meet a b ≡ meet b a
meet_turned a b =
    ap (λ x. x || (share_one a.cells b.cells || (share_one a.objects b.objects || share_one a.labels b.labels))) (share_turned a.handles b.handles)
    ∙ ap (λ x. share_one b.handles a.handles || (x || (share_one a.objects b.objects || share_one a.labels b.labels))) (share_turned a.cells b.cells)
    ∙ ap (λ x. share_one b.handles a.handles || (share_one b.cells a.cells || (x || share_one a.labels b.labels))) (share_turned a.objects b.objects)
    ∙ ap (λ x. share_one b.handles a.handles || (share_one b.cells a.cells || (share_one b.objects a.objects || x))) (share_turned a.labels b.labels)

-- a set meets a list where one of its keys is in the set
pub meet_listed : (s : KeySet) (keys : List Key) → list_any (is_among s) keys ≡ meet s (set_of keys)
meet_listed s keys = meets_listed s keys ∙ meet_turned (set_of keys) s

-- ---- sets within others
-- all of these numbers are among those
abbrev pub AreAll : (xs ys : List ℕ) → Type 0
AreAll xs ys = (q : ℕ) → has q xs ≡ true → has q ys ≡ true

pub all_of_kinds : (d e : KeySet) → AreAll d.handles e.handles → AreAll d.cells e.cells → AreAll d.objects e.objects → AreAll d.labels e.labels → (x : Key) → is_among d x ≡ true → is_among e x ≡ true
all_of_kinds d e hs cs os ts (Handle q) here = hs q here
all_of_kinds d e hs cs os ts (Cell q) here = cs q here
all_of_kinds d e hs cs os ts (Object q) here = os q here
all_of_kinds d e hs cs os ts (Scope q) here = ts q here

-- what is tested where an earlier test held, or isn't tested any more, tells whether both hold
pub tested_too : (A B : Type 0) (a b v : Bool) → (a ≡ true ↔ A) → a ≡ true → (b ≡ true ↔ B) → v ≡ b → (v ≡ true ↔ A × B)
tested_too A B a b v first held second is = (λ t. (first.0 held, second.0 (sym is ∙ t)), λ both. is ∙ second.1 both.1)

pub tested_no_more : (A B : Type 0) (a v : Bool) → (a ≡ true ↔ A) → a ≡ false → v ≡ a → (v ≡ true ↔ A × B)
tested_no_more A B a v first failed is = (λ t. absurd (clash a (sym is ∙ t) failed), λ both. absurd (clash a (first.1 both.0) failed))
