-- Numbers that rise, and the lives of the objects with them.
use Rattle.std.proofs.Common.{◌≡◌, ℕ, zero, suc, ◌+◌, ◌<◌, List, [], ◌∷◌, ◌≤◌, ◌++◌, drop, length, get_or, map, refl, sym, ap, ap₂, ◌∙◌, subst, arith, Bool, true, false}
use Rattle.std.specs.Prelude.{Some, None, ◌==◌, ◌||◌, if◌then◌else◌, fold}
use Rattle.std.specs.List.{AllByRecursion}
use Rattle.std.specs.Ordering.{nat_cmp, match_ordering}
use Rattle.std.specs.declared.cmp.Ordering.{Ordering}
use Rattle.std.specs.declared.cmp.Ordering.TheVariants.{Less, Equal, Greater}
use Rattle.std.specs.BTreeSet.{insert_key}
use Rattle.std.specs.List.Sorted.{IsStrictlySortedBy}
use Rattle.std.proofs.lemmas.Bool.Decides.{nat_tests}
use Rattle.std.proofs.lemmas.List.{get_or-map, length-map, drop_more, drop_all}
use Rattle.std.proofs.lemmas.List.Kept.{AllPairs-from_increasing}
use Rattle.std.proofs.lemmas.Map.Keys.{IsStrictlyIncreasing-from_sorted}
use Rattle.trace_types.specs.declared.outcomes.Outcome.{Outcome}
use Rattle.ownership_model.specs.Reach.{has}
use Rattle.ownership_model.proofs.Searching.{or_left, or_right}
use Rattle.leak_report.specs.declared.lives.Life.{Life}
use Rattle.trace_types.specs.declared.outcomes.Event.{Event}
use Rattle.leak_report.specs.Lives.{is_making, with_made, made_in, made_after, events_of, life_of, lives_by, lives_of}
use Rattle.leak_report.specs.Told.{HasRisingObjects}
use Rattle.retention_report.specs.Sources.{objects_of}
use Rattle.retention_report.specs.Explained.{first_unmade}

-- what is inserted is there, and what was there stays
pub has_inserted : (os : List ℕ) (k : ℕ) → has k (insert_key nat_cmp os k) ≡ true
has_inserted [] k = or_left (k == k) false (grind (arith, nat_tests))
has_inserted (x ∷ os) k = by_order (has_inserted os k) (nat_cmp k x) refl
  where
    by_order : has k (insert_key nat_cmp os k) ≡ true → (r : Ordering) → nat_cmp k x ≡ r → has k (match_ordering r (k ∷ x ∷ os) (x ∷ os) (x ∷ insert_key nat_cmp os k)) ≡ true
    by_order rest Less e = or_left (k == k) (has k (x ∷ os)) (grind (arith, nat_tests))
    by_order rest Equal e = or_left (x == k) (has k os) (grind (arith, nat_tests, e))
    by_order rest Greater e = or_right (x == k) (has k (insert_key nat_cmp os k)) rest

pub has_kept : (os : List ℕ) (k q : ℕ) → has q os ≡ true → has q (insert_key nat_cmp os k) ≡ true
has_kept [] k q h = absurd cc
has_kept (x ∷ os) k q h = by_order (λ there. has_kept os k q there) (nat_cmp k x)
  where
    by_first : (has q os ≡ true → has q (insert_key nat_cmp os k) ≡ true) → (b : Bool) → (x == q) ≡ b → (b || has q os) ≡ true → ((x == q) || has q (insert_key nat_cmp os k)) ≡ true
    by_first rest true e there = or_left (x == q) (has q (insert_key nat_cmp os k)) e
    by_first rest false e there = or_right (x == q) (has q (insert_key nat_cmp os k)) (rest there)

    by_order : (has q os ≡ true → has q (insert_key nat_cmp os k) ≡ true) → (r : Ordering) → has q (match_ordering r (k ∷ x ∷ os) (x ∷ os) (x ∷ insert_key nat_cmp os k)) ≡ true
    by_order rest Less = or_right (k == q) (has q (x ∷ os)) h
    by_order rest Equal = h
    by_order rest Greater = by_first rest (x == q) refl h

-- and they rise
above : (k x : ℕ) (os : List ℕ) → nat_cmp k x ≡ Less → AllByRecursion (λ y. nat_cmp x y ≡ Less) os → AllByRecursion (λ y. nat_cmp k y ≡ Less) os
above k x [] e h = tt
above k x (y ∷ os) e h = let first : nat_cmp x y ≡ Less = h.0 in (grind (arith, nat_tests), above k x os e h.1)

all_inserted : (x k : ℕ) (os : List ℕ) → nat_cmp x k ≡ Less → AllByRecursion (λ y. nat_cmp x y ≡ Less) os → AllByRecursion (λ y. nat_cmp x y ≡ Less) (insert_key nat_cmp os k)
all_inserted x k [] e h = (e, tt)
all_inserted x k (y ∷ os) e h = by_order (all_inserted x k os e h.1) (nat_cmp k y)
  where
    by_order : AllByRecursion (λ y. nat_cmp x y ≡ Less) (insert_key nat_cmp os k) → (r : Ordering) → AllByRecursion (λ z. nat_cmp x z ≡ Less) (match_ordering r (k ∷ y ∷ os) (y ∷ os) (y ∷ insert_key nat_cmp os k))
    by_order rest Less = (e, h)
    by_order rest Equal = h
    by_order rest Greater = (h.0, rest)

sorted_by_order : (x k : ℕ) (os : List ℕ) (r : Ordering) → nat_cmp k x ≡ r → IsStrictlySortedBy nat_cmp (x ∷ os) → IsStrictlySortedBy nat_cmp (insert_key nat_cmp os k)
    → IsStrictlySortedBy nat_cmp (match_ordering r (k ∷ x ∷ os) (x ∷ os) (x ∷ insert_key nat_cmp os k))
unfolding IsStrictlySortedBy
sorted_by_order x k os Less e s rest = ((e, above k x os e s.0), s)
sorted_by_order x k os Equal e s rest = s
sorted_by_order x k os Greater e s rest = (all_inserted x k os (grind (arith, nat_tests, e)) s.0, rest)

pub sorted_inserted : (os : List ℕ) (k : ℕ) → IsStrictlySortedBy nat_cmp os → IsStrictlySortedBy nat_cmp (insert_key nat_cmp os k)
unfolding IsStrictlySortedBy
sorted_inserted [] k s = (tt, tt)
sorted_inserted (x ∷ os) k s = sorted_by_order x k os (nat_cmp k x) refl s (sorted_inserted os k s.1)

sorted_none : IsStrictlySortedBy nat_cmp []
unfolding IsStrictlySortedBy
sorted_none = tt

sorted_with : (b : Bool) (os : List ℕ) (k : ℕ) → IsStrictlySortedBy nat_cmp os → IsStrictlySortedBy nat_cmp (if b then insert_key nat_cmp os k else os)
sorted_with true os k s = sorted_inserted os k s
sorted_with false os k s = s

made_sorted : (outs : List Outcome) (os : List ℕ) → IsStrictlySortedBy nat_cmp os → IsStrictlySortedBy nat_cmp (made_after os outs)
made_sorted [] os s = s
made_sorted (out ∷ outs) os s = made_sorted outs (with_made os out) (sorted_with (is_making out.verdict) os out.id s)

-- ---- lives

rising : (outs : List Outcome) (os : List ℕ) → IsStrictlySortedBy nat_cmp os → HasRisingObjects (map (life_of outs) os)
rising outs os sorted i j d before within =
    let inside : j < length os = omega (arith, within, length-map os (life_of outs)) in
    rw (get_or-map (life_of outs) os i 0 d (omega (arith, before, inside)), get_or-map (life_of outs) os j 0 d inside)
    (AllPairs-from_increasing os (IsStrictlyIncreasing-from_sorted os sorted) i j 0 before inside)

pub lives_rise : (outs : List Outcome) (ls : List Life) → ls ≡ lives_of outs → HasRisingObjects ls
lives_rise outs ls is = subst (λ (xs : List Life). HasRisingObjects xs) (sym is) (rising outs (made_after [] outs) (made_sorted outs [] sorted_none))

objects_map : (outs : List Outcome) (os : List ℕ) → objects_of (map (life_of outs) os) ≡ os
objects_map outs [] = refl
objects_map outs (o ∷ os) = ap (λ xs. o ∷ xs) (objects_map outs os)

pub lives_objects : (outs : List Outcome) (ls : List Life) → ls ≡ lives_of outs → objects_of ls ≡ made_after [] outs
lives_objects outs ls is = ap objects_of is ∙ objects_map outs (made_after [] outs)

-- the life that stands at a place
pub there_has : (ls : List Life) (i : ℕ) (o : ℕ) → i < length ls → ((d : Life) → (get_or ls i d).object ≡ o) → has o (objects_of ls) ≡ true
there_has [] i o within at = absurd (omega (arith, within))
there_has (l ∷ ls) zero o within at = let same : l.object ≡ o = at l in or_left (l.object == o) (has o (objects_of ls)) (grind (arith, nat_tests, same))
there_has (l ∷ ls) (suc i) o within at = or_right (l.object == o) (has o (objects_of ls)) (there_has ls i o (omega (arith, within)) at)

one_is : (outs : List Outcome) (os : List ℕ) (i : ℕ) (d : Life) → i < length (map (life_of outs) os) → get_or (map (life_of outs) os) i d ≡ life_of outs (get_or (map (life_of outs) os) i d).object
one_is outs os i d within =
    let at : get_or (map (life_of outs) os) i d ≡ life_of outs (get_or os i 0) = get_or-map (life_of outs) os i 0 d (omega (arith, within, length-map os (life_of outs))) in
    at ∙ ap (life_of outs) (sym (ap (λ (l : Life). l.object) at))

pub found_is : (outs : List Outcome) (ls : List Life) (i : ℕ) (d : Life) (o : ℕ) → ls ≡ lives_of outs → i < length ls → (get_or ls i d).object ≡ o → get_or ls i d ≡ life_of outs o
found_is outs ls i d o are within at =
    subst (λ (xs : List Life). i < length xs → get_or xs i d ≡ life_of outs (get_or xs i d).object) (sym are) (one_is outs (made_after [] outs) i d) within ∙ ap (life_of outs) at

-- ---- the first number with which no object was made

pub unmade_next : (made os : List ℕ) (i x : ℕ) → i < length os → x ≡ get_or os i x → has x made ≡ true → first_unmade made (drop (i + 1) os) ≡ first_unmade made (drop i os)
unmade_next made os i x within is h =
    sym (ap (λ b. if b then first_unmade made (drop (i + 1) os) else Some x) h) ∙ sym (ap (first_unmade made) (drop_more os i x within ∙ ap (λ y. y ∷ drop (i + 1) os) (sym is)))

pub unmade_found : (made os : List ℕ) (i x : ℕ) → i < length os → x ≡ get_or os i x → has x made ≡ false → first_unmade made (drop i os) ≡ Some x
unmade_found made os i x within is h =
    ap (first_unmade made) (drop_more os i x within ∙ ap (λ y. y ∷ drop (i + 1) os) (sym is)) ∙ ap (λ b. if b then first_unmade made (drop (i + 1) os) else Some x) h

pub unmade_none : (made os : List ℕ) (i : ℕ) → length os ≤ i → first_unmade made (drop i os) ≡ None
unmade_none made os i past = ap (first_unmade made) (drop_all i os past)

-- an object that was made is of one of the lives
pub not_missing : (outs : List Outcome) (ls : List Life) (o : ℕ) → ls ≡ lives_of outs → has o (made_after [] outs) ≡ true → has o (objects_of ls) ≡ false → ⊥
not_missing outs ls o are made gone = let same : has o (objects_of ls) ≡ has o (made_after [] outs) = ap (has o) (lives_objects outs ls are) in cc

-- the objects that were made, one after another, and all events
inserted : (outs : List Outcome) (os : List ℕ) → fold (insert_key nat_cmp) os (made_in outs) ≡ made_after os outs
inserted [] os = refl
inserted (out ∷ outs) os = one (is_making out.verdict) (inserted outs (insert_key nat_cmp os out.id)) (inserted outs os)
  where
    one : (b : Bool) → fold (insert_key nat_cmp) (insert_key nat_cmp os out.id) (made_in outs) ≡ made_after (insert_key nat_cmp os out.id) outs
        → fold (insert_key nat_cmp) os (made_in outs) ≡ made_after os outs
        → fold (insert_key nat_cmp) os ((if b then out.id ∷ [] else []) ++ made_in outs) ≡ made_after (if b then insert_key nat_cmp os out.id else os) outs
    one true made other = made
    one false made other = other

pub lived : (outs : List Outcome) (made : List ℕ) (events : List (ℕ × Event)) → made ≡ made_in outs → events ≡ events_of outs → lives_by events made ≡ lives_of outs
lived outs made events all told = ap₂ lives_by told all ∙ ap (map (life_of outs)) (inserted outs [])
