-- What the parts of an account rest on: places and ways within a graph, numbers of objects, and lists of them.
use Rattle.std.proofs.Common.{◌≡◌, ℕ, zero, suc, ◌+◌, ◌<◌, ◌≤◌, ◌≢◌, List, [], ◌∷◌, ◌++◌, length, get_or, map, take, refl, sym, ap, ◌∙◌, subst, arith, Bool, true, false, inl, inr, cond}
use Rattle.std.specs.Prelude.{Some, None, ◌⊎◌, ◌==◌, ◌||◌, ◌&&◌, not, nat_lt, filter, reverse, slice_index, slice_index_or, if◌then◌else◌}
use Rattle.std.specs.List.{All}
use Rattle.std.proofs.lemmas.Bool.Decides.{nat_tests}
use Rattle.std.proofs.lemmas.List.{get_or_past, length-map, length_push, get_or_push, get_or_append_left, take_more, map-append}
use Rattle.std.proofs.lemmas.List.FromFn.{length-range_with_len, get_or-range_with_len}
use Rattle.std.proofs.lemmas.List.Elements.{filter-append, All-nil, All-cons, All-filter, All-from_get_or, All-get_or}
use Rattle.std.proofs.lemmas.List.Sums.{sum_by-cons}
use Rattle.trace_types.specs.declared.slots.Slot.{Slot}
use Rattle.trace_types.specs.declared.slots.Slot.TheVariants.{Nothing, Strong, Weak, Dangling}
use Rattle.ownership_model.specs.Reach.{has}
use Rattle.ownership_model.proofs.Searching.{either, or_left, or_right}
use Rattle.retention_model.specs.declared.place.Place.TheVariants.{Cell}
use Rattle.retention_model.specs.declared.place.Held.{Held}
use Rattle.retention.specs.declared.graph.Graph.{Graph}
use Rattle.retention.specs.declared.walk.Walk.{Walk}
use Rattle.retention.specs.Layout.{upto, naming}
use Rattle.retention.specs.Graph.{size, places, object_at, held_at, holds, strong_target, IsFieldAt}
use Rattle.retention.specs.Walked.{Leads, IsToldWay, has_come, CameBy, IsWalkFrom}
use Rattle.retention.specs.declared.cycles.Cycles.{Cycles}
use Rattle.retention.specs.Components.{AreCycles, size_of}
use Rattle.retention.specs.Dating.{is_marked, LeadsTo, AreDistinct}
use Rattle.retention.specs.Retaining.{AreApart}
use Rattle.retention.proofs.DatingLemmas.{same_or_not, leads_marked}

-- ---- places

nothing_held : (n : ℕ) (s : Slot) (t k : ℕ) → s ≡ Nothing → strong_target s t n ≡ Some k → ⊥
nothing_held n s t k none held = let e : strong_target Nothing t n ≡ Some k = subst (λ (x : Slot). strong_target x t n ≡ Some k) none held in cc

less_or_not : (a b : ℕ) → (a < b) ⊎ (b ≤ a)
less_or_not a b = elim (nat_lt a b) as (λ x. nat_lt a b ≡ x → (a < b) ⊎ (b ≤ a)) [
  | true ↦ λ e. inl (grind (arith, nat_tests, e))
  | false ↦ λ e. inr (grind (arith, nat_tests, e))
] refl

-- a place that holds an object is one
pub holds_place : (g : Graph) (p t : ℕ) → holds g p ≡ Some t → p < places g
holds_place g p t held = by_size (less_or_not p (places g))
  where
    by_size : (p < places g) ⊎ (places g ≤ p) → p < places g
    by_size (inl within) = within
    by_size (inr past) =
        absurd (nothing_held (size g) (held_at g p).slot _ t
        (ap (λ (h : Held). h.slot) (get_or_past g.held.items p (record { place = Cell 0; slot = Nothing; since = 0 }) past)) held)

test_below : (b : Bool) (t k : ℕ) → (if b then Some t else None) ≡ Some k → (b ≡ true) × (t ≡ k)
test_below true t k e = (refl, let x : Some t ≡ Some k = e in cc)
test_below false t k e = absurd (let x : None ≡ Some k = e in cc)

strong_within : (s : Slot) (t n k : ℕ) → strong_target s t n ≡ Some k → k < n
strong_within Nothing t n k e = absurd (let x : None ≡ Some k = e in cc)
strong_within (Strong o) t n k e = let it = test_below (nat_lt t n) t k e in let less : t < n = grind (arith, nat_tests, it.0) in omega (arith, less, it.1)
strong_within (Weak o) t n k e = absurd (let x : None ≡ Some k = e in cc)
strong_within Dangling t n k e = absurd (let x : None ≡ Some k = e in cc)

-- and the object is one too
pub holds_within : (g : Graph) (p t : ℕ) → holds g p ≡ Some t → t < size g
holds_within g p t held = strong_within (held_at g p).slot _ (size g) t held

pub naming_within : (targets : List ℕ) (i : ℕ) → All (λ p. p < length targets) (naming targets i)
naming_within targets i =
    All-filter (λ p. slice_index targets p == i) (λ p. p < length targets) (upto (length targets))
    (All-from_get_or (λ p. p < length targets) (upto (length targets)) 0
    (λ k less. let n : length (upto (length targets)) ≡ length targets = length-range_with_len 0 (length targets) in
    omega (arith, get_or-range_with_len 0 (length targets) k 0 (omega (arith, less, n)), less, n)))

-- ---- ways

way_within : (g : Graph) (from : ℕ → Bool) (o : ℕ) (way : List ℕ) → Leads g from o way → All (λ p. p < places g) way
way_within g from o [] leads = absurd leads
way_within g from o (p ∷ []) leads = All-cons (λ q. q < places g) p [] (holds_place g p o leads.0) (All-nil (λ q. q < places g))
way_within g from o (p ∷ q ∷ way) leads = All-cons (λ r. r < places g) p (q ∷ way) (holds_place g p o leads.0) (way_within g from leads.1.0 (q ∷ way) leads.1.2)

-- what a walk came to has a way
pub came_by : (g : Graph) (from : ℕ → Bool) (w : Walk) (i : ℕ) → IsWalkFrom g from w → has_come w.steps.items i ≡ true
    → (way : List ℕ) × CameBy (IsFieldAt g) w.steps.items i way × All (λ p. p < places g) way
came_by g from w i walked come = (walked.way i, walked.came i come, way_within g from i (walked.way i) (walked.least i come).0)

pub way_told : (g : Graph) (w : Walk) (i : ℕ) (told : List Held) → ((way : List ℕ) → CameBy (IsFieldAt g) w.steps.items i way → length way ≤ size g → told ≡ map (held_at g) (reverse way))
    → (from : ℕ → Bool) → IsWalkFrom g from w → has_come w.steps.items i ≡ true → IsToldWay g from i told
way_told g w i told is from walked come = (walked.way i, walked.least i come, is (walked.way i) (walked.came i come) (walked.short i come))

-- ---- numbers of objects

pub rising_distinct : (g : Graph) → AreDistinct g
rising_distinct g i j here there same = by_order (same_or_not i j) (less_or_not i j)
  where
    by_order : (i ≡ j) ⊎ (i ≢ j) → (i < j) ⊎ (j ≤ i) → i ≡ j
    by_order (inl e) order = e
    by_order (inr other) (inl less) = absurd (omega (arith, g.laid.rising i j less there, same))
    by_order (inr other) (inr more) = absurd (omega (arith, g.laid.rising j i (omega (arith, more, other)) here, same))

-- ---- how many objects are in a list of them

same_test : (a b : ℕ) → (a == b) ≡ true → a ≡ b
same_test a b e = grind (arith, nat_tests, e)

self : (a : ℕ) → (a == a) ≡ true
self a = grind (arith, nat_tests)

other_test : (a b : ℕ) → a ≢ b → (a == b) ≡ false
other_test a b other = elim (a == b) as (λ x. (a == b) ≡ x → (a == b) ≡ false) [
  | true ↦ λ e. absurd (other (same_test a b e))
  | false ↦ λ e. e
] refl

or_false : (a b : Bool) → (a || b) ≡ false → (a ≡ false) × (b ≡ false)
or_false true b e = absurd cc
or_false false b e = (refl, e)

-- of a list without the number, the members are those of the shorter list
members_less : (o : ℕ) (os ks : List ℕ) → has o ks ≡ false → length (filter (λ k. has k (o ∷ os)) ks) ≡ length (filter (λ k. has k os) ks)
members_less o os [] out = refl
members_less o os (k ∷ ks) out =
    let apart = or_false (k == o) (has o ks) out in
    let other : (o == k) ≡ false = other_test o k (λ e. never (k == o) (ap (λ x. k == x) e ∙ self k) apart.0) in
    let test : has k (o ∷ os) ≡ has k os = ap (λ b. b || has k os) other in
    by_test (has k os) (has k (o ∷ os)) test (members_less o os ks apart.1)
  where
    never : (b : Bool) → b ≡ true → b ≡ false → ⊥
    never b p q = cc

    by_test : (a b : Bool) → b ≡ a → length (filter (λ x. has x (o ∷ os)) ks) ≡ length (filter (λ x. has x os) ks)
        → length (if b then k ∷ filter (λ x. has x (o ∷ os)) ks else filter (λ x. has x (o ∷ os)) ks) ≡ length (if a then k ∷ filter (λ x. has x os) ks else filter (λ x. has x os) ks)
    by_test true true e rest = ap suc rest
    by_test true false e rest = absurd cc
    by_test false true e rest = absurd cc
    by_test false false e rest = rest

-- a number more, which the list has once
members_more : (o : ℕ) (os ks : List ℕ) → AreApart ks → has o ks ≡ true → has o os ≡ false → length (filter (λ k. has k (o ∷ os)) ks) ≡ suc (length (filter (λ k. has k os) ks))
members_more o os [] apart there new = absurd cc
members_more o os (k ∷ ks) apart there new = by_place (λ later. members_more o os ks apart.1 later new) (same_or_not k o)
  where
    at_same : (a b : Bool) → b ≡ true → a ≡ false → length (filter (λ x. has x (o ∷ os)) ks) ≡ length (filter (λ x. has x os) ks)
        → length (if b then k ∷ filter (λ x. has x (o ∷ os)) ks else filter (λ x. has x (o ∷ os)) ks) ≡ suc (length (if a then k ∷ filter (λ x. has x os) ks else filter (λ x. has x os) ks))
    at_same true b p q rest = absurd cc
    at_same false true p q rest = ap suc rest
    at_same false false p q rest = absurd cc

    at_other : (a b : Bool) → b ≡ a → length (filter (λ x. has x (o ∷ os)) ks) ≡ suc (length (filter (λ x. has x os) ks))
        → length (if b then k ∷ filter (λ x. has x (o ∷ os)) ks else filter (λ x. has x (o ∷ os)) ks) ≡ suc (length (if a then k ∷ filter (λ x. has x os) ks else filter (λ x. has x os) ks))
    at_other true true e rest = ap suc rest
    at_other true false e rest = absurd cc
    at_other false true e rest = absurd cc
    at_other false false e rest = rest

    by_place : (has o ks ≡ true → length (filter (λ x. has x (o ∷ os)) ks) ≡ suc (length (filter (λ x. has x os) ks))) → (k ≡ o) ⊎ (k ≢ o) → length (filter (λ x. has x (o ∷ os)) (k ∷ ks)) ≡ suc (length (filter (λ x. has x os) (k ∷ ks)))
    by_place rest (inl same) =
        at_same (has k os) (has k (o ∷ os)) (or_left (o == k) (has k os) (ap (λ x. x == k) (sym same) ∙ self k)) (ap (λ x. has x os) same ∙ new)
        (members_less o os ks (subst (λ x. has x ks ≡ false) same apart.0))
    by_place rest (inr other) =
        at_other (has k os) (has k (o ∷ os)) (ap (λ b. b || has k os) (other_test o k (λ e. other (sym e))))
        (rest (either (has o ks ≡ true) (k == o) (has o ks) there (λ e. absurd (other (same_test k o e))) (λ e. e)))

-- each member of the list once
pub members_count : (os ks : List ℕ) → AreApart ks → AreApart os → ((o : ℕ) → has o os ≡ true → has o ks ≡ true) → length (filter (λ k. has k os) ks) ≡ length os
members_count [] ks apart once sub = none ks
  where
    none : (ks : List ℕ) → length (filter (λ k. has k []) ks) ≡ 0
    none [] = refl
    none (k ∷ ks) = none ks
members_count (o ∷ os) ks apart once sub =
    members_more o os ks apart (sub o (or_left (o == o) (has o os) (self o))) once.0
    ∙ ap suc (members_count os ks apart once.1 (λ x h. sub x (or_right (o == x) (has x os) h)))

-- numbers that rise are apart
pub rising_apart : (ks : List ℕ) → ((i j : ℕ) → i < j → j < length ks → slice_index ks i < slice_index ks j) → AreApart ks
rising_apart [] rising = tt
rising_apart (k ∷ ks) rising = (not_later (has k ks) refl, rising_apart ks (λ i j less there. rising (suc i) (suc j) (omega (arith, less)) (omega (arith, there))))
  where
    at_index : (x : ℕ) (xs : List ℕ) → has x xs ≡ true → (i : ℕ) × (i < length xs) × (slice_index xs i ≡ x)
    at_index x [] h = absurd cc
    at_index x (y ∷ xs) h =
        either ((i : ℕ) × (i < length (y ∷ xs)) × (slice_index (y ∷ xs) i ≡ x)) (y == x) (has x xs) h
        (λ e. (0, omega arith, same_test y x e)) (λ e. let it = at_index x xs e in (suc it.0, omega (arith, it.1), it.2))

    not_later : (b : Bool) → has k ks ≡ b → b ≡ false
    not_later true h = let it = at_index k ks h in absurd (omega (arith, rising 0 (suc it.0) (omega arith) (omega (arith, it.1)), it.2))
    not_later false h = refl

-- the numbers of objects that are apart are apart
pub objects_apart : (g : Graph) (xs : List ℕ) → AreDistinct g → ((i : ℕ) → has i xs ≡ true → i < size g) → AreApart xs → AreApart (map (object_at g) xs)
objects_apart g [] distinct within apart = tt
objects_apart g (x ∷ xs) distinct within apart = (
  not_in xs (λ i h. within i (or_right (x == i) (has i xs) h)) apart.0,
  objects_apart g xs distinct (λ i h. within i (or_right (x == i) (has i xs) h)) apart.1,
)
  where
    not_in : (ys : List ℕ) → ((i : ℕ) → has i ys ≡ true → i < size g) → has x ys ≡ false → has (object_at g x) (map (object_at g) ys) ≡ false
    not_in [] there out = refl
    not_in (y ∷ ys) there out =
        let each = or_false (y == x) (has x ys) out in
        let other : (object_at g y == object_at g x) ≡ false =
        other_test (object_at g y) (object_at g x)
        (λ e. never (y == x) (ap (λ z. z == x) (distinct y x (there y (or_left (y == y) (has y ys) (self y))) (within x (or_left (x == x) (has x xs) (self x))) e) ∙ self x) each.0) in
        ap (λ b. b || has (object_at g x) (map (object_at g) ys)) other ∙ not_in ys (λ i h. there i (or_right (y == i) (has i ys) h)) each.1
      where
        never : (b : Bool) → b ≡ true → b ≡ false → ⊥
        never b p q = cc

pub has_map : (f : ℕ → ℕ) (x : ℕ) (xs : List ℕ) → has x xs ≡ true → has (f x) (map f xs) ≡ true
has_map f x [] h = absurd cc
has_map f x (y ∷ xs) h =
    either ((f y == f x || has (f x) (map f xs)) ≡ true) (y == x) (has x xs) h
    (λ e. or_left (f y == f x) (has (f x) (map f xs)) (ap (λ z. f z == f x) (same_test y x e) ∙ self (f x)))
    (λ e. or_right (f y == f x) (has (f x) (map f xs)) (has_map f x xs e))

pub map_has : (f : ℕ → ℕ) (o : ℕ) (xs : List ℕ) → has o (map f xs) ≡ true → (x : ℕ) × (has x xs ≡ true) × (f x ≡ o)
map_has f o [] h = absurd cc
map_has f o (y ∷ xs) h =
    either ((x : ℕ) × (has x (y ∷ xs) ≡ true) × (f x ≡ o)) (f y == o) (has o (map f xs)) h
    (λ e. (y, or_left (y == y) (has y xs) (self y), same_test (f y) o e))
    (λ e. let it = map_has f o xs e in (it.0, or_right (y == it.0) (has it.0 xs) it.1, it.2))

pub index_has : (ks : List ℕ) (i : ℕ) → i < length ks → has (slice_index ks i) ks ≡ true
index_has [] i less = absurd (omega (arith, less))
index_has (k ∷ ks) zero less = or_left (k == k) (has k ks) (self k)
index_has (k ∷ ks) (suc i) less = or_right (k == slice_index ks i) (has (slice_index ks i) ks) (index_has ks i (omega (arith, less)))

-- how many objects of a graph are in a list of them, each once
pub objects_count : (g : Graph) (xs : List ℕ) → ((i : ℕ) → has i xs ≡ true → i < size g) → AreApart xs → length (filter (λ k. has k (map (object_at g) xs)) g.objects.items) ≡ length xs
objects_count g xs within apart =
    members_count (map (object_at g) xs) g.objects.items (rising_apart g.objects.items g.laid.rising)
    (objects_apart g xs (rising_distinct g) within apart)
    (λ o h. let it = map_has (object_at g) o xs h in subst (λ x. has x g.objects.items ≡ true) it.2 (index_has g.objects.items it.0 (within it.0 it.1)))
    ∙ length-map xs (object_at g)

-- numbers below n that are apart are at most n
pub apart_few : (xs : List ℕ) (n : ℕ) → AreApart xs → ((i : ℕ) → has i xs ≡ true → i < n) → length xs ≤ n
apart_few xs n apart below =
    let numbers : List ℕ = upto n in
    let long : length (upto n) ≡ n = length-range_with_len 0 n in
    let rise : AreApart (upto n) = rising_apart (upto n) (λ i j less there. omega (arith, get_or-range_with_len 0 n i 0 (omega (arith, less, there, long)), get_or-range_with_len 0 n j 0 (omega (arith, there, long)), less)) in
    let all : length (filter (λ k. has k xs) (upto n)) ≡ length xs =
    members_count xs (upto n) rise apart (λ i h. subst (λ x. has x (upto n) ≡ true) (let at : slice_index (upto n) i ≡ i = omega (arith, get_or-range_with_len 0 n i 0 (below i h)) in at) (index_has (upto n) i (omega (arith, below i h, long)))) in
    omega (arith, all, filter_shorter (λ k. has k xs) (upto n), long)
  where
    filter_shorter : (p : ℕ → Bool) (ys : List ℕ) → length (filter p ys) ≤ length ys
    filter_shorter p [] = omega arith
    filter_shorter p (y ∷ ys) = by_test (p y) (filter_shorter p ys)
      where
        by_test : (b : Bool) → length (filter p ys) ≤ length ys → length (if b then y ∷ filter p ys else filter p ys) ≤ suc (length ys)
        by_test true less = omega (arith, less)
        by_test false less = omega (arith, less)

-- a list that is told so far, and one more
pub bools_more : (f : ℕ → Bool) (old new : List Bool) (v : Bool) (n : ℕ) → length old ≡ n → ((i : ℕ) → i < n → slice_index_or old i false ≡ f i) → new ≡ old ++ v ∷ [] → v ≡ f n
    → (length new ≡ n + 1) × ((i : ℕ) → i < n + 1 → slice_index_or new i false ≡ f i)
bools_more f old new v n long each is same = (
  ap length is ∙ length_push old v ∙ ap (λ k. k + 1) long,
  λ i less. by_place i less (same_or_not i n),
)
  where
    by_place : (i : ℕ) → i < n + 1 → (i ≡ n) ⊎ (i ≢ n) → slice_index_or new i false ≡ f i
    by_place i less (inl at_end) = ap (λ xs. slice_index_or xs i false) is ∙ get_or_push old v false i (long ∙ sym at_end) ∙ same ∙ ap f (sym at_end)
    by_place i less (inr other) =
        ap (λ xs. slice_index_or xs i false) is ∙ get_or_append_left old (v ∷ []) false i (omega (arith, less, other, long)) ∙ each i (omega (arith, less, other))

-- the chosen ones of a list, and one more
pub such_more : (t : Held → Bool) (f : ℕ → Held) (xs : List ℕ) (i x : ℕ) → i < length xs → x ≡ get_or xs i 0
    → filter t (map f (take (i + 1) xs)) ≡ filter t (map f (take i xs)) ++ (if t (f x) then f x ∷ [] else [])
such_more t f xs i x less is =
    ap (λ ys. filter t (map f ys)) (take_more xs i 0 less)
    ∙ ap (filter t) (map-append f (take i xs) (get_or xs i 0 ∷ []))
    ∙ filter-append t (map f (take i xs)) (f (get_or xs i 0) ∷ [])
    ∙ ap (λ y. filter t (map f (take i xs)) ++ (if t (f y) then f y ∷ [] else [])) (sym is)

-- a place that names an object is one
pub holder_place : (g : Graph) (i k x : ℕ) → k < length (naming g.targets.items i) → x ≡ get_or (naming g.targets.items i) k 0 → x < places g
holder_place g i k x less is =
    let within : get_or (naming g.targets.items i) k 0 < length g.targets.items =
    All-get_or (λ p. p < length g.targets.items) (naming g.targets.items i) k 0 less (naming_within g.targets.items i) in
    omega (arith, is, within, g.laid.targets_long, g.held.ok.0)

-- ---- how many objects are in a part

within_some : (xs : List ℕ) (i : ℕ) → 0 < slice_index xs i → i < length xs
within_some xs i some = by_size (less_or_not i (length xs))
  where
    by_size : (i < length xs) ⊎ (length xs ≤ i) → i < length xs
    by_size (inl less) = less
    by_size (inr past) = let none : slice_index xs i ≡ 0 = get_or_past xs i 0 past in absurd (omega (arith, none, some))

part_counts : (p : ℕ) (ks : List ℕ) (i : ℕ) → i < length ks → slice_index ks i ≡ p → 0 < size_of ks p
part_counts p [] i less is = absurd (omega (arith, less))
part_counts p (k ∷ ks) zero less is =
    let one : ◌≡◌ {A = ℕ} (cond (k == p) 1 0) 1 = ap (λ b. cond b 1 0) (subst (λ x. (k == x) ≡ true) is (self k)) in
    let sum : size_of (k ∷ ks) p ≡ cond (k == p) 1 0 + size_of ks p = sum_by-cons (λ z. cond (z == p) 1 0) k ks in
    omega (arith, sum, one)
part_counts p (k ∷ ks) (suc i) less is =
    let sum : size_of (k ∷ ks) p ≡ cond (k == p) 1 0 + size_of ks p = sum_by-cons (λ z. cond (z == p) 1 0) k ks in
    omega (arith, sum, part_counts p ks i (omega (arith, less)) is)

-- each part has a size
pub size_within : (g : Graph) (leaked : List Bool) (c : Cycles) → AreCycles g leaked c → (i : ℕ) → i < size g → slice_index c.parts.items i < length c.sizes.items
size_within g leaked c are i within =
    let there : slice_index c.parts.items i < size g = omega (arith, (are.parts.least i within).0, within) in
    let counts : 0 < size_of c.parts.items (slice_index c.parts.items i) = part_counts (slice_index c.parts.items i) c.parts.items i (omega (arith, within, are.parts.long)) refl in
    within_some c.sizes.items (slice_index c.parts.items i) (omega (arith, are.sizes (slice_index c.parts.items i) there, counts))

-- ---- what leads nowhere

pub never_there : (g : Graph) (marks : List Bool) (object : ℕ) → has object g.objects.items ≡ false → (i : ℕ) → LeadsTo g marks i object → ⊥
never_there g marks object out i it =
    let there : has object g.objects.items ≡ true = subst (λ o. has o g.objects.items ≡ true) it.2 (index_has g.objects.items it.0 it.1) in cc

pub never_marked : (g : Graph) (marks : List Bool) (object x : ℕ) → x < size g → object_at g x ≡ object → AreDistinct g → is_marked marks x ≡ false → (i : ℕ) → LeadsTo g marks i object → ⊥
never_marked g marks object x there number distinct unmarked i it =
    let same : it.0 ≡ x = distinct it.0 x it.1 there (it.2 ∙ sym number) in
    let marked : is_marked marks x ≡ true = subst (λ k. is_marked marks k ≡ true) same (leads_marked g marks it.0 i it.3) in cc

-- what is alive and not leaked is come to
pub comes_if_kept : (alive come : Bool) → (alive && not come) ≡ false → alive ≡ true → come ≡ true
comes_if_kept true true kept here = refl
comes_if_kept true false kept here = absurd cc
comes_if_kept false come kept here = absurd cc
