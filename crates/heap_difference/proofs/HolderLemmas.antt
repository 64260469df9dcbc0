-- Objects that have fewer holders, and how many slots that name them are still counted.
use Rattle.std.proofs.Common.{◌≡◌, ◌≢◌, ℕ, zero, suc, ◌+◌, ◌<◌, ◌≤◌, List, [], ◌∷◌, ◌++◌, length, map, get_or, take, drop, inl, inr, refl, ap, ◌∙◌, sym, subst, arith, Bool, true, false}
use Rattle.std.specs.Prelude.{◌==◌, ◌&&◌, ◌||◌, ◌⊎◌, nat_lt, slice_set, Some, None, Result, Ok, Err, OnOk, if◌then◌else◌}
use Rattle.std.specs.Option.{option_map_or}
use Rattle.std.specs.List.{AllByRecursion, Contains, list_any}
use Rattle.std.specs.FinMap.{get}
use Rattle.std.proofs.lemmas.Bool.Decides.{nat_tests}
use Rattle.std.proofs.lemmas.List.{map-append, take_more, take_all, take-append-le}
use Rattle.std.proofs.lemmas.List.Elements.{Contains-push, Contains-append_left, Contains-append_right}
use Rattle.trace_types.specs.declared.slots.Slot.{Slot}
use Rattle.trace_types.specs.declared.slots.Slot.TheVariants.{Strong}
use Rattle.trace_types.specs.declared.slots.Holding.TheVariants as holding
use Rattle.trace_types.specs.declared.slots.Entry.TheVariants.{Alive, Husk}
use Rattle.ownership_model.specs.declared.key.Key.{Key}
use Rattle.ownership_model.specs.declared.key.Key.TheVariants.{Handle, Cell, Object, Scope}
use Rattle.ownership_model.specs.Totals.{total}
use Rattle.ownership_model.specs.State.{State, strong, names_alike, slots_weight, holding_weight, entry_weight, standing_weight}
use Rattle.ownership_model.specs.Near.{weight_of_key, IsHeldOutside}
use Rattle.ownership_model.specs.Reach.{has}
use Rattle.ownership_model.proofs.Counting.{get_removed, total-remove, total-positive, same_number, names_alike-le}
use Rattle.ownership_model.proofs.Searching.{has-append, or_left}
use Rattle.heap_difference.specs.declared.key_set.KeySet.{KeySet}
use Rattle.heap_difference.specs.declared.holders.Holder.{Holder}
use Rattle.heap_difference.specs.declared.holders.Holders.{Holders}
use Rattle.heap_difference.specs.declared.shifts.Shift.{Shift}
use Rattle.heap_difference.specs.KeySets.{Handles, Cells, Objects, Labels, kind_number, is_among, set_of}
use Rattle.heap_difference.specs.Holders.{without_key, without_keys, IsLeft, NamesNone, IsSettled, IsCountedIn, objects_of, has_fewer, AreOfLessened, AreAllLeft, IsNoMoreCounted, IsNamedBeside, IsOneCounted, AreSlotsAt, are_named_by, less_by}
use Rattle.heap_difference.specs.Alikes.{is_alike}
use Rattle.heap_difference.specs.Recents.{is_recent}
use Rattle.heap_difference.proofs.AlikeLemmas.{any_front, any_behind}
use Rattle.heap_difference.proofs.Tests.{clash, itself, has_first, or_right, left_false}
use Rattle.heap_difference.proofs.KeyLemmas.{some_same, Has-set_of, among_append}

-- ---- lists
-- what holds of each, and of one more
all_push : {X : Type 0} (P : X → Type 0) (xs : List X) (x : X) → AllByRecursion P xs → P x → AllByRecursion P (xs ++ x ∷ [])
all_push P [] x all it = (it, tt)
all_push P (y ∷ ys) x all it = (all.0, all_push P ys x all.1 it)

-- what follows of each that is changed from what holds of it before
all_mapped : {X Y : Type 0} (P : X → Type 0) (Q : Y → Type 0) (f : X → Y) → ((x : X) → P x → Q (f x)) → (xs : List X) → AllByRecursion P xs → AllByRecursion Q (map f xs)
all_mapped P Q f step [] all = tt
all_mapped P Q f step (x ∷ xs) all = (step x all.0, all_mapped P Q f step xs all.1)

-- what follows of each from what holds of it
all_so : {X : Type 0} (P Q : X → Type 0) → ((x : X) → P x → Q x) → (xs : List X) → AllByRecursion P xs → AllByRecursion Q xs
all_so P Q step [] all = tt
all_so P Q step (x ∷ xs) all = (step x all.0, all_so P Q step xs all.1)

contains_first : {X : Type 0} (x : X) (xs : List X) → Contains (x ∷ xs) x
contains_first x xs = Contains-append_left (x ∷ []) xs x (Contains-push [] x)

-- what is no first element is none at all if it is no later one
not_first : {X : Type 0} (k x : X) (xs : List X) → k ≢ x → (Contains xs x → ⊥) → Contains (k ∷ xs) x → ⊥
not_first {X} k x xs other none c = at c.0 c.1 c.2
  where
    at : (i : ℕ) → i < suc (length xs) → get_or (k ∷ xs) i x ≡ x → ⊥
    at zero within is = other is
    at (suc i) within is = none (i, omega (arith, within), is)

-- ---- what slots weigh where a key is taken out of a state
-- either it is the same key, or it weighs what it did
abbrev IsTold : (Slot → ℕ) → (k x : Key) → State → Type 0
IsTold w k x m = ((k ≡ x) × (weight_of_key w (without_key k m) x ≡ 0)) ⊎ ((k ≢ x) × (weight_of_key w (without_key k m) x ≡ weight_of_key w m x))

-- so it is of handles
told_handle : (w : Slot → ℕ) (h g : ℕ) (m : State) → IsTold w (Handle h) (Handle g) m
told_handle w h g m = at (h == g) refl
  where
    at : (b : Bool) → (h == g) ≡ b → IsTold w (Handle h) (Handle g) m
    at true e = inl (ap (λ n. Handle n) (same_number h g e), ap (λ o. option_map_or (holding_weight w) o 0) (get_removed m.handles h g ∙ ap (λ b. if b then None else get m.handles g) e))
    at false e = inr (
      λ is. clash (h == g) (ap (λ n. n == g) (some_same h g (ap (kind_number Handles) is)) ∙ itself g) e,
      ap (λ o. option_map_or (holding_weight w) o 0) (get_removed m.handles h g ∙ ap (λ b. if b then None else get m.handles g) e),
    )

-- of cells
told_cell : (w : Slot → ℕ) (h g : ℕ) (m : State) → IsTold w (Cell h) (Cell g) m
told_cell w h g m = at (h == g) refl
  where
    at : (b : Bool) → (h == g) ≡ b → IsTold w (Cell h) (Cell g) m
    at true e = inl (ap (λ n. Cell n) (same_number h g e), ap (λ o. option_map_or w o 0) (get_removed m.cells h g ∙ ap (λ b. if b then None else get m.cells g) e))
    at false e = inr (
      λ is. clash (h == g) (ap (λ n. n == g) (some_same h g (ap (kind_number Cells) is)) ∙ itself g) e,
      ap (λ o. option_map_or w o 0) (get_removed m.cells h g ∙ ap (λ b. if b then None else get m.cells g) e),
    )

-- of objects
told_object : (w : Slot → ℕ) (h g : ℕ) (m : State) → IsTold w (Object h) (Object g) m
told_object w h g m = at (h == g) refl
  where
    at : (b : Bool) → (h == g) ≡ b → IsTold w (Object h) (Object g) m
    at true e = inl (ap (λ n. Object n) (same_number h g e), ap (λ o. option_map_or (entry_weight w) o 0) (get_removed m.objects h g ∙ ap (λ b. if b then None else get m.objects g) e))
    at false e = inr (
      λ is. clash (h == g) (ap (λ n. n == g) (some_same h g (ap (kind_number Objects) is)) ∙ itself g) e,
      ap (λ o. option_map_or (entry_weight w) o 0) (get_removed m.objects h g ∙ ap (λ b. if b then None else get m.objects g) e),
    )

-- and of labels, where no slots stand
told_scope : (w : Slot → ℕ) (h g : ℕ) (m : State) → IsTold w (Scope h) (Scope g) m
told_scope w h g m = at (h == g) refl
  where
    at : (b : Bool) → (h == g) ≡ b → IsTold w (Scope h) (Scope g) m
    at true e = inl (ap (λ n. Scope n) (same_number h g e), refl)
    at false e = inr (λ is. clash (h == g) (ap (λ n. n == g) (some_same h g (ap (kind_number Labels) is)) ∙ itself g) e, refl)

-- so it is of any two keys
told : (w : Slot → ℕ) (k x : Key) (m : State) → IsTold w k x m
told w (Handle h) (Handle g) m = told_handle w h g m
told w (Handle h) (Cell c) m = inr (λ is. absurd cc, refl)
told w (Handle h) (Object o) m = inr (λ is. absurd cc, refl)
told w (Handle h) (Scope t) m = inr (λ is. absurd cc, refl)
told w (Cell c) (Handle g) m = inr (λ is. absurd cc, refl)
told w (Cell c) (Cell d) m = told_cell w c d m
told w (Cell c) (Object o) m = inr (λ is. absurd cc, refl)
told w (Cell c) (Scope t) m = inr (λ is. absurd cc, refl)
told w (Object o) (Handle g) m = inr (λ is. absurd cc, refl)
told w (Object o) (Cell c) m = inr (λ is. absurd cc, refl)
told w (Object o) (Object p) m = told_object w o p m
told w (Object o) (Scope t) m = inr (λ is. absurd cc, refl)
told w (Scope t) (Handle g) m = inr (λ is. absurd cc, refl)
told w (Scope t) (Cell c) m = inr (λ is. absurd cc, refl)
told w (Scope t) (Object o) m = inr (λ is. absurd cc, refl)
told w (Scope t) (Scope u) m = told_scope w t u m

-- another key weighs what it did
kept : (w : Slot → ℕ) (k x : Key) (m : State) → k ≢ x → weight_of_key w (without_key k m) x ≡ weight_of_key w m x
kept w k x m other = at (told w k x m)
  where
    at : IsTold w k x m → weight_of_key w (without_key k m) x ≡ weight_of_key w m x
    at (inl d) = absurd (other d.0)
    at (inr d) = d.1

-- a key that weighs the same in two states does so without another
carried : (w : Slot → ℕ) (k x : Key) (m n : State) → weight_of_key w m x ≡ weight_of_key w n x → weight_of_key w (without_key k m) x ≡ weight_of_key w (without_key k n) x
carried w k x m n same = at (told w k x m) (told w k x n)
  where
    at : IsTold w k x m → IsTold w k x n → weight_of_key w (without_key k m) x ≡ weight_of_key w (without_key k n) x
    at (inl d) (inl e) = d.1 ∙ sym e.1
    at (inl d) (inr e) = absurd (e.0 d.0)
    at (inr d) (inl e) = absurd (d.0 e.0)
    at (inr d) (inr e) = d.1 ∙ same ∙ sym e.1

-- so it does without any others
carried_all : (w : Slot → ℕ) (keys : List Key) (x : Key) (m n : State) → weight_of_key w m x ≡ weight_of_key w n x → weight_of_key w (without_keys keys m) x ≡ weight_of_key w (without_keys keys n) x
carried_all w [] x m n same = same
carried_all w (k ∷ keys) x m n same = carried w k x (without_keys keys m) (without_keys keys n) (carried_all w keys x m n same)

-- all slots weigh less by what those at the key do
taken : (w : Slot → ℕ) (x : Key) (m : State) → standing_weight w (without_key x m) + weight_of_key w m x ≡ standing_weight w m
taken w (Handle h) m = omega (arith, total-remove (holding_weight w) m.handles h)
taken w (Cell c) m = omega (arith, total-remove w m.cells c)
taken w (Object o) m = omega (arith, total-remove (entry_weight w) m.objects o)
taken w (Scope t) m = omega arith

-- so it is without other keys
taken_too : (w : Slot → ℕ) (keys : List Key) (x : Key) (m : State) → (Contains keys x → ⊥) → standing_weight w (without_keys keys (without_key x m)) + weight_of_key w m x ≡ standing_weight w (without_keys keys m)
taken_too w [] x m none = taken w x m
taken_too w (k ∷ keys) x m none =
    let other : x ≢ k = λ is. none (subst (λ (y : Key). Contains (k ∷ keys) y) (sym is) (contains_first k keys)) in
    let rest : standing_weight w (without_keys keys (without_key x m)) + weight_of_key w m x ≡ standing_weight w (without_keys keys m) = taken_too w keys x m (λ c. none (Contains-append_right (k ∷ []) keys x c)) in
    let same : weight_of_key w (without_keys keys (without_key x m)) k ≡ weight_of_key w (without_keys keys m) k = carried_all w keys k (without_key x m) m (kept w x k m other) in
    omega (arith, rest, same, taken w k (without_keys keys (without_key x m)), taken w k (without_keys keys m))

-- which of the keys is taken out first doesn't matter
last_first : (keys : List Key) (x : Key) (m : State) → without_keys (keys ++ x ∷ []) m ≡ without_keys keys (without_key x m)
last_first [] x m = refl
last_first (k ∷ keys) x m = ap (without_key k) (last_first keys x m)

-- a key that still weighs something is none of those that were taken out
stays : (w : Slot → ℕ) (keys : List Key) (x : Key) (m : State) → 0 < weight_of_key w (without_keys keys m) x → (Contains keys x → ⊥) × (weight_of_key w (without_keys keys m) x ≡ weight_of_key w m x)
stays w [] x m more = (λ c. absurd (omega (arith, c.1)), refl)
stays w (k ∷ keys) x m more = at (told w k x (without_keys keys m)) (stays w keys x m)
  where
    at : IsTold w k x (without_keys keys m) → (0 < weight_of_key w (without_keys keys m) x → (Contains keys x → ⊥) × (weight_of_key w (without_keys keys m) x ≡ weight_of_key w m x))
        → (Contains (k ∷ keys) x → ⊥) × (weight_of_key w (without_keys (k ∷ keys) m) x ≡ weight_of_key w m x)
    at (inl d) rest = absurd (omega (arith, more, d.1))
    at (inr d) rest =
        let later = rest (omega (arith, more, d.1)) in
        (not_first k x keys d.0 later.0, d.1 ∙ later.1)

-- where all slots weigh something, those at some key do
some_key : (w : Slot → ℕ) (m : State) → 0 < standing_weight w m → (x : Key) × (0 < weight_of_key w m x)
some_key w m more = at (total (holding_weight w) m.handles) (total w m.cells) refl refl
  where
    at : (a b : ℕ) → total (holding_weight w) m.handles ≡ a → total w m.cells ≡ b → (x : Key) × (0 < weight_of_key w m x)
    at (suc a) b e f = let found = total-positive (holding_weight w) m.handles (omega (arith, e)) in (Handle found.0, found.1)
    at zero (suc b) e f = let found = total-positive w m.cells (omega (arith, f)) in (Cell found.0, found.1)
    at zero zero e f = let found = total-positive (entry_weight w) m.objects (omega (arith, e, f, more)) in (Object found.0, found.1)

-- ---- slots that are no longer counted
-- the slots of a list name none of the objects
none_named : (slots : List Slot) (x : Key) (from : State) → AreSlotsAt x from slots → (items : List Holder) → list_any (are_named_by slots) items ≡ false → NamesNone from items x
none_named slots x from there [] none = tt
none_named slots x from there (it ∷ items) none = at (are_named_by slots it) refl (none_named slots x from there items)
  where
    at : (b : Bool) → are_named_by slots it ≡ b → (list_any (are_named_by slots) items ≡ false → NamesNone from items x) → NamesNone from (it ∷ items) x
    at true e rest = absurd (clash (list_any (are_named_by slots) (it ∷ items)) (ap (λ b. b || list_any (are_named_by slots) items) e) none)
    at false e rest = (
      there it.object ∙ grind (arith, nat_tests, e),
      rest (sym (ap (λ b. b || list_any (are_named_by slots) items) e) ∙ none),
    )

-- where no slot at a key names one of the objects, or they are no longer counted, nothing changes
nothing_more : (x : Key) (from : State) (h : Holders) → IsSettled from h x → IsOneCounted x from h h
nothing_more x from h so = record {
  counted = λ t c u within. record { left = c.left; all = λ y there. at c y (within y there); recent = c.recent };
  no_more = λ y c. inl c;
  objects = refl;
  items = refl;
}
  where
    at : {t : Key → Bool} → IsCountedIn t from h → (y : Key) → (t y ≡ true) ⊎ (y ≡ x) → IsSettled from h y
    at c y (inl there) = c.all y there
    at c y (inr is) = subst (IsSettled from h) (sym is) so

-- at the key no slot names one of the objects
pub none_counted : (x : Key) (slots : List Slot) (h : Holders) → list_any (are_named_by slots) h.items.items ≡ false → (from : State) → AreSlotsAt x from slots → IsOneCounted x from h h
none_counted x slots h none from there = nothing_more x from h (inr (none_named slots x from there h.items.items none))

-- the slots at the key aren't counted any more
pub counted_before : (x : Key) (h : Holders) → Contains h.counted.items x → (from : State) → IsOneCounted x from h h
counted_before x h c from = nothing_more x from h (inl c)

-- at a key that has no slot nothing is counted
pub no_slots : (x : Key) (h : Holders) (from : State) → ((o : ℕ) → weight_of_key (names_alike (Strong o)) from x ≡ 0) → IsOneCounted x from h h
no_slots x h from none = nothing_more x from h (inr (all_none h.items.items))
  where
    all_none : (items : List Holder) → NamesNone from items x
    all_none [] = tt
    all_none (it ∷ items) = (none it.object, all_none items)

-- the objects stay
same_objects : (slots : List Slot) (items : List Holder) → objects_of (map (less_by slots) items) ≡ objects_of items
same_objects slots [] = refl
same_objects slots (it ∷ items) = ap (λ os. it.object ∷ os) (same_objects slots items)

-- a list of one key has no other
alone : (k y : Key) → Contains (k ∷ []) y → y ≡ k
alone k y c = at c.0 c.1 c.2
  where
    at : (i : ℕ) → i < 1 → get_or (k ∷ []) i y ≡ y → y ≡ k
    at zero within is = sym is
    at (suc i) within is = absurd (omega (arith, within))

-- what is in a list with one more is in the list, or is that
of_two : (keys : List Key) (x y : Key) → Contains (keys ++ x ∷ []) y → Contains keys y ⊎ (y ≡ x)
of_two [] x y c = inr (alone x y c)
of_two (k ∷ keys) x y c = at (of_two keys x y) c.0 c.1 c.2
  where
    later : Contains keys y ⊎ (y ≡ x) → Contains (k ∷ keys) y ⊎ (y ≡ x)
    later (inl c) = inl (Contains-append_right (k ∷ []) keys y c)
    later (inr is) = inr is

    at : (Contains (keys ++ x ∷ []) y → Contains keys y ⊎ (y ≡ x)) → (i : ℕ) → i < length (k ∷ (keys ++ x ∷ [])) → get_or (k ∷ (keys ++ x ∷ [])) i y ≡ y → Contains (k ∷ keys) y ⊎ (y ≡ x)
    at rest zero within is = inl (subst (λ (z : Key). Contains (k ∷ keys) z) is (contains_first k keys))
    at rest (suc i) within is = later (rest (i, omega (arith, within), is))

-- the slots at one key more
pub one_counted : (x : Key) (slots : List Slot) (old new : Holders) → (Contains old.counted.items x → ⊥) → new.objects ≡ old.objects → new.items.items ≡ map (less_by slots) old.items.items
    → new.counted.items ≡ old.counted.items ++ x ∷ [] → new.recent ≡ old.recent → (from : State) → AreSlotsAt x from slots → IsOneCounted x from old new
one_counted x slots old new none same less more kept from there = record {
  counted = λ t c u within. record {
    left = subst (λ (its : List Holder). AllByRecursion (IsLeft from new.counted.items) its) (sym less)
        (subst (λ (keys : List Key). AllByRecursion (IsLeft from keys) (map (less_by slots) old.items.items)) (sym more)
        (all_mapped (IsLeft from old.counted.items) (IsLeft from (old.counted.items ++ x ∷ [])) (less_by slots) left old.items.items c.left));
    all = λ y there_too. at c y (within y there_too);
    recent = λ q here. before (Handle q) (c.recent q (sym (ap (λ ps. is_recent ps q) kept) ∙ here));
  };
  no_more = λ y there_too. of_two old.counted.items x y (subst (λ (keys : List Key). Contains keys y) more there_too);
  objects = same;
  items = ap objects_of less ∙ same_objects slots old.items.items;
}
  where
    left : (it : Holder) → IsLeft from old.counted.items it → IsLeft from (old.counted.items ++ x ∷ []) (less_by slots it)
    left it few =
        let w = names_alike (Strong it.object) in
        let last : standing_weight w (without_keys (old.counted.items ++ x ∷ []) from) ≡ standing_weight w (without_keys old.counted.items (without_key x from)) = ap (standing_weight w) (last_first old.counted.items x from) in
        omega (arith, few, last, taken_too w old.counted.items x from none, there it.object)

    same_none : (y : Key) → NamesNone from old.items.items y → NamesNone from new.items.items y
    same_none y all = subst (λ (its : List Holder). NamesNone from its y) (sym less)
        (all_mapped (λ it. weight_of_key (names_alike (Strong it.object)) from y ≡ 0) (λ it. weight_of_key (names_alike (Strong it.object)) from y ≡ 0) (less_by slots) (λ it e. e) old.items.items all)

    before : (y : Key) → IsSettled from old y → IsSettled from new y
    before y (inl c) = inl (subst (λ (keys : List Key). Contains keys y) (sym more) (Contains-append_left old.counted.items (x ∷ []) y c))
    before y (inr all) = inr (same_none y all)

    at : {t : Key → Bool} → IsCountedIn t from old → (y : Key) → (t y ≡ true) ⊎ (y ≡ x) → IsSettled from new y
    at c y (inl here) = before y (c.all y here)
    at c y (inr is) = inl (subst (λ (keys : List Key). Contains keys y) (sym more) (subst (λ (z : Key). Contains (old.counted.items ++ x ∷ []) z) (sym is) (Contains-push old.counted.items x)))

-- whether a key is the handle
abbrev is_the_handle : ℕ → Key → Bool
is_the_handle q (Handle g) = g == q
is_the_handle q (Cell c) = false
is_the_handle q (Object o) = false
is_the_handle q (Scope t) = false

the_handle : (q : ℕ) (y : Key) → is_the_handle q y ≡ true → y ≡ Handle q
the_handle q (Handle g) e = ap (λ n. Handle n) (same_number g q e)
the_handle q (Cell c) e = absurd cc
the_handle q (Object o) e = absurd cc
the_handle q (Scope t) e = absurd cc

-- a handle is met that isn't counted any more
pub met_now : (q : ℕ) (from : State) (old mid new : Holders) → IsOneCounted (Handle q) from old mid → new.objects ≡ mid.objects → new.items.items ≡ mid.items.items → new.counted.items ≡ mid.counted.items
    → ((g : ℕ) → is_recent new.recent g ≡ true → (is_recent mid.recent g ≡ true) ⊎ (g ≡ q)) → IsOneCounted (Handle q) from old new
met_now q from old mid new it objects items counted only = record {
  counted = λ t c u within.
      let there : IsCountedIn u from mid = it.counted t c u within in
      let here : IsCountedIn (is_the_handle q) from mid = it.counted t c (is_the_handle q) (λ y e. inr (the_handle q y e)) in
      record {
        left = subst (λ (keys : List Key). AllByRecursion (IsLeft from keys) new.items.items) (sym counted) (subst (λ (its : List Holder). AllByRecursion (IsLeft from mid.counted.items) its) (sym items) there.left);
        all = λ y e. later y (there.all y e);
        recent = λ g e. later (Handle g) (met there here g (only g e));
      };
  no_more = λ y c. it.no_more y (subst (λ (keys : List Key). Contains keys y) counted c);
  objects = objects ∙ it.objects;
  items = ap objects_of items ∙ it.items;
}
  where
    later : (y : Key) → IsSettled from mid y → IsSettled from new y
    later y (inl c) = inl (subst (λ (keys : List Key). Contains keys y) (sym counted) c)
    later y (inr none) = inr (subst (λ (its : List Holder). NamesNone from its y) (sym items) none)

    met : {u : Key → Bool} → IsCountedIn u from mid → IsCountedIn (is_the_handle q) from mid → (g : ℕ) → (is_recent mid.recent g ≡ true) ⊎ (g ≡ q) → IsSettled from mid (Handle g)
    met there here g (inl e) = there.recent g e
    met there here g (inr is) = subst (λ n. IsSettled from mid (Handle n)) (sym is) (here.all (Handle q) (itself q))

-- a slot alone
same_here : (w : Slot → ℕ) (s : Slot) → w s ≡ slots_weight w (s ∷ [])
same_here w s = omega arith

-- where slots stand
pub slot_of_handle : (h : ℕ) (from : State) (s : Slot) → get from.handles h ≡ Some (holding.Slot s) → AreSlotsAt (Handle h) from (s ∷ [])
slot_of_handle h from s held o = ap (λ f. option_map_or (holding_weight (names_alike (Strong o))) f 0) held ∙ same_here (names_alike (Strong o)) s

pub bare_of_handle : (h : ℕ) (from : State) (fields : List Slot) → get from.handles h ≡ Some (holding.Bare fields) → AreSlotsAt (Handle h) from fields
bare_of_handle h from fields held o = ap (λ f. option_map_or (holding_weight (names_alike (Strong o))) f 0) held

pub slot_of_cell : (c : ℕ) (from : State) (s : Slot) → get from.cells c ≡ Some s → AreSlotsAt (Cell c) from (s ∷ [])
slot_of_cell c from s there o = ap (λ r. option_map_or (names_alike (Strong o)) r 0) there ∙ same_here (names_alike (Strong o)) s

pub slots_of_object : (p : ℕ) (from : State) (fields : List Slot) → get from.objects p ≡ Some (Alive fields) → AreSlotsAt (Object p) from fields
slots_of_object p from fields there o = ap (λ e. option_map_or (entry_weight (names_alike (Strong o))) e 0) there

-- where none stand
pub no_handle : (h : ℕ) (from : State) (holders : Holders) → get from.handles h ≡ None → IsOneCounted (Handle h) from holders holders
no_handle h from holders none = no_slots (Handle h) holders from (λ o. ap (λ f. option_map_or (holding_weight (names_alike (Strong o))) f 0) none)

pub no_cell : (c : ℕ) (from : State) (holders : Holders) → get from.cells c ≡ None → IsOneCounted (Cell c) from holders holders
no_cell c from holders none = no_slots (Cell c) holders from (λ o. ap (λ r. option_map_or (names_alike (Strong o)) r 0) none)

pub no_object : (p : ℕ) (from : State) (holders : Holders) → get from.objects p ≡ None → IsOneCounted (Object p) from holders holders
no_object p from holders none = no_slots (Object p) holders from (λ o. ap (λ e. option_map_or (entry_weight (names_alike (Strong o))) e 0) none)

pub husk_object : (p : ℕ) (from : State) (holders : Holders) → get from.objects p ≡ Some Husk → IsOneCounted (Object p) from holders holders
husk_object p from holders husk = no_slots (Object p) holders from (λ o. ap (λ e. option_map_or (entry_weight (names_alike (Strong o))) e 0) husk)

pub scope_key : (t : ℕ) (from : State) (holders : Holders) → IsOneCounted (Scope t) from holders holders
scope_key t from holders = no_slots (Scope t) holders from (λ o. refl)

-- what follows after a success
pub on_ok : {A E P Q : Type 0} (r : Result A E) → (P → Q) → OnOk r P → OnOk r Q
on_ok (Ok v) step p = step p
on_ok (Err e) step p = tt

-- a list that has kept its length is all that is written back
pub written_back : {X : Type 0} (n : ℕ) (xs rest : List X) → n ≡ length xs → take n (xs ++ drop (length xs) rest) ≡ xs
written_back n xs rest long = ap (λ i. take i (xs ++ drop (length xs) rest)) long ∙ take-append-le (length xs) xs (drop (length xs) rest) (omega arith) ∙ take_all (length xs) xs (omega arith)

-- ---- counting
-- one slot more
weight_push : (w : Slot → ℕ) (slots : List Slot) (s : Slot) → slots_weight w (slots ++ s ∷ []) ≡ slots_weight w slots + w s
weight_push w [] s = omega arith
weight_push w (t ∷ slots) s = omega (arith, weight_push w slots s)

-- the next one of a list
pub weight_next : (w : Slot → ℕ) (slots : List Slot) (i : ℕ) (d : Slot) → i < length slots → slots_weight w (take (i + 1) slots) ≡ slots_weight w (take i slots) + w (get_or slots i d)
weight_next w slots i d within = ap (slots_weight w) (take_more slots i d within) ∙ weight_push w (take i slots) (get_or slots i d)

-- the first slots name an object no more often than they are
pub weight_bound : (o : ℕ) (slots : List Slot) (i : ℕ) → slots_weight (names_alike (Strong o)) (take i slots) ≤ i
weight_bound o slots zero = omega arith
weight_bound o [] (suc i) = omega arith
weight_bound o (t ∷ slots) (suc i) = omega (arith, names_alike-le (Strong o) t, weight_bound o slots i)

-- the step of a loop that changes one item after another
pub mapped_next : {X : Type 0} (f : X → X) (old now : List X) (i : ℕ) (d : X) → i < length old → now ≡ map f (take i old) ++ drop i old → slice_set now i (f (get_or now i d)) ≡ map f (take (i + 1) old) ++ drop (i + 1) old
mapped_next {X} f old now i d within is =
    let next : suc i ≡ i + 1 = omega arith in
    ap (λ (xs : List X). slice_set xs i (f (get_or xs i d))) is ∙ at old i within ∙ ap (λ n. map f (take n old) ++ drop n old) next
  where
    at : (xs : List X) (i : ℕ) → i < length xs → slice_set (map f (take i xs) ++ drop i xs) i (f (get_or (map f (take i xs) ++ drop i xs) i d)) ≡ map f (take (suc i) xs) ++ drop (suc i) xs
    at [] i within = absurd (omega (arith, within))
    at (x ∷ xs) zero within = refl
    at (x ∷ xs) (suc i) within = ap (λ (ys : List X). f x ∷ ys) (at xs i (omega (arith, within)))

-- ---- keys one after another
-- what stands at these keys is no longer counted
pub record AreCounted (keys : List Key) (from : State) (old new : Holders) : Type 0 where
  pub counted : (t : Key → Bool) → IsCountedIn t from old → IsCountedIn (λ x. t x || is_among (set_of keys) x) from new
  pub no_more : IsNoMoreCounted (set_of keys) old new
  pub objects : new.objects ≡ old.objects
  pub items : objects_of new.items.items ≡ objects_of old.items.items

-- one of two is so, if either is
either_of : (a b : Bool) → (a || b) ≡ true → (a ≡ true) ⊎ (b ≡ true)
either_of true b e = inl refl
either_of false b e = inr e

-- no key is among none
no_key : (x : Key) → is_among (set_of []) x ≡ false
no_key (Handle q) = refl
no_key (Cell q) = refl
no_key (Object q) = refl
no_key (Scope q) = refl

-- before the first key
pub counted_none : (from : State) (h : Holders) → AreCounted [] from h h
counted_none from h = record {
  counted = λ t c. record { left = c.left; all = λ x here. at c x (either_of (t x) (is_among (set_of []) x) here); recent = c.recent };
  no_more = λ x c. inl c;
  objects = refl;
  items = refl;
}
  where
    at : {t : Key → Bool} → IsCountedIn t from h → (x : Key) → (t x ≡ true) ⊎ (is_among (set_of []) x ≡ true) → IsSettled from h x
    at c x (inl here) = c.all x here
    at c x (inr here) = absurd (clash (is_among (set_of []) x) here (no_key x))

-- one key more
pub counted_next : (keys : List Key) (k : Key) (from : State) (old now new : Holders) → AreCounted keys from old now → IsOneCounted k from now new → AreCounted (keys ++ k ∷ []) from old new
counted_next keys k from old now new before it = record {
  counted = λ t c. it.counted (λ x. t x || is_among (set_of keys) x) (before.counted t c) (λ x. t x || is_among (set_of (keys ++ k ∷ [])) x) (λ y here. at t y (either_of (t y) (is_among (set_of (keys ++ k ∷ [])) y) here));
  no_more = λ y there. both y (it.no_more y there);
  objects = it.objects ∙ before.objects;
  items = it.items ∙ before.items;
}
  where
    among : (y : Key) → (is_among (set_of keys) y ≡ true) ⊎ (is_among (set_of (k ∷ [])) y ≡ true) → is_among (set_of (keys ++ k ∷ [])) y ≡ true
    among y (inl here) = among_append keys (k ∷ []) y ∙ or_left (is_among (set_of keys) y) (is_among (set_of (k ∷ [])) y) here
    among y (inr here) = among_append keys (k ∷ []) y ∙ or_right (is_among (set_of keys) y) (is_among (set_of (k ∷ [])) y) here

    earlier : (y : Key) → Contains old.counted.items y ⊎ (is_among (set_of keys) y ≡ true) → Contains old.counted.items y ⊎ (is_among (set_of (keys ++ k ∷ [])) y ≡ true)
    earlier y (inl c) = inl c
    earlier y (inr here) = inr (among y (inl here))

    both : (y : Key) → Contains now.counted.items y ⊎ (y ≡ k) → Contains old.counted.items y ⊎ (is_among (set_of (keys ++ k ∷ [])) y ≡ true)
    both y (inl c) = earlier y (before.no_more y c)
    both y (inr is) = inr (among y (inr (ap (is_among (set_of (k ∷ []))) is ∙ (Has-set_of (k ∷ [])).all.0)))

    later : (t : Key → Bool) (y : Key) → (is_among (set_of keys) y ≡ true) ⊎ (is_among (set_of (k ∷ [])) y ≡ true) → ((t y || is_among (set_of keys) y) ≡ true) ⊎ (y ≡ k)
    later t y (inl here) = inl (or_right (t y) (is_among (set_of keys) y) here)
    later t y (inr here) = inr (alone k y ((Has-set_of (k ∷ [])).only y here))

    at : (t : Key → Bool) (y : Key) → (t y ≡ true) ⊎ (is_among (set_of (keys ++ k ∷ [])) y ≡ true) → ((t y || is_among (set_of keys) y) ≡ true) ⊎ (y ≡ k)
    at t y (inl here) = inl (or_left (t y) (is_among (set_of keys) y) here)
    at t y (inr here) = later t y (either_of (is_among (set_of keys) y) (is_among (set_of (k ∷ [])) y) (sym (among_append keys (k ∷ []) y) ∙ here))

-- ---- the objects that have fewer holders
-- the objects of these shifts that have fewer holders, each with all of them
pub record AreFirstHolders (from : State) (shifts : List Shift) (os : List ℕ) (items : List Holder) : Type 0 where
  pub others : AllByRecursion (λ s. has s.object os ≡ false → s.old_strong ≤ s.new_strong) shifts
  pub objects : os ≡ objects_of items
  pub left : AllByRecursion (IsLeft from []) items
  pub inside : (o : ℕ) → has o os ≡ true → has_fewer shifts o ≡ true

-- an object that is named less often has a shift
pub fewer_alike : (shifts : List Shift) (o : ℕ) → has_fewer shifts o ≡ true → is_alike shifts o ≡ true
fewer_alike [] o here = absurd cc
fewer_alike (s ∷ shifts) o here = at (s.object == o) (nat_lt s.new_strong s.old_strong) here (fewer_alike shifts o)
  where
    at : (b c : Bool) → ((b && c) || has_fewer shifts o) ≡ true → (has_fewer shifts o ≡ true → is_alike shifts o ≡ true) → (b || is_alike shifts o) ≡ true
    at true c here rest = refl
    at false c here rest = rest here

-- before the first shift
pub first_none : (from : State) → AreFirstHolders from [] [] []
first_none from = record { others = tt; objects = refl; left = tt; inside = λ o here. absurd cc }

-- one that has no fewer
pub first_skipped : (from : State) (shifts : List Shift) (os : List ℕ) (items : List Holder) (s : Shift) → s.old_strong ≤ s.new_strong → AreFirstHolders from shifts os items → AreFirstHolders from (shifts ++ s ∷ []) os items
first_skipped from shifts os items s more first = record {
  others = all_push (λ s. has s.object os ≡ false → s.old_strong ≤ s.new_strong) shifts s first.others (λ out. more);
  objects = first.objects;
  left = first.left;
  inside = λ o here. any_front (λ r. (r.object == o) && nat_lt r.new_strong r.old_strong) shifts (s ∷ []) (first.inside o here);
}

-- one that has fewer
pub first_added : (from : State) (shifts : List Shift) (os : List ℕ) (items : List Holder) (s : Shift) (it : Holder) → s.new_strong < s.old_strong → it.object ≡ s.object → it.left ≡ strong from [] s.object → AreFirstHolders from shifts os items
    → AreFirstHolders from (shifts ++ s ∷ []) (os ++ s.object ∷ []) (items ++ it ∷ [])
first_added from shifts os items s it fewer named all first = record {
  others = all_push (λ r. has r.object (os ++ s.object ∷ []) ≡ false → r.old_strong ≤ r.new_strong) shifts s
      (all_so (λ r. has r.object os ≡ false → r.old_strong ≤ r.new_strong) (λ r. has r.object (os ++ s.object ∷ []) ≡ false → r.old_strong ≤ r.new_strong) (λ r so out. so (left_false (has r.object os) (has r.object (s.object ∷ [])) (sym (has-append r.object os (s.object ∷ [])) ∙ out))) shifts first.others)
      (λ out. absurd (clash (has s.object (os ++ s.object ∷ [])) (has-append s.object os (s.object ∷ []) ∙ or_right (has s.object os) (has s.object (s.object ∷ [])) (has_first s.object [])) out));
  objects = ap (λ ns. ns ++ s.object ∷ []) first.objects ∙ ap (λ n. objects_of items ++ n ∷ []) (sym named) ∙ sym (map-append (λ i. i.object) items (it ∷ []));
  left = all_push (IsLeft from []) items it first.left (subst (λ n. it.left ≡ strong from [] n) (sym named) all);
  inside = λ o here. joined o (either_of (has o os) (has o (s.object ∷ [])) (sym (has-append o os (s.object ∷ [])) ∙ here));
}
  where
    last : (o : ℕ) (b : Bool) → (s.object == o) ≡ b → (b || false) ≡ true → has_fewer (s ∷ []) o ≡ true
    last o true e here = let less : nat_lt s.new_strong s.old_strong ≡ true = grind (arith, nat_tests, fewer) in ap (λ b. (b && nat_lt s.new_strong s.old_strong) || false) e ∙ ap (λ b. b || false) less
    last o false e here = absurd cc

    joined : (o : ℕ) → (has o os ≡ true) ⊎ (has o (s.object ∷ []) ≡ true) → has_fewer (shifts ++ s ∷ []) o ≡ true
    joined o (inl here) = any_front (λ r. (r.object == o) && nat_lt r.new_strong r.old_strong) shifts (s ∷ []) (first.inside o here)
    joined o (inr here) = any_behind (λ r. (r.object == o) && nat_lt r.new_strong r.old_strong) shifts (s ∷ []) (last o (s.object == o) refl here)

-- at first all slots are counted
pub none_off : (from : State) (shifts : List Shift) (os : List ℕ) (h : Holders) → AreFirstHolders from shifts os h.items.items → h.counted.items ≡ [] → ((q : ℕ) → is_recent h.recent q ≡ false) → IsCountedIn (λ x. false) from h
none_off from shifts os h first none met = record {
  left = subst (λ (keys : List Key). AllByRecursion (IsLeft from keys) h.items.items) (sym none) first.left;
  all = λ x here. absurd cc;
  recent = λ q here. absurd (clash (is_recent h.recent q) here (met q));
}

-- they are all that have fewer
pub of_lessened : (from : State) (shifts : List Shift) (os : List ℕ) (h : Holders) → AreFirstHolders from shifts os h.items.items → ((o : ℕ) → has o h.objects.objects ≡ has o os) → AreOfLessened shifts h
of_lessened from shifts os h first same = record {
  others = all_so (λ s. has s.object os ≡ false → s.old_strong ≤ s.new_strong) (λ s. has s.object h.objects.objects ≡ false → s.old_strong ≤ s.new_strong) (λ s so out. so (sym (same s.object) ∙ out)) shifts first.others;
  items = λ o. same o ∙ ap (has o) first.objects;
  inside = λ o here. first.inside o (sym (same o) ∙ here);
}

-- ---- holders that nothing has set
-- a key that isn't taken out weighs what it did
unkept : (w : Slot → ℕ) (keys : List Key) (x : Key) (m : State) → (Contains keys x → ⊥) → weight_of_key w (without_keys keys m) x ≡ weight_of_key w m x
unkept w [] x m none = refl
unkept w (k ∷ keys) x m none =
    kept w k x (without_keys keys m) (λ is. none (subst (λ (y : Key). Contains (k ∷ keys) y) is (contains_first k keys)))
    ∙ unkept w keys x m (λ c. none (Contains-append_right (k ∷ []) keys x c))

-- an object that is named at a key that is still counted has a slot left
left_there : (from : State) (counted : List Key) (o : ℕ) (x : Key) → (Contains counted x → ⊥) → 0 < weight_of_key (names_alike (Strong o)) from x → 0 < strong (without_keys counted from) [] o
left_there from counted o x none more =
    let w = names_alike (Strong o) in
    omega (arith, more, unkept w counted x from none, taken w x (without_keys counted from))

-- so it is of all objects that are named beside the keys of operations
pub left_beside : (sets : KeySet) (from : State) (old new : Holders) (t : Key → Bool) → IsCountedIn t from new → IsNoMoreCounted sets old new → objects_of new.items.items ≡ objects_of old.items.items
    → AllByRecursion (IsNamedBeside from old.counted.items sets) (objects_of old.items.items) → AreAllLeft new
left_beside sets from old new t counted no_more same named = go new.items.items counted.left (subst (AllByRecursion (IsNamedBeside from old.counted.items sets)) (sym same) named)
  where
    nowhere : (o : ℕ) (n : IsNamedBeside from old.counted.items sets o) → Contains old.counted.items n.place ⊎ (is_among sets n.place ≡ true) → ⊥
    nowhere o n (inl c) = n.uncounted c
    nowhere o n (inr here) = clash (is_among sets n.place) here n.beside

    one : (it : Holder) → IsLeft from new.counted.items it → IsNamedBeside from old.counted.items sets it.object → 0 < it.left
    one it left n = omega (arith, left, left_there from new.counted.items it.object n.place (λ c. nowhere it.object n (no_more n.place c)) n.holds)

    go : (items : List Holder) → AllByRecursion (IsLeft from new.counted.items) items → AllByRecursion (IsNamedBeside from old.counted.items sets) (objects_of items) → AllByRecursion (λ it. 0 < it.left) items
    go [] left named = tt
    go (it ∷ items) left named = (one it left.0 named.0, go items left.1 named.1)

-- an object of which a slot is left is named where keys are still counted
named_still : (from : State) (counted : List Key) (o : ℕ) (items : List Holder) → AllByRecursion (IsLeft from counted) items → AllByRecursion (λ it. 0 < it.left) items → has o (objects_of items) ≡ true → 0 < strong (without_keys counted from) [] o
named_still from counted o [] few more here = absurd cc
named_still from counted o (it ∷ items) few more here = at (it.object == o) refl (named_still from counted o items few.1 more.1)
  where
    at : (b : Bool) → (it.object == o) ≡ b → (has o (objects_of items) ≡ true → 0 < strong (without_keys counted from) [] o) → 0 < strong (without_keys counted from) [] o
    at true e rest =
        let first : 0 < strong (without_keys counted from) [] it.object = omega (arith, few.0, more.0) in
        subst (λ n. 0 < strong (without_keys counted from) [] n) (same_number it.object o e) first
    at false e rest = rest (sym (ap (λ b. b || has o (objects_of items)) e) ∙ here)

-- one of the objects isn't named where none is
unnamed : (from : State) (x : Key) (o : ℕ) (items : List Holder) → NamesNone from items x → has o (objects_of items) ≡ true → weight_of_key (names_alike (Strong o)) from x ≡ 0
unnamed from x o [] none here = absurd cc
unnamed from x o (it ∷ items) none here = at (it.object == o) refl (unnamed from x o items none.1)
  where
    at : (b : Bool) → (it.object == o) ≡ b → (has o (objects_of items) ≡ true → weight_of_key (names_alike (Strong o)) from x ≡ 0) → weight_of_key (names_alike (Strong o)) from x ≡ 0
    at true e rest = subst (λ n. weight_of_key (names_alike (Strong n)) from x ≡ 0) (same_number it.object o e) none.0
    at false e rest = rest (sym (ap (λ b. b || has o (objects_of items)) e) ∙ here)

-- an object of which a slot is left is held outside of the keys whose slots are no longer counted
pub held_outside : (t : Key → Bool) (from : State) (h : Holders) (o : ℕ) → IsCountedIn t from h → AreAllLeft h → has o (objects_of h.items.items) ≡ true → IsHeldOutside t from o
held_outside t from h o counted left here =
    let w = names_alike (Strong o) in
    let found : (x : Key) × (0 < weight_of_key w (without_keys h.counted.items from) x) = some_key w (without_keys h.counted.items from) (omega (arith, named_still from h.counted.items o h.items.items counted.left left here)) in
    let apart : (Contains h.counted.items found.0 → ⊥) × (weight_of_key w (without_keys h.counted.items from) found.0 ≡ weight_of_key w from found.0) = stays w h.counted.items found.0 from found.1 in
    let more : 0 < weight_of_key w from found.0 = omega (arith, found.1, apart.1) in
    record {
      place = found.0;
      outside = at found.0 apart.0 more (t found.0) refl;
      holds = more;
    }
  where
    nowhere : (x : Key) → (Contains h.counted.items x → ⊥) → 0 < weight_of_key (names_alike (Strong o)) from x → IsSettled from h x → ⊥
    nowhere x none more (inl c) = none c
    nowhere x none more (inr all) = absurd (omega (arith, more, unnamed from x o h.items.items all here))

    at : (x : Key) → (Contains h.counted.items x → ⊥) → 0 < weight_of_key (names_alike (Strong o)) from x → (b : Bool) → t x ≡ b → b ≡ false
    at x none more true e = absurd (nowhere x none more (counted.all x e))
    at x none more false e = refl
