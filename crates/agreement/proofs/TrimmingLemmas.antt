-- What is the same on both sides is left out, one number after another; and what is left makes the same patch.
use Rattle.std.proofs.Common.{◌≡◌, ℕ, ◌+◌, ◌<◌, List, [], length, drop, get_or, refl, ap, ◌∙◌, sym, subst, arith, Bool, true, false}
use Rattle.std.specs.Prelude.{Result, Ok, Err, OnOk, OnErr, Option, Some, None, ◌==◌, ◌&&◌, ◌||◌, not, if◌then◌else◌, is_some, IsTrue, ◌↔◌}
use Rattle.std.proofs.lemmas.Bool.Decides.{nat_tests}
use Rattle.std.proofs.lemmas.List.{drop_more}
use Rattle.std.specs.Ordering.{nat_cmp}
use Rattle.std.specs.Cmp.{nat_cmp_total}
use Rattle.std.specs.FinMap.{FinMap, get, empty, remove, keys, len, len-empty, empty_of_len, get-empty, same_map, nat_cmp-IsAntisymmetric, contains_key-keys}
use Rattle.ownership_model.specs.declared.remaining.Remaining.{Remaining}
use Rattle.ownership_model.specs.State.{State}
use Rattle.ownership_model.specs.Bounds.{ObjectFits}
use Rattle.ownership_model.specs.Reach.{has}
use Rattle.ownership_model.specs.Patch.{Remains, patched, entry_of, or_else, AreLess, AreThere}
use Rattle.ownership_model.proofs.LawsHold.{patches}
use Rattle.ownership_model.proofs.Counting.{same_number, get_removed}
use Rattle.ownership_model.proofs.Searching.{has_as_any}
use Rattle.object_heap.specs.Exchange.{AreWithinLimits}
use Rattle.agreement.specs.Trimmed.{IsSameAt, AreTheSame, nothing, without_number, is_left_out, IsTrimmed}

-- what is left out of x in z, where these numbers are still to be looked at
pub record IsTrimming (x z : Remains) (todo : List ℕ) : Type 0 where
  pub less : AreLess (is_left_out x z) x z
  pub rest : (q : ℕ) → IsSameAt x q → is_some (get z.removed q) ≡ true → has q todo ≡ true

none_out : (r a : Option Remaining) → a ≡ (if is_some r && not (is_some r) then None else a)
none_out None a = refl
none_out (Some r) a = refl

never_out : {P : Type 0} (r : Option Remaining) → (is_some r && not (is_some r)) ≡ true → P
never_out None h = absurd cc
never_out (Some r) h = absurd cc

all_to_come : (x : Remains) → IsTrimming x x (keys x.removed)
all_to_come x = record {
  less = record {
    removed = λ q. none_out (get x.removed q) (get x.removed q);
    added = λ q. none_out (get x.removed q) (get x.added q);
    same = λ q h. never_out (get x.removed q) h;
  };
  rest = λ q same there. sym (contains_key-keys x.removed q ∙ has_as_any q (keys x.removed)) ∙ there;
}

-- at first nothing is left out
pub trimming_starts : (x z : Remains) (todo : List ℕ) → z ≡ x → todo ≡ keys x.removed → IsTrimming x z todo
trimming_starts x z todo is listed = subst (λ (w : Remains). IsTrimming x w todo) (sym is) (subst (λ (qs : List ℕ). IsTrimming x x qs) (sym listed) (all_to_come x))

none_there : (r : Option Remaining) → (is_some r ≡ true → false ≡ true) → r ≡ None
none_there None h = refl
none_there (Some r) h = absurd (let f : false ≡ true = h refl in cc)

-- at the end all that is the same is
pub trimming_ends : (x z : Remains) → IsTrimming x z [] → IsTrimmed x z
trimming_ends x z t = record { less = t.less; all = λ q same. none_there (get z.removed q) (t.rest q same) }

-- a number at which both sides differ stays
later_on : (b h : Bool) → (b ≡ true → false ≡ true) → (b || h) ≡ true → h ≡ true
later_on true h n t = absurd (let f : false ≡ true = n refl in cc)
later_on false h n t = t

next_has : (xs : List ℕ) (i d q : ℕ) → i < length xs → has q (drop i xs) ≡ ((get_or xs i d == q) || has q (drop (i + 1) xs))
next_has xs i d q within = ap (has q) (drop_more xs i d within)

module _ (x z : Remains) (xs : List ℕ) (i d : ℕ) (within : i < length xs) (t : IsTrimming x z (drop i xs)) where
  pub trimming_skips : (IsSameAt x (get_or xs i d) → false ≡ true) → IsTrimming x z (drop (i + 1) xs)
  trimming_skips differs = record {
    less = t.less;
    rest = λ q same there. later_on (get_or xs i d == q) (has q (drop (i + 1) xs))
        (λ e. differs (subst (λ p. IsSameAt x p) (sym (same_number (get_or xs i d) q e)) same))
        (sym (next_has xs i d q within) ∙ t.rest q same there);
  }

out_removed : (b : Bool) (xr zr : Option Remaining) → zr ≡ (if is_some xr && not (is_some zr) then None else xr) → (if b then None else zr) ≡ (if is_some xr && not (is_some (if b then None else zr)) then None else xr)
out_removed true None zr is = refl
out_removed true (Some r) zr is = refl
out_removed false xr zr is = is

out_added : (b : Bool) (xr xa zr za : Option Remaining) → (b ≡ true → entry_of xa ≡ entry_of xr) → za ≡ (if is_some xr && not (is_some zr) then None else xa) → (if b then None else za) ≡ (if is_some xr && not (is_some (if b then None else zr)) then None else xa)
out_added true None None zr za same is = refl
out_added true None (Some a) zr za same is = absurd (let f : Some a.entry ≡ None = same refl in cc)
out_added true (Some r) xa zr za same is = refl
out_added false xr xa zr za same is = is

out_same : (b : Bool) (xr xa zr : Option Remaining) → (b ≡ true → entry_of xa ≡ entry_of xr) → ((is_some xr && not (is_some zr)) ≡ true → entry_of xa ≡ entry_of xr)
    → (is_some xr && not (is_some (if b then None else zr))) ≡ true → entry_of xa ≡ entry_of xr
out_same true xr xa zr same was h = same refl
out_same false xr xa zr same was h = was h

still_to_come : (b h : Bool) (zr : Option Remaining) → (is_some zr ≡ true → (b || h) ≡ true) → is_some (if b then None else zr) ≡ true → h ≡ true
still_to_come true h zr all there = absurd cc
still_to_come false h zr all there = all there

module _ (x z new : Remains) (xs : List ℕ) (i d : ℕ) (within : i < length xs) (same : IsSameAt x (get_or xs i d)) (is : new ≡ without_number z (get_or xs i d)) (t : IsTrimming x z (drop i xs)) where
  same_there : (q : ℕ) → (get_or xs i d == q) ≡ true → IsSameAt x q
  same_there q e = subst (λ p. IsSameAt x p) (same_number (get_or xs i d) q e) same

  removed_then : (q : ℕ) → get new.removed q ≡ (if get_or xs i d == q then None else get z.removed q)
  removed_then q = ap (λ (r : Remains). get r.removed q) is ∙ get_removed z.removed (get_or xs i d) q

  added_then : (q : ℕ) → get new.added q ≡ (if get_or xs i d == q then None else get z.added q)
  added_then q = ap (λ (r : Remains). get r.added q) is ∙ get_removed z.added (get_or xs i d) q

  -- a number at which both sides are the same is left out
  pub trimming_leaves_out : IsTrimming x new (drop (i + 1) xs)
  trimming_leaves_out = record {
    less = record {
      removed = λ q. removed_then q ∙ out_removed (get_or xs i d == q) (get x.removed q) (get z.removed q) (t.less.removed q)
          ∙ ap (λ r. if is_some (get x.removed q) && not (is_some r) then None else get x.removed q) (sym (removed_then q));
      added = λ q. added_then q ∙ out_added (get_or xs i d == q) (get x.removed q) (get x.added q) (get z.removed q) (get z.added q) (same_there q) (t.less.added q)
          ∙ ap (λ r. if is_some (get x.removed q) && not (is_some r) then None else get x.added q) (sym (removed_then q));
      same = λ q h. out_same (get_or xs i d == q) (get x.removed q) (get x.added q) (get z.removed q) (same_there q) (t.less.same q)
          (ap (λ r. is_some (get x.removed q) && not (is_some r)) (sym (removed_then q)) ∙ h);
    };
    rest = λ q alike there. still_to_come (get_or xs i d == q) (has q (drop (i + 1) xs)) (get z.removed q)
        (λ e. sym (next_has xs i d q within) ∙ t.rest q alike e)
        (ap is_some (sym (removed_then q)) ∙ there);
  }

-- where nothing is left, both sides were the same
all_out : (xr xa : Option Remaining) (b : Bool) → None ≡ (if b then None else xr) → None ≡ (if b then None else xa) → (b ≡ true → entry_of xa ≡ entry_of xr) → entry_of xa ≡ entry_of xr
all_out xr xa true r a same = same refl
all_out xr xa false r a same = ap entry_of (sym a) ∙ ap entry_of r

nothing_left : (m : FinMap nat_cmp Remaining) → m ≡ empty → (q : ℕ) → None ≡ get m q
nothing_left m none q = sym (ap (λ n. get n q) none ∙ get-empty nat_cmp q)

-- a map without entries is empty
pub nothing_by_len : (x : Remains) → len x.removed ≡ 0 → len x.added ≡ 0 → x ≡ nothing
nothing_by_len x removed added =
    let r : x.removed ≡ empty = empty_of_len x.removed removed in
    let a : x.added ≡ empty = empty_of_len x.added added in
    λ i. record { removed = r i; added = a i }

pub len_of_nothing : (x : Remains) → x ≡ nothing → (len x.removed ≡ 0) × (len x.added ≡ 0)
len_of_nothing x none = (ap (λ (r : Remains). len r.removed) none ∙ len-empty nat_cmp Remaining, ap (λ (r : Remains). len r.added) none ∙ len-empty nat_cmp Remaining)

is_zero : (n : ℕ) → (n == 0) ≡ true → n ≡ 0
is_zero n h = grind (arith, nat_tests, h)

zero_is : (n : ℕ) → n ≡ 0 → (n == 0) ≡ true
zero_is n h = grind (arith, nat_tests, h)

-- so it is told by the numbers of entries
pub told_by_both : (x told : Remains) (a b : ℕ) → x ≡ told → a ≡ len x.removed → b ≡ len x.added → a ≡ 0 → IsTrue (b == 0) ↔ (told ≡ nothing)
told_by_both x told a b is removed added none = (
  λ t. sym is ∙ nothing_by_len x (sym removed ∙ none) (sym added ∙ is_zero b t),
  λ n. zero_is b (added ∙ (len_of_nothing x (is ∙ n)).1),
)

pub told_by_one : (x told : Remains) (a : ℕ) → x ≡ told → a ≡ len x.removed → ¬ (a ≡ 0) → IsTrue (a == 0) ↔ (told ≡ nothing)
told_by_one x told a is removed some = (
  λ t. absurd (some (is_zero a t)),
  λ n. zero_is a (removed ∙ (len_of_nothing x (is ∙ n)).0),
)

pub same_of_nothing : (x z : Remains) → IsTrimmed x z → z ≡ nothing → AreTheSame x
same_of_nothing x z t none q =
    all_out (get x.removed q) (get x.added q) (is_left_out x z q)
    (nothing_left z.removed (ap (λ (r : Remains). r.removed) none) q ∙ t.less.removed q)
    (nothing_left z.added (ap (λ (r : Remains). r.added) none) q ∙ t.less.added q)
    (t.less.same q)

-- and the other way round
none_added : (xr xa : Option Remaining) → None ≡ (if is_some xr && true then None else xr) → entry_of xa ≡ entry_of xr → (if is_some xr && true then None else xa) ≡ None
none_added None None r same = refl
none_added None (Some a) r same = absurd (let f : Some a.entry ≡ None = same in cc)
none_added (Some r) xa is same = refl

is_empty : (m : FinMap nat_cmp Remaining) → ((q : ℕ) → get m q ≡ None) → m ≡ empty
is_empty m none = same_map nat_cmp_total nat_cmp-IsAntisymmetric m empty (λ q. none q ∙ sym (get-empty nat_cmp q))

pub nothing_of_same : (x z : Remains) → IsTrimmed x z → AreTheSame x → z ≡ nothing
nothing_of_same x z t same =
    let removed : z.removed ≡ empty = is_empty z.removed (λ q. t.all q (same q)) in
    let added : z.added ≡ empty = is_empty z.added (λ q.
    t.less.added q ∙ ap (λ r. if is_some (get x.removed q) && not (is_some r) then None else get x.added q) (t.all q (same q))
    ∙ none_added (get x.removed q) (get x.added q) (sym (t.all q (same q)) ∙ t.less.removed q ∙ ap (λ r. if is_some (get x.removed q) && not (is_some r) then None else get x.removed q) (t.all q (same q))) (same q)) in
    λ i. record { removed = removed i; added = added i }

-- a patch with what is left is the patch
pub patched_trimmed : (x z : Remains) (m : State) → IsTrimmed x z → AreThere m x → patched m z ≡ patched m x
patched_trimmed x z m t there = patches.less (is_left_out x z) m x z t.less there

-- so it is of the same state again
pub same_patch : (x z w : Remains) (m n : State) → IsTrimmed x z → w ≡ z → AreThere m x → n ≡ m → patched n w ≡ patched m x
same_patch x z w m n t is there same =
    let exchanged : patched n w ≡ patched m z = λ i. patched (same i) (is i) in
    exchanged ∙ patched_trimmed x z m t there

-- and with nothing it is the state again
patched_nothing : (m : State) → m ≡ patched m nothing
patched_nothing m = patches.only m m nothing refl refl refl (λ q. sym (
    ap (λ r. or_else (entry_of r) (if is_some (get nothing.removed q) then None else get m.objects q)) (get-empty nat_cmp q)
    ∙ ap (λ r. or_else (entry_of None) (if is_some r then None else get m.objects q)) (get-empty nat_cmp q)))

pub patch_is_idle : (x z : Remains) (m : State) → IsTrimmed x z → z ≡ nothing → AreThere m x → patched m x ≡ m
patch_is_idle x z m t none there = sym (patched_trimmed x z m t there) ∙ ap (patched m) none ∙ sym (patched_nothing m)

-- nothing keeps the limits
pub cut_fits : (b : Bool) (q : ℕ) (x : Option Remaining) → ObjectFits q (entry_of x) → ObjectFits q (entry_of (if b then None else x))
cut_fits true q x f = tt
cut_fits false q x f = f

-- what is left keeps the limits
removed_within : (xs : FinMap nat_cmp Remaining) (o : ℕ) → AreWithinLimits xs → AreWithinLimits (remove xs o)
removed_within xs o within q = subst (λ r. ObjectFits q (entry_of r)) (sym (get_removed xs o q)) (cut_fits (o == q) q (get xs q) (within q))

-- so it is where a call may have failed
pub left_within : {T E : Type 0} (r : Result T E) (old new : FinMap nat_cmp Remaining) (o : ℕ) → OnOk r (new ≡ remove old o) → OnErr r (new ≡ old) → AreWithinLimits old → AreWithinLimits new
left_within (Ok x) old new o ok err within = subst (λ xs. AreWithinLimits xs) (sym ok) (removed_within old o within)
left_within (Err e) old new o ok err within = subst (λ xs. AreWithinLimits xs) (sym err) within
