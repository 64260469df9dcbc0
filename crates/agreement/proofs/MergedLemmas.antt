-- Maps put together, one number after another: those of the second map that were looked at so far.
use Rattle.std.proofs.Common.{◌≡◌, ℕ, ◌+◌, ◌<◌, List, [], length, take, get_or, refl, ap, ◌∙◌, sym, subst, Bool, true, false}
use Rattle.std.specs.Prelude.{Option, Some, None, ◌==◌, ◌||◌, if◌then◌else◌, is_some}
use Rattle.std.specs.Ordering.{nat_cmp}
use Rattle.std.specs.FinMap.{FinMap, get, insert, remove, keys, contains_key-keys}
use Rattle.ownership_model.specs.declared.remaining.Remaining.{Remaining}
use Rattle.ownership_model.specs.Reach.{has}
use Rattle.ownership_model.specs.Patch.{or_else}
use Rattle.ownership_model.proofs.Counting.{same_number, get_inserted, get_removed}
use Rattle.ownership_model.proofs.Searching.{has_as_any}
use Rattle.agreement.proofs.GatheringLemmas.{has_next}

-- what the first map lacks is added
abbrev pub HasMissing : (first second : FinMap nat_cmp Remaining) → List ℕ → FinMap nat_cmp Remaining → Type 0
HasMissing first second done all = (q : ℕ) → get all q ≡ or_else (get first q) (if has q done then get second q else None)

-- what the second map has is left out
abbrev pub LeavesOut : FinMap nat_cmp Remaining → List ℕ → FinMap nat_cmp Remaining → Type 0
LeavesOut first done all = (q : ℕ) → get all q ≡ (if has q done then None else get first q)

-- what the second map has is put in its place
abbrev pub IsReplaced : (first second : FinMap nat_cmp Remaining) → List ℕ → FinMap nat_cmp Remaining → Type 0
IsReplaced first second done all = (q : ℕ) → get all q ≡ or_else (if has q done then get second q else None) (get first q)

or_none : (x : Option Remaining) → x ≡ or_else x None
or_none None = refl
or_none (Some r) = refl

-- at first there is the first map
pub missing_starts : (first second all : FinMap nat_cmp Remaining) → all ≡ first → HasMissing first second [] all
missing_starts first second all is q = ap (λ m. get m q) is ∙ or_none (get first q)

pub leaves_starts : (first all : FinMap nat_cmp Remaining) → all ≡ first → LeavesOut first [] all
leaves_starts first all is q = ap (λ m. get m q) is

pub replaced_starts : (first second all : FinMap nat_cmp Remaining) → all ≡ first → IsReplaced first second [] all
replaced_starts first second all is q = ap (λ m. get m q) is

-- what stands at the number is put there
pub put_there : (m new from : FinMap nat_cmp Remaining) (o : ℕ) (r : Remaining) → Some r ≡ get from o → new ≡ insert m o r → (q : ℕ) → get new q ≡ or_else (if o == q then get from q else None) (get m q)
put_there m new from o r there is q =
    ap (λ n. get n q) is ∙ get_inserted m o r q
    ∙ chosen (o == q) (get from q) (get m q) (λ t. there ∙ ap (get from) (same_number o q t))
  where
    chosen : (b : Bool) (y z : Option Remaining) → (b ≡ true → Some r ≡ y) → (if b then Some r else z) ≡ or_else (if b then y else None) z
    chosen true y z s = ap (λ w. or_else w z) (s refl)
    chosen false y z s = refl

pub none_there : (m from : FinMap nat_cmp Remaining) (o : ℕ) → None ≡ get from o → (q : ℕ) → get m q ≡ or_else (if o == q then get from q else None) (get m q)
none_there m from o none q = chosen (o == q) (get from q) (get m q) (λ t. none ∙ ap (get from) (same_number o q t))
  where
    chosen : (b : Bool) (y z : Option Remaining) → (b ≡ true → None ≡ y) → z ≡ or_else (if b then y else None) z
    chosen true y z s = ap (λ w. or_else w z) (s refl)
    chosen false y z s = refl

skips : (h e : Bool) (f s : Option Remaining) → (e ≡ true → is_some f ≡ true) → or_else f (if h then s else None) ≡ or_else f (if h || e then s else None)
skips true e f s there = refl
skips false false f s there = refl
skips false true None s there = absurd (let no : false ≡ true = there refl in cc)
skips false true (Some r) s there = refl

adds : (h e : Bool) (f s : Option Remaining) → (e ≡ true → is_some f ≡ false) → or_else (if e then s else None) (or_else f (if h then s else None)) ≡ or_else f (if h || e then s else None)
adds true false f s new = refl
adds false false f s new = refl
adds h true (Some r) s new = absurd (let no : true ≡ false = new refl in cc)
adds true true None None new = refl
adds true true None (Some t) new = refl
adds false true None None new = refl
adds false true None (Some t) new = refl

replaces : (h e : Bool) (f s : Option Remaining) → or_else (if e then s else None) (or_else (if h then s else None) f) ≡ or_else (if h || e then s else None) f
replaces true false f s = refl
replaces false false f s = refl
replaces true true f None = refl
replaces true true f (Some t) = refl
replaces false true f None = refl
replaces false true f (Some t) = refl

leaves : (h e : Bool) (f : Option Remaining) → (if e then None else (if h then None else f)) ≡ (if h || e then None else f)
leaves true true f = refl
leaves true false f = refl
leaves false true f = refl
leaves false false f = refl

-- one number more
module _ (first second : FinMap nat_cmp Remaining) (xs : List ℕ) (i d : ℕ) (within : i < length xs) where
  now_done : (q : ℕ) → (has q (take i xs) || (get_or xs i d == q)) ≡ has q (take (i + 1) xs)
  now_done q = sym (has_next xs i d q within)

  pub missing_skips : (all : FinMap nat_cmp Remaining) → is_some (get first (get_or xs i d)) ≡ true → HasMissing first second (take i xs) all → HasMissing first second (take (i + 1) xs) all
  missing_skips all there so_far q =
      so_far q ∙ skips (has q (take i xs)) (get_or xs i d == q) (get first q) (get second q) (λ t. subst (λ p. is_some (get first p) ≡ true) (same_number (get_or xs i d) q t) there)
      ∙ ap (λ b. or_else (get first q) (if b then get second q else None)) (now_done q)

  pub missing_adds : (all new : FinMap nat_cmp Remaining) → is_some (get first (get_or xs i d)) ≡ false → ((q : ℕ) → get new q ≡ or_else (if get_or xs i d == q then get second q else None) (get all q))
      → HasMissing first second (take i xs) all → HasMissing first second (take (i + 1) xs) new
  missing_adds all new none put so_far q =
      put q ∙ ap (or_else (if get_or xs i d == q then get second q else None)) (so_far q)
      ∙ adds (has q (take i xs)) (get_or xs i d == q) (get first q) (get second q) (λ t. subst (λ p. is_some (get first p) ≡ false) (same_number (get_or xs i d) q t) none)
      ∙ ap (λ b. or_else (get first q) (if b then get second q else None)) (now_done q)

  pub replaced_next : (all new : FinMap nat_cmp Remaining) → ((q : ℕ) → get new q ≡ or_else (if get_or xs i d == q then get second q else None) (get all q))
      → IsReplaced first second (take i xs) all → IsReplaced first second (take (i + 1) xs) new
  replaced_next all new put so_far q =
      put q ∙ ap (or_else (if get_or xs i d == q then get second q else None)) (so_far q)
      ∙ replaces (has q (take i xs)) (get_or xs i d == q) (get first q) (get second q)
      ∙ ap (λ b. or_else (if b then get second q else None) (get first q)) (now_done q)

  pub leaves_next : (all new : FinMap nat_cmp Remaining) → new ≡ remove all (get_or xs i d) → LeavesOut first (take i xs) all → LeavesOut first (take (i + 1) xs) new
  leaves_next all new is so_far q =
      ap (λ m. get m q) is ∙ get_removed all (get_or xs i d) q
      ∙ ap (λ x. if get_or xs i d == q then None else x) (so_far q)
      ∙ leaves (has q (take i xs)) (get_or xs i d == q) (get first q)
      ∙ ap (λ b. if b then None else get first q) (now_done q)

listed : (m : FinMap nat_cmp Remaining) (q : ℕ) → has q (keys m) ≡ is_some (get m q)
listed m q = sym (contains_key-keys m q ∙ has_as_any q (keys m))

if_there : (s : Option Remaining) → (if is_some s then s else None) ≡ s
if_there None = refl
if_there (Some r) = refl

-- in the end all of the second map were looked at
pub missing_ends : (first second all : FinMap nat_cmp Remaining) → HasMissing first second (keys second) all → (q : ℕ) → get all q ≡ or_else (get first q) (get second q)
missing_ends first second all h q = h q ∙ ap (λ b. or_else (get first q) (if b then get second q else None)) (listed second q) ∙ ap (or_else (get first q)) (if_there (get second q))

pub replaced_ends : (first second all : FinMap nat_cmp Remaining) → IsReplaced first second (keys second) all → (q : ℕ) → get all q ≡ or_else (get second q) (get first q)
replaced_ends first second all h q =
    h q ∙ ap (λ b. or_else (if b then get second q else None) (get first q)) (listed second q) ∙ ap (λ x. or_else x (get first q)) (if_there (get second q))

pub leaves_ends : (first second all : FinMap nat_cmp Remaining) → LeavesOut first (keys second) all → (q : ℕ) → get all q ≡ (if is_some (get second q) then None else get first q)
leaves_ends first second all h q = h q ∙ ap (λ b. if b then None else get first q) (listed second q)
