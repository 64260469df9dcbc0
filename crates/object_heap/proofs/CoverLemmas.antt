-- Keys that have others: what was told in steps has what was wanted in all.
use Rattle.std.proofs.Common.{◌≡◌, ℕ, zero, suc, ◌+◌, ◌-◌, ◌<◌, ◌≤◌, List, [], ◌∷◌, ◌++◌, take, length, refl, ap, ◌∙◌, sym, subst, arith, length-append, Bool}
use Rattle.std.specs.Prelude.{flat_map, get_or, OnOk, Result, Ok, Err, Option, Some, None, option_to_list, slice_get}
use Rattle.std.proofs.lemmas.List.{append-nil, take_more, take_all}
use Rattle.std.proofs.lemmas.Grind.{flat_map-append}
use Rattle.ownership_model.specs.declared.key.Key.{Key}
use Rattle.ownership_model.specs.declared.key.Key.TheVariants.{Object}
use Rattle.ownership_model.specs.Alike.{AreWithin, Covers}
use Rattle.ownership_model.proofs.AlikeLemmas.{within_front, within_back}
use Rattle.object_heap.specs.Told.{IsLast}

-- what a set has of each of two lists it has of both together
pub within_both : (k : Key → Bool) (a b : List Key) → AreWithin k a → AreWithin k b → AreWithin k (a ++ b)
within_both k [] b c d = d
within_both k (x ∷ a) b c d = (c.0, within_both k a b c.1 d)

-- keys have the same keys
pub covers_same : (told keys : List Key) → told ≡ keys → Covers told keys
covers_same told keys e = λ k c. subst (AreWithin k) e c

-- and nothing more
pub covers_none : (before : List Key) → Covers before (before ++ [])
covers_none before = λ k c. within_both k before [] c tt

-- two parts, told one after the other
pub covers_then : (k0 k1 k2 a b : List Key) → Covers k1 (k0 ++ a) → Covers k2 (k1 ++ b) → Covers k2 (k0 ++ (a ++ b))
covers_then k0 k1 k2 a b first second = λ k c.
    let last = second k c in
    let before = first k (within_front k k1 b last) in
    within_both k k0 (a ++ b) (within_front k k0 a before) (within_both k a b (within_back k k0 a before) (within_back k k1 b last))

-- the same, where the last call's result is returned as it is
pub ok_as : {T E : Type 0} (r : Result T E) (k0 k1 told wanted : List Key) → OnOk r (Covers k1 (k0 ++ told)) → wanted ≡ told → OnOk r (Covers k1 (k0 ++ wanted))
ok_as (Ok x) k0 k1 told wanted c e = subst (λ (ks : List Key). Covers k1 (k0 ++ ks)) (sym e) c
ok_as (Err x) k0 k1 told wanted c e = tt

pub ok_then : {T E : Type 0} (r : Result T E) (k0 k1 k2 a b wanted : List Key) → Covers k1 (k0 ++ a) → OnOk r (Covers k2 (k1 ++ b)) → wanted ≡ a ++ b → OnOk r (Covers k2 (k0 ++ wanted))
ok_then (Ok x) k0 k1 k2 a b wanted first second e = subst (λ (ks : List Key). Covers k2 (k0 ++ ks)) (sym e) (covers_then k0 k1 k2 a b first second)
ok_then (Err x) k0 k1 k2 a b wanted first second e = tt

-- one part more of many
pub covers_next : {A : Type 0} (f : A → List Key) (xs : List A) (i : ℕ) (d : A) → i < length xs → (k0 k1 k2 : List Key) → Covers k1 (k0 ++ flat_map f (take i xs)) → Covers k2 (k1 ++ f (get_or xs i d))
    → Covers k2 (k0 ++ flat_map f (take (i + 1) xs))
covers_next {A} f xs i d within k0 k1 k2 first second =
    let x = get_or xs i d in
    let more : flat_map f (take (i + 1) xs) ≡ flat_map f (take i xs) ++ f x =
    ap (λ (ys : List A). flat_map f ys) (take_more xs i d within) ∙ flat_map-append f (take i xs) (x ∷ []) ∙ ap (λ (ks : List Key). flat_map f (take i xs) ++ ks) (append-nil (f x)) in
    subst (λ (ks : List Key). Covers k2 (k0 ++ ks)) (sym more) (covers_then k0 k1 k2 (flat_map f (take i xs)) (f x) first second)

-- all parts
pub covers_all : {A : Type 0} (f : A → List Key) (xs : List A) (i : ℕ) → length xs ≤ i → (k0 k1 : List Key) → Covers k1 (k0 ++ flat_map f (take i xs)) → Covers k1 (k0 ++ flat_map f xs)
covers_all {A} f xs i all k0 k1 cover = subst (λ (ys : List A). Covers k1 (k0 ++ flat_map f ys)) (take_all i xs all) cover

-- ---- the key that was told last
-- the last of a list that isn't empty
last_at : (xs : List Key) (n : ℕ) (x : Key) → suc n ≡ length xs → slice_get xs n ≡ Some x → IsLast x xs
last_at [] n x long is = absurd (omega (arith, long))
last_at (y ∷ []) zero x long is = let same : y ≡ x = cc in ([], ap (λ (z : Key). z ∷ []) same)
last_at (y ∷ z ∷ ys) zero x long is = absurd (omega (arith, long))
last_at (y ∷ ys) (suc n) x long is = let rest : IsLast x ys = last_at ys n x (omega (arith, long)) is in (y ∷ rest.0, ap (λ (l : List Key). y ∷ l) rest.1)

some_at : (xs : List Key) (x : Key) (n : ℕ) → length xs ≡ n → slice_get xs (n - 1) ≡ Some x → IsLast x xs
some_at [] x n long is = absurd cc
some_at (y ∷ ys) x n long is = let before : n - 1 ≡ length ys = omega (arith, long) in last_at (y ∷ ys) (length ys) x (omega arith) (subst (λ (i : ℕ). slice_get (y ∷ ys) i ≡ Some x) before is)

pub last_of : (xs : List Key) (x : Key) → slice_get xs (length xs - 1) ≡ Some x → IsLast x xs
last_of xs x is = some_at xs x (length xs) refl is

-- a key that was told last needn't be told again
pub covers_last : (keys : List Key) (x : Key) → IsLast x keys → Covers keys (keys ++ x ∷ [])
covers_last keys x last = λ k c. within_both k keys (x ∷ []) c (within_back k last.0 (x ∷ []) (subst (AreWithin k) last.1 c))

last_same : (a b : List Key) (x y : Key) → a ++ x ∷ [] ≡ b ++ y ∷ [] → x ≡ y
last_same [] [] x y e = cc
last_same [] (z ∷ b) x y e = absurd (omega (arith, ap (λ (l : List Key). length l) e, length-append b (y ∷ [])))
last_same (z ∷ a) [] x y e = absurd (omega (arith, ap (λ (l : List Key). length l) e, length-append a (x ∷ [])))
last_same (z ∷ a) (w ∷ b) x y e = let rest : a ++ x ∷ [] ≡ b ++ y ∷ [] = cc in last_same a b x y rest

-- with what was taken off the end the keys have all that they had
pub covers_popped : (old new : List Key) (taken : Option Key) (x : Key) → old ≡ new ++ option_to_list taken → IsLast x old → Covers (new ++ x ∷ []) old
covers_popped old new None x is last = λ k c. subst (AreWithin k) (sym is) (within_both k new [] (within_front k new (x ∷ []) c) tt)
covers_popped old new (Some y) x is last =
    let same : y ≡ x = last_same new last.0 y x (sym is ∙ last.1) in
    covers_same (new ++ x ∷ []) old (ap (λ (z : Key). new ++ z ∷ []) (sym same) ∙ sym is)
