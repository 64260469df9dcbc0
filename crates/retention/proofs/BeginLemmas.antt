-- Where walks begin: lists of places that rise.
use Rattle.std.proofs.Common.{◌≡◌, ℕ, zero, suc, ◌+◌, ◌-◌, ◌<◌, ◌≤◌, List, [], ◌∷◌, length, get_or, refl, sym, ◌∙◌, subst, arith, Bool, true, false, cond}
use Rattle.std.specs.Prelude.{Option, Some, nat_lt, ◌||◌, ◌==◌, filter}
use Rattle.std.specs.List.{range_with_len, All}
use Rattle.std.proofs.lemmas.Bool.Decides.{nat_tests}
use Rattle.ownership_model.specs.Reach.{has}
use Rattle.retention.specs.declared.graph.Graph.{Graph}
use Rattle.retention.specs.declared.walk.Step.{Step}
use Rattle.retention.specs.Layout.{upto, IsRising}
use Rattle.retention.specs.Graph.{start_at, IsFieldAt, is_field_at, holds}
use Rattle.retention.specs.Walked.{LeadsBy, HasWalked, holds_in}
use Rattle.retention.proofs.PathLemmas.{has_at}
use Rattle.retention.proofs.JoinSteps.{has_kept, kept_has, has_upto, upto_has}
use Rattle.retention.proofs.GraphPaths.{whole}

-- numbers that rise from one on
abbrev pub Rises : ℕ → List ℕ → Type 0
Rises n [] = Unit {0}
Rises n (x ∷ xs) = (n ≤ x) × Rises (x + 1) xs

rises_low : (low n : ℕ) (xs : List ℕ) → low ≤ n → Rises n xs → Rises low xs
rises_low low n [] l h = tt
rises_low low n (x ∷ xs) l h = (let a : n ≤ x = h.0 in omega (arith, l, a), h.1)

at_least : (n : ℕ) (xs : List ℕ) (j : ℕ) → Rises n xs → j < length xs → n ≤ get_or xs j 0
at_least n [] j h l = absurd (omega (arith, l))
at_least n (x ∷ xs) zero h l = h.0
at_least n (x ∷ xs) (suc j) h l = let a : n ≤ x = h.0 in let b : x + 1 ≤ get_or xs j 0 = at_least (x + 1) xs j h.1 (omega (arith, l)) in omega (arith, a, b)

pub rising : (n : ℕ) (xs : List ℕ) → Rises n xs → IsRising xs
rising n [] h i j l k = absurd (omega (arith, k))
rising n (x ∷ xs) h i zero l k = absurd (omega (arith, l))
rising n (x ∷ xs) h zero (suc j) l k = let a : x + 1 ≤ get_or xs j 0 = at_least (x + 1) xs j h.1 (omega (arith, k)) in omega (arith, a)
rising n (x ∷ xs) h (suc i) (suc j) l k = rising (x + 1) xs h.1 i j (omega (arith, l)) (omega (arith, k))

range_rises : (a n : ℕ) → Rises a (range_with_len a n)
range_rises a zero = tt
range_rises a (suc n) = (let e : a ≤ a = omega arith in e, range_rises (a + 1) n)

filter_rises : (test : ℕ → Bool) (n : ℕ) (xs : List ℕ) → Rises n xs → Rises n (filter test xs)
filter_rises test n [] h = tt
filter_rises test n (x ∷ xs) h =
    elim (test x) as (λ b. Rises n (cond b (x ∷ filter test xs) (filter test xs))) [
      | true ↦ (h.0, filter_rises test (x + 1) xs h.1)
      | false ↦ rises_low n (x + 1) (filter test xs) (let a : n ≤ x = h.0 in omega (arith, a)) (filter_rises test (x + 1) xs h.1)
    ]

pub upto_rising : (n : ℕ) → IsRising (upto n)
upto_rising n = rising 0 (upto n) (range_rises 0 n)

pub range_rising : (a n : ℕ) → IsRising (range_with_len a n)
range_rising a n = rising a (range_with_len a n) (range_rises a n)

pub kept_rising : (test : ℕ → Bool) (n : ℕ) → IsRising (filter test (upto n))
kept_rising test n = rising 0 (filter test (upto n)) (filter_rises test 0 (upto n) (range_rises 0 n))

same_default : (xs : List ℕ) (k d : ℕ) → k < length xs → get_or xs k 0 ≡ get_or xs k d
same_default [] k d l = absurd (omega (arith, l))
same_default (x ∷ xs) zero d l = refl
same_default (x ∷ xs) (suc k) d l = same_default xs k d (omega (arith, l))

-- what is in such a list is below its end
pub all_below : (xs : List ℕ) (n : ℕ) → ((x : ℕ) → has x xs ≡ true → x < n) → All (λ p. p < n) xs
all_below xs n h k d l = subst (λ x. x < n) (same_default xs k d l) (h (get_or xs k 0) (has_at xs k l))

same_tests : (a b : Bool) → (a ≡ true → b ≡ true) → (b ≡ true → a ≡ true) → a ≡ b
same_tests true b f g = sym (f refl)
same_tests false true f g = g refl
same_tests false false f g = refl

pub in_upto : (n p : ℕ) → nat_lt p n ≡ has p (upto n)
in_upto n p = same_tests (nat_lt p n) (has p (upto n)) (λ e. has_upto n p (grind (arith, nat_tests, e))) (λ e. let l : p < n = upto_has n p e in grind (arith, nat_tests, l))

pub in_kept : (test : ℕ → Bool) (n p : ℕ) → p < n → test p ≡ has p (filter test (upto n))
in_kept test n p l = same_tests (test p) (has p (filter test (upto n))) (λ e. has_kept test (upto n) p (has_upto n p l) e) (λ e. (kept_has test (upto n) p e).0)

pub range_has : (a n p : ℕ) → has p (range_with_len a n) ≡ true → (a ≤ p) × (p < a + n)
range_has a zero p h = absurd cc
range_has a (suc n) p h =
    elim (a == p) as (λ b. (a == p) ≡ b → (b || has p (range_with_len (a + 1) n)) ≡ true → (a ≤ p) × (p < a + suc n)) [
      | true ↦ λ e k. let same : a ≡ p = grind (arith, nat_tests, e) in (omega (arith, same), omega (arith, same))
      | false ↦ λ e k. let it = range_has (a + 1) n p k in let low : a + 1 ≤ p = it.0 in let high : p < a + 1 + n = it.1 in (omega (arith, low), omega (arith, high))
    ] refl h

different : (a p : ℕ) → (a == p) ≡ false → a ≡ p → ⊥
different a p e s = grind (arith, nat_tests, e, s)

has_range : (a n p : ℕ) → a ≤ p → p < a + n → has p (range_with_len a n) ≡ true
has_range a zero p low high = absurd (omega (arith, low, high))
has_range a (suc n) p low high =
    elim (a == p) as (λ b. (a == p) ≡ b → (b || has p (range_with_len (a + 1) n)) ≡ true) [
      | true ↦ λ e. refl
      | false ↦ λ e. let apart : a ≡ p → ⊥ = λ s. different a p e s in has_range (a + 1) n p (omega (arith, low, apart)) (omega (arith, high))
    ] refl

pub in_range : (g : Graph) (i p : ℕ) → start_at g i ≤ start_at g (i + 1) → is_field_at g i p ≡ has p (range_with_len (start_at g i) (start_at g (i + 1) - start_at g i))
in_range g i p rises = same_tests (is_field_at g i p) (has p (range_with_len (start_at g i) (start_at g (i + 1) - start_at g i)))
    (λ e. let low : start_at g i ≤ p = grind (arith, nat_tests, e) in let high : p < start_at g (i + 1) = grind (arith, nat_tests, e) in
    has_range (start_at g i) (start_at g (i + 1) - start_at g i) p low (omega (arith, high, rises)))
    (λ e. let it = range_has (start_at g i) (start_at g (i + 1) - start_at g i) p e in
    let low : start_at g i ≤ p = it.0 in let high : p < start_at g i + (start_at g (i + 1) - start_at g i) = it.1 in
    let below : p < start_at g (i + 1) = omega (arith, high, rises) in grind (arith, nat_tests, low, below))

-- Walks from the same places are the same.
module _ (hold : ℕ → Option ℕ) (field : ℕ → ℕ → Type 0) (from to : ℕ → Bool) (alike : (p o : ℕ) → hold p ≡ Some o → from p ≡ to p) where
  leads_alike : (way : List ℕ) (o : ℕ) → LeadsBy hold field from o way → LeadsBy hold field to o way
  leads_alike [] o l = absurd l
  leads_alike (p ∷ []) o l = (l.0, sym (alike p o l.0) ∙ l.1)
  leads_alike (p ∷ q ∷ way) o l = (l.0, (l.1.0, l.1.1, leads_alike (q ∷ way) l.1.0 l.1.2))

  alike_leads : (way : List ℕ) (o : ℕ) → LeadsBy hold field to o way → LeadsBy hold field from o way
  alike_leads [] o l = absurd l
  alike_leads (p ∷ []) o l = (l.0, alike p o l.0 ∙ l.1)
  alike_leads (p ∷ q ∷ way) o l = (l.0, (l.1.0, l.1.1, alike_leads (q ∷ way) l.1.0 l.1.2))

  pub walked_alike : (n : ℕ) (steps : List Step) → HasWalked hold field from n steps → HasWalked hold field to n steps
  walked_alike n steps is = record {
    long = is.long;
    way = is.way;
    least = λ o h. (leads_alike (is.way o) o (is.least o h).0, λ other l. (is.least o h).1 other (alike_leads other o l));
    all = λ o other l. is.all o other (alike_leads other o l);
    came = is.came;
    short = is.short;
  }

-- a walk within no part is one over the whole graph
pub whole_walked : (g : Graph) (from : ℕ → Bool) (n : ℕ) (steps : List Step) → HasWalked (holds_in g [] 0) (IsFieldAt g) from n steps → HasWalked (holds g) (IsFieldAt g) from n steps
whole_walked g from n steps is = subst (λ hold. HasWalked hold (IsFieldAt g) from n steps) (whole g) is
