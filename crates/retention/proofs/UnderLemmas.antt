-- Each leaked object is in a cycle or under one: what holds it leaked too, and so on back, until an object comes again.
use Rattle.std.proofs.Common.{◌≡◌, ℕ, zero, suc, ◌+◌, ◌<◌, ◌≤◌, List, [], ◌∷◌, length, refl, subst, arith, Bool, true, false}
use Rattle.std.specs.Prelude.{◌==◌}
use Rattle.std.proofs.lemmas.Bool.Decides.{nat_tests}
use Rattle.ownership_model.specs.Reach.{has}
use Rattle.ownership_model.proofs.Searching.{either, or_left}
use Rattle.retention.specs.declared.graph.Graph.{Graph}
use Rattle.retention.specs.Graph.{size}
use Rattle.retention.specs.Paths.{Points, Path}
use Rattle.retention.specs.Retaining.{AreApart}
use Rattle.retention.proofs.PathLemmas.{path_trans}
use Rattle.retention.proofs.AccountLemmas.{apart_few}

-- A set of objects, each of which a field of one holds, while none leads to itself, is empty
module _ (g : Graph) (Of : ℕ → Type 0) (within : (i : ℕ) → Of i → i < size g) (held : (i : ℕ) → Of i → (j : ℕ) × Of j × Points g j i) (never : (i : ℕ) → Of i → Path (Points g) i i → ⊥) where
  -- objects of the set, each once; the first leads to the others
  record IsChain (x : ℕ) (xs : List ℕ) : Type 0 where
    each : (i : ℕ) → has i (x ∷ xs) ≡ true → Of i
    apart : AreApart (x ∷ xs)
    leads : (i : ℕ) → has i xs ≡ true → Path (Points g) x i

  same_number : (a b : ℕ) → (a == b) ≡ true → a ≡ b
  same_number a b e = grind (arith, nat_tests, e)

  self : (a : ℕ) → (a == a) ≡ true
  self a = grind (arith, nat_tests)

  -- what holds the first leads to all
  before_all : (x : ℕ) (xs : List ℕ) → IsChain x xs → (j : ℕ) → Points g j x → (i : ℕ) → has i (x ∷ xs) ≡ true → Path (Points g) j i
  before_all x xs c j points i h =
      either (Path (Points g) j i) (x == i) (has i xs) h
      (λ e. subst (λ k. Path (Points g) j k) (same_number x i e) ([], points))
      (λ e. path_trans (Points g) j x i ([], points) (c.leads i e))

  -- and is none of them
  apart_from : (x : ℕ) (xs : List ℕ) → IsChain x xs → (j : ℕ) → Of j → Points g j x → (b : Bool) → has j (x ∷ xs) ≡ b → b ≡ false
  apart_from x xs c j of points true h = absurd (never j of (before_all x xs c j points j h))
  apart_from x xs c j of points false h = refl

  longer : (x : ℕ) (xs : List ℕ) → IsChain x xs → (j : ℕ) → Of j → Points g j x → IsChain j (x ∷ xs)
  longer x xs c j of points = record {
    each = λ i h. either (Of i) (j == i) (has i (x ∷ xs)) h (λ e. subst Of (same_number j i e) of) (c.each i);
    apart = (apart_from x xs c j of points (has j (x ∷ xs)) refl, c.apart);
    leads = before_all x xs c j points;
  }

  too_long : (x : ℕ) (xs : List ℕ) → IsChain x xs → length (x ∷ xs) ≤ size g
  too_long x xs c = apart_few (x ∷ xs) (size g) c.apart (λ i h. within i (c.each i h))

  goes_on : (n x : ℕ) (xs : List ℕ) → IsChain x xs → size g < length xs + n → ⊥
  goes_on zero x xs c large = omega (arith, large, too_long x xs c)
  goes_on (suc n) x xs c large =
      let it = held x (c.each x (or_left (x == x) (has x xs) (self x))) in
      goes_on n it.0 (x ∷ xs) (longer x xs c it.0 it.1 it.2) (omega (arith, large))

  pub none_of : (i : ℕ) → Of i → ⊥
  none_of i of =
      goes_on (size g + 1) i [] (record {
        each = λ k h. subst Of (one k h) of;
        apart = (refl, tt);
        leads = λ k h. absurd cc;
      }) (omega arith)
    where
      one : (k : ℕ) → has k (i ∷ []) ≡ true → i ≡ k
      one k h = grind (arith, nat_tests, h)
