-- Places that are filled and emptied.
use Rattle.std.proofs.Common.{◌≡◌, ℕ, zero, suc, ◌+◌, ◌<◌, List, [], ◌∷◌, ◌++◌, length, set, take, get_or, Option, Some, None, IfSome, sym, ap, ◌∙◌, arith}
use Rattle.std.specs.Prelude.{slice_get}
use Rattle.std.specs.List.{All}
use Rattle.std.proofs.Math.ListN.{length-set}
use Rattle.std.proofs.lemmas.List.{take_more}
use Rattle.op_step.specs.Chunk.{Chunk}
use Rattle.chunk_workers.specs.Chunks.{AreFound}

abbrev Own : List Chunk → List (Option Chunk) → Type 0
Own jobs found = (i : ℕ) (c : Chunk) → slice_get found i ≡ Some (Some c) → slice_get jobs i ≡ Some c

own_set : (jobs : List Chunk) (found : List (Option Chunk)) (k : ℕ) (o : Option Chunk) → IfSome o (λ c. slice_get jobs k ≡ Some c) → Own jobs found → Own jobs (set found k o)
own_set jobs [] k o is own i c at = own i c at
own_set jobs (x ∷ xs) zero (Some d) is own zero c at = let same : d ≡ c = cc at in is ∙ ap Some same
own_set jobs (x ∷ xs) zero None is own zero c at = absurd (cc at)
own_set jobs (x ∷ xs) zero o is own (suc i) c at = own (suc i) c at
own_set jobs (x ∷ xs) (suc k) o is own zero c at = own zero c at
own_set [] (x ∷ xs) (suc k) o is own (suc i) c at = own_set [] xs k o is (λ n c' at'. own (suc n) c' at') i c at
own_set (y ∷ ys) (x ∷ xs) (suc k) o is own (suc i) c at = own_set ys xs k o is (λ n c' at'. own (suc n) c' at') i c at

-- a place with the job's chunk, or with none
pub found_set : (jobs : List Chunk) (found : List (Option Chunk)) (k : ℕ) (o : Option Chunk) → IfSome o (λ c. slice_get jobs k ≡ Some c) → AreFound jobs found → AreFound jobs (set found k o)
found_set jobs found k o is f = record { all = simp length-set f.all; own = own_set jobs found k o is f.own }

-- what a place has
pub found_at : (jobs : List Chunk) (found : List (Option Chunk)) (i : ℕ) (o : Option Chunk) → slice_get found i ≡ Some o → AreFound jobs found → IfSome o (λ c. slice_get jobs i ≡ Some c)
found_at jobs found i (Some c) at f = f.own i c at
found_at jobs found i None at f = tt

none_found : (found : List (Option Chunk)) → All (λ o. o ≡ None) found → (i : ℕ) (c : Chunk) (jobs : List Chunk) → slice_get found i ≡ Some (Some c) → slice_get jobs i ≡ Some c
none_found [] none i c jobs at = absurd (cc at)
none_found (x ∷ xs) none zero c jobs at = let no : x ≡ None = none 0 x (omega arith) in absurd (cc (at, no))
none_found (x ∷ xs) none (suc i) c jobs at = absurd (no_more xs (λ k d lt. none (suc k) d (omega (arith, lt))) i c at)
  where
    no_more : (ys : List (Option Chunk)) → All (λ o. o ≡ None) ys → (i : ℕ) (c : Chunk) → slice_get ys i ≡ Some (Some c) → ⊥
    no_more [] none i c at = cc at
    no_more (y ∷ ys) none zero c at = let no : y ≡ None = none 0 y (omega arith) in cc (at, no)
    no_more (y ∷ ys) none (suc i) c at = no_more ys (λ k d lt. none (suc k) d (omega (arith, lt))) i c at

-- a place for each job, none of which has a chunk
pub found_none : (jobs : List Chunk) (found : List (Option Chunk)) → length found ≡ length jobs → All (λ o. o ≡ None) found → AreFound jobs found
found_none jobs found all none = record { all = all; own = λ i c at. none_found found none i c jobs at }

within : (xs : List Chunk) (i : ℕ) (c : Chunk) → slice_get xs i ≡ Some c → i < length xs
within [] i c is = absurd cc
within (x ∷ xs) zero c is = omega arith
within (x ∷ xs) (suc i) c is = omega (arith, within xs i c is)

read : (xs : List Chunk) (i : ℕ) (c : Chunk) → slice_get xs i ≡ Some c → get_or xs i c ≡ c
read [] i c is = absurd cc
read (x ∷ xs) zero c is = cc is
read (x ∷ xs) (suc i) c is = read xs i c is

-- one chunk more
pub take_one_more : (chunks jobs : List Chunk) (i : ℕ) (c : Chunk) → chunks ≡ take i jobs → slice_get jobs i ≡ Some c → chunks ++ c ∷ [] ≡ take (i + 1) jobs
take_one_more chunks jobs i c is at =
    ap (λ (xs : List Chunk). xs ++ c ∷ []) is ∙ (ap (λ (x : Chunk). take i jobs ++ x ∷ []) (sym (read jobs i c at)) ∙ sym (take_more jobs i c (within jobs i c at)))
