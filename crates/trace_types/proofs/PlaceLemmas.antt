-- Where an operation stands, when one more comes last.
use Rattle.std.proofs.Common.{◌≡◌, ℕ, suc, ◌+◌, List, [], ◌∷◌, ◌++◌, length, refl, ap, ◌∙◌, subst, arith, Bool, true, false, Option, Some, None}
use Rattle.std.specs.Prelude.{◌==◌, if◌then◌else◌, is_some, not, IsTrue}
use Rattle.std.specs.List.{list_any, position_from}
use Rattle.std.proofs.lemmas.Grind.{common_steps}
use Rattle.std.proofs.lemmas.Bool.Decides.{nat_tests}
use Rattle.trace_types.specs.Operation.{Operation}
use Rattle.trace_types.specs.Trace.{is_taken, place_of}

-- the place, or else the last one where the test holds there
abbrev or_last : Option ℕ → Bool → ℕ → Option ℕ
or_last (Some p) b n = Some p
or_last None b n = if b then Some n else None

found : (id n : ℕ) (ops : List Operation) → is_some (position_from (λ op. op.id == id) n ops) ≡ list_any (λ op. op.id == id) ops
found id n [] = refl
found id n (op ∷ ops) = grind (arith, common_steps, found id (n + 1) ops)

pub taken_where_placed : (id : ℕ) (ops : List Operation) → is_some (place_of id ops) ≡ is_taken id ops
taken_where_placed id ops = found id 0 ops

by_test : (a b : Bool) (n k : ℕ) (p : Option ℕ) → k ≡ n → (if a then Some n else or_last p b k) ≡ or_last (if a then Some n else p) b k
by_test true b n k p e = refl
by_test false b n k p e = refl

one : (b : Bool) (n : ℕ) → (if b then Some n else None) ≡ or_last None b (n + 0)
one b n = grind (arith, common_steps)

next : (a b : Bool) (n k : ℕ) (p q : Option ℕ) → q ≡ or_last p b k → (if a then Some n else q) ≡ or_last (if a then Some n else p) b k
next true b n k p q e = refl
next false b n k p q e = e

-- one more at the end of a list that begins at place n
placed_from : (id n : ℕ) (ops : List Operation) (op : Operation)
    → position_from (λ x. x.id == id) n (ops ++ op ∷ []) ≡ or_last (position_from (λ x. x.id == id) n ops) (op.id == id) (n + length ops)
placed_from id n [] op = one (op.id == id) n
placed_from id n (o ∷ ops) op =
    let k : n + 1 + length ops ≡ n + suc (length ops) = omega arith in
    next (o.id == id) (op.id == id) n (n + suc (length ops)) _ _
    (subst (λ j. position_from (λ x. x.id == id) (n + 1) (ops ++ op ∷ []) ≡ or_last (position_from (λ x. x.id == id) (n + 1) ops) (op.id == id) j) k (placed_from id (n + 1) ops op))

from_first : (id : ℕ) (ops : List Operation) (op : Operation) → place_of id (ops ++ op ∷ []) ≡ or_last (place_of id ops) (op.id == id) (length ops)
from_first id ops op = subst (λ k. place_of id (ops ++ op ∷ []) ≡ or_last (place_of id ops) (op.id == id) k) (omega arith) (placed_from id 0 ops op)

absent : (p : Option ℕ) (n : ℕ) → is_some p ≡ false → or_last p true n ≡ Some n
absent (Some p) n h = absurd cc
absent None n h = refl

kept : (p : Option ℕ) (n : ℕ) → or_last p false n ≡ p
kept (Some p) n = refl
kept None n = refl

-- an operation with a new number comes last, and the others stay where they are
last_place : (b : Bool) (id : ℕ) (ops : List Operation) (op : Operation) → (op.id == id) ≡ b → is_taken op.id ops ≡ false
    → place_of id (ops ++ op ∷ []) ≡ (if b then Some (length ops) else place_of id ops)
last_place true id ops op e new =
    let same : id ≡ op.id = grind (arith, nat_tests, e) in
    from_first id ops op ∙ ap (λ b. or_last (place_of id ops) b (length ops)) e
    ∙ absent (place_of id ops) (length ops) (found id 0 ops ∙ ap (λ k. is_taken k ops) same ∙ new)
last_place false id ops op e new = from_first id ops op ∙ ap (λ b. or_last (place_of id ops) b (length ops)) e ∙ kept (place_of id ops) (length ops)

pub placed : (id : ℕ) (ops : List Operation) (op : Operation) → IsTrue (not (is_taken op.id ops))
    → place_of id (ops ++ op ∷ []) ≡ (if op.id == id then Some (length ops) else place_of id ops)
placed id ops op new = last_place (op.id == id) id ops op refl (untaken (is_taken op.id ops) new)
  where
    untaken : (b : Bool) → IsTrue (not b) → b ≡ false
    untaken true h = absurd cc
    untaken false h = refl
