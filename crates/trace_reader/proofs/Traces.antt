-- The operations of a trace, within the limits, can be pushed one by one.
use Rattle.std.proofs.Common.{◌≡◌, ℕ, ◌<◌, ◌≤◌, List, [], ◌∷◌, ◌++◌, length, Bool, true, false, ◌==◌, ◌||◌, not, nat_le, Ok, refl, sym, ◌∙◌, subst, arith, append_assoc, length-append}
use Rattle.std.proofs.lemmas.Bool.Decides.{nat_tests}
use Rattle.std.specs.List.{list_all}
use Rattle.trace_types.specs.Limits.{is_within_limits}
use Rattle.trace_types.specs.declared.limits.TheConstants.{MAX_OPS}
use Rattle.trace_types.specs.Operation.{Operation}
use Rattle.trace_types.specs.Trace.{IsTrace, is_taken, has_distinct_numbers, pushed}
use Rattle.trace_reader.proofs.OpLines.{both}

-- Each operation is within the limits, and can be pushed after those before it.
abbrev pub GoesOn : List Operation → List Operation → Type 0
GoesOn done [] = Unit {0}
GoesOn done (op ∷ ops) = (is_within_limits op ≡ true) × (pushed done op ≡ Ok (done ++ op ∷ [])) × GoesOn (done ++ op ∷ []) ops

not_left : (a b : Bool) → not (a || b) ≡ true → a ≡ false
not_left true b h = absurd cc
not_left false b h = refl

not_right : (a b : Bool) → not (a || b) ≡ true → not b ≡ true
not_right true b h = absurd cc
not_right false b h = h

either_false : (a b : Bool) → a ≡ false → b ≡ false → (a || b) ≡ false
either_false true b h k = absurd cc
either_false false b h k = k

same_test : (x y : ℕ) → (x == y) ≡ (y == x)
same_test x y = grind (arith, nat_tests)

-- an operation in the midst of others hasn't a number that they don't have
at_seam : (id : ℕ) (before : List Operation) (op : Operation) (after : List Operation) → not (is_taken id (before ++ op ∷ after)) ≡ true → (op.id == id) ≡ false
at_seam id [] op after h = not_left (op.id == id) _ h
at_seam id (x ∷ before) op after h = at_seam id before op after (not_right (x.id == id) _ h)

fresh : (before : List Operation) (op : Operation) (after : List Operation) → has_distinct_numbers (before ++ op ∷ after) ≡ true → is_taken op.id before ≡ false
fresh [] op after h = refl
fresh (x ∷ before) op after h =
    let p = both (not (is_taken x.id (before ++ op ∷ after))) _ h in
    either_false (x.id == op.id) (is_taken op.id before) (same_test x.id op.id ∙ at_seam x.id before op after p.0) (fresh before op after p.1)

GoesOn-after : (done ops : List Operation) → list_all is_within_limits ops ≡ true → has_distinct_numbers (done ++ ops) ≡ true → length (done ++ ops) ≤ MAX_OPS → GoesOn done ops
GoesOn-after done [] within distinct few = tt
GoesOn-after done (op ∷ ops) within distinct few =
    let p = both (is_within_limits op) _ within in
    let new : is_taken op.id done ≡ false = fresh done op ops distinct in
    let size : length done < MAX_OPS = omega (arith, few, length-append done (op ∷ ops)) in
    let room : nat_le MAX_OPS (length done) ≡ false = grind (arith, nat_tests) in
    let same = append_assoc done (op ∷ []) ops in
    (p.0, rw (new, room), GoesOn-after (done ++ op ∷ []) ops p.1 (subst (λ l. has_distinct_numbers l ≡ true) (sym same) distinct) (subst (λ (l : List Operation). length l ≤ MAX_OPS) (sym same) few))

pub GoesOn-from_trace : (ops : List Operation) → IsTrace ops → list_all is_within_limits ops ≡ true → GoesOn [] ops
GoesOn-from_trace ops t within = GoesOn-after [] ops within t.distinct t.few
