-- Edits keep the numbers distinct.
use Rattle.std.proofs.Common.{◌≡◌, ℕ, zero, suc, ◌+◌, ◌-◌, ◌<◌, ◌≤◌, List, [], ◌∷◌, length, get_or, Bool, true, false, refl, ap, sym, subst, ◌∙◌, arith, length-set}
use Rattle.std.specs.Prelude.{Some, if◌then◌else◌, ◌==◌, ◌&&◌, ◌||◌, not, IsTrue, insert, remove, slice_set}
use Rattle.std.specs.List.{position_from}
use Rattle.std.proofs.lemmas.List.Edits.{length-insert, length-remove}
use Rattle.std.proofs.lemmas.Bool.Decides.{nat_tests}
use Rattle.trace_types.specs.declared.limits.TheConstants.{MAX_OPS}
use Rattle.trace_types.specs.Operation.{Operation}
use Rattle.trace_types.specs.Trace.{place_of, is_taken, IsNew, has_distinct_numbers, IsTrace}

neither : (a b : Bool) → IsTrue (not a) → IsTrue (not b) → IsTrue (not (a || b))
neither true b p q = absurd cc
neither false b p q = q

not_left : (a b : Bool) → IsTrue (not (a || b)) → IsTrue (not a)
not_left true b p = absurd cc
not_left false b p = refl

not_right : (a b : Bool) → IsTrue (not (a || b)) → IsTrue (not b)
not_right true b p = absurd cc
not_right false b p = p

both : (a b : Bool) → IsTrue a → IsTrue b → IsTrue (a && b)
both true b p q = q
both false b p q = absurd cc

pub left : (a b : Bool) → IsTrue (a && b) → IsTrue a
left true b p = refl
left false b p = absurd cc

pub right : (a b : Bool) → IsTrue (a && b) → IsTrue b
right true b p = p
right false b p = absurd cc

same_test : (x y : ℕ) → (x == y) ≡ (y == x)
same_test x y = grind (arith, nat_tests)

turned : (x y : ℕ) → IsTrue (not (x == y)) → IsTrue (not (y == x))
turned x y h = subst (λ b. IsTrue (not b)) (same_test x y) h

new-insert : (id i : ℕ) (ops : List Operation) (op : Operation) → IsNew id ops → IsTrue (not (op.id == id)) → IsNew id (insert ops i op)
new-insert id zero ops op h k = neither (op.id == id) (is_taken id ops) k h
new-insert id (suc i) [] op h k = neither (op.id == id) false k refl
new-insert id (suc i) (o ∷ ops) op h k = neither (o.id == id) (is_taken id (insert ops i op)) (not_left _ _ h) (new-insert id i ops op (not_right _ _ h) k)

distinct-insert : (i : ℕ) (ops : List Operation) (op : Operation) → IsTrue (has_distinct_numbers ops) → IsNew op.id ops → IsTrue (has_distinct_numbers (insert ops i op))
distinct-insert zero ops op h k = both (not (is_taken op.id ops)) (has_distinct_numbers ops) k h
distinct-insert (suc i) [] op h k = refl
distinct-insert (suc i) (o ∷ ops) op h k =
    both (not (is_taken o.id (insert ops i op))) (has_distinct_numbers (insert ops i op))
    (new-insert o.id i ops op (left _ _ h) (turned o.id op.id (not_left _ _ k)))
    (distinct-insert i ops op (right _ _ h) (not_right _ _ k))

new-remove : (id i : ℕ) (ops : List Operation) → IsNew id ops → IsNew id (remove ops i)
new-remove id zero [] h = refl
new-remove id zero (o ∷ ops) h = not_right _ _ h
new-remove id (suc i) [] h = refl
new-remove id (suc i) (o ∷ ops) h = neither (o.id == id) (is_taken id (remove ops i)) (not_left _ _ h) (new-remove id i ops (not_right _ _ h))

distinct-remove : (i : ℕ) (ops : List Operation) → IsTrue (has_distinct_numbers ops) → IsTrue (has_distinct_numbers (remove ops i))
distinct-remove zero [] h = refl
distinct-remove zero (o ∷ ops) h = right _ _ h
distinct-remove (suc i) [] h = refl
distinct-remove (suc i) (o ∷ ops) h =
    both (not (is_taken o.id (remove ops i))) (has_distinct_numbers (remove ops i)) (new-remove o.id i ops (left _ _ h)) (distinct-remove i ops (right _ _ h))

new-set : (id i : ℕ) (ops : List Operation) (op : Operation) → IsNew id ops → IsTrue (not (op.id == id)) → IsNew id (slice_set ops i op)
new-set id i [] op h k = refl
new-set id zero (o ∷ ops) op h k = neither (op.id == id) (is_taken id ops) k (not_right _ _ h)
new-set id (suc i) (o ∷ ops) op h k = neither (o.id == id) (is_taken id (slice_set ops i op)) (not_left _ _ h) (new-set id i ops op (not_right _ _ h) k)

distinct-set : (i : ℕ) (ops : List Operation) (op : Operation) → IsTrue (has_distinct_numbers ops) → IsNew op.id ops → IsTrue (has_distinct_numbers (slice_set ops i op))
distinct-set i [] op h k = refl
distinct-set zero (o ∷ ops) op h k = both (not (is_taken op.id ops)) (has_distinct_numbers ops) (not_right _ _ k) (right _ _ h)
distinct-set (suc i) (o ∷ ops) op h k =
    both (not (is_taken o.id (slice_set ops i op))) (has_distinct_numbers (slice_set ops i op))
    (new-set o.id i ops op (left _ _ h) (turned o.id op.id (not_left _ _ k)))
    (distinct-set i ops op (right _ _ h) (not_right _ _ k))

-- an operation in the place of one with its number
new-set_same : (id i : ℕ) (ops : List Operation) (op : Operation) → IsNew id ops → op.id ≡ (get_or ops i op).id → IsNew id (slice_set ops i op)
new-set_same id i [] op h e = refl
new-set_same id zero (o ∷ ops) op h e = neither (op.id == id) (is_taken id ops) (subst (λ n. IsTrue (not (n == id))) (sym e) (not_left _ _ h)) (not_right _ _ h)
new-set_same id (suc i) (o ∷ ops) op h e = neither (o.id == id) (is_taken id (slice_set ops i op)) (not_left _ _ h) (new-set_same id i ops op (not_right _ _ h) e)

distinct-set_same : (i : ℕ) (ops : List Operation) (op : Operation) → IsTrue (has_distinct_numbers ops) → op.id ≡ (get_or ops i op).id → IsTrue (has_distinct_numbers (slice_set ops i op))
distinct-set_same i [] op h e = refl
distinct-set_same zero (o ∷ ops) op h e = both (not (is_taken op.id ops)) (has_distinct_numbers ops) (subst (λ n. IsTrue (not (is_taken n ops))) (sym e) (left _ _ h)) (right _ _ h)
distinct-set_same (suc i) (o ∷ ops) op h e =
    both (not (is_taken o.id (slice_set ops i op))) (has_distinct_numbers (slice_set ops i op)) (new-set_same o.id i ops op (left _ _ h) e) (distinct-set_same i ops op (right _ _ h) e)

-- the operation at the place of a number has that number
abbrev IsAt : ℕ → ℕ → ℕ → List Operation → Operation → Type 0
IsAt id n q ops d = (n ≤ q) × (q - n < length ops) × ((get_or ops (q - n) d).id ≡ id)

at-one : (id n q : ℕ) (o : Operation) (ops : List Operation) (d : Operation) (b : Bool) → (o.id == id) ≡ b
    → (if b then Some n else position_from (λ x. x.id == id) (n + 1) ops) ≡ Some q
    → (position_from (λ x. x.id == id) (n + 1) ops ≡ Some q → IsAt id (n + 1) q ops d) → IsAt id n q (o ∷ ops) d
at-one id n q o ops d true t s later =
    let same : n ≡ q = cc in
    let none : q - n ≡ zero = omega arith in
    let is : o.id ≡ id = grind (arith, nat_tests, t) in
    (omega arith, omega arith, ap (λ k. (get_or (o ∷ ops) k d).id) none ∙ is)
at-one id n q o ops d false t s later =
    let h : IsAt id (n + 1) q ops d = later s in
    let le : n + 1 ≤ q = h.0 in
    let lt : q - (n + 1) < length ops = h.1 in
    let next : q - n ≡ suc (q - (n + 1)) = omega arith in
    (omega arith, omega arith, ap (λ k. (get_or (o ∷ ops) k d).id) next ∙ h.2)

at-place : (id n q : ℕ) (ops : List Operation) (d : Operation) → position_from (λ o. o.id == id) n ops ≡ Some q → IsAt id n q ops d
at-place id n q [] d e = absurd cc
at-place id n q (o ∷ ops) d e = at-one id n q o ops d (o.id == id) refl e (at-place id (n + 1) q ops d)

untaken : (b : Bool) → b ≡ false → IsTrue (not b)
untaken true e = absurd cc
untaken false e = refl

pub trace-insert : (ops : List Operation) (i : ℕ) (op : Operation) → i ≤ length ops → is_taken op.id ops ≡ false → length ops < MAX_OPS → IsTrace ops → IsTrace (insert ops i op)
trace-insert ops i op within new room h = record { distinct = distinct-insert i ops op h.distinct (untaken (is_taken op.id ops) new); few = omega (arith, length-insert ops i op within) }

pub trace-remove : (ops : List Operation) (i : ℕ) → i < length ops → IsTrace ops → IsTrace (remove ops i)
trace-remove ops i within h = record { distinct = distinct-remove i ops h.distinct; few = omega (arith, h.few, length-remove ops i within) }

pub trace-set : (ops : List Operation) (i : ℕ) (op : Operation) → is_taken op.id ops ≡ false → IsTrace ops → IsTrace (slice_set ops i op)
trace-set ops i op new h = record { distinct = distinct-set i ops op h.distinct (untaken (is_taken op.id ops) new); few = omega (arith, h.few, length-set ops i op) }

pub trace-set_same : (ops : List Operation) (i id : ℕ) (op : Operation) → Some i ≡ place_of id ops → op.id ≡ id → IsTrace ops → IsTrace (slice_set ops i op)
trace-set_same ops i id op place same h =
    let is : (get_or ops (i - 0) op).id ≡ id = (at-place id 0 i ops op (sym place)).2 in
    let here : i - 0 ≡ i = omega arith in
    record {
      distinct = distinct-set_same i ops op h.distinct (same ∙ sym is ∙ ap (λ k. (get_or ops k op).id) here);
      few = omega (arith, h.few, length-set ops i op);
    }
