-- Where operations stand by their numbers.
use Rattle.std.proofs.Common.{◌≡◌, ℕ, ◌+◌, ◌-◌, ◌<◌, ◌≤◌, List, [], ◌∷◌, ◌++◌, length, take, drop, Bool, true, false, refl, ap, sym, subst, ◌∙◌, arith, take-append-drop}
use Rattle.std.specs.Prelude.{◌==◌, ◌||◌, not, Option, Some, None, IfSome, if◌then◌else◌, IsTrue, option_map}
use Rattle.std.specs.List.{position_from}
use Rattle.std.proofs.lemmas.Grind.{common_steps}
use Rattle.std.proofs.lemmas.Bool.Decides.{nat_tests}
use mathlib.Core.Logic.{◌⊎◌, inl, inr, ⊎_elim}
use Rattle.std.proofs.lemmas.List.{length-take, length-take-le, length-drop}
use Rattle.trace_types.specs.Operation.{Operation}
use Rattle.trace_types.specs.Trace.{place_of, is_taken, has_distinct_numbers}
use Rattle.run_engine.specs.inner.Parts.{AreBetween}
use Rattle.run_engine.proofs.EditLemmas.{left, right}

or_left : (a b : Bool) → (a || b) ≡ false → a ≡ false
or_left true b e = absurd cc
or_left false b e = refl

or_right : (a b : Bool) → (a || b) ≡ false → b ≡ false
or_right true b e = absurd cc
or_right false b e = e

untrue : (a : Bool) → IsTrue (not a) → a ≡ false
untrue true e = absurd cc
untrue false e = refl

-- an operation that nobody has the number of stands nowhere
pub nowhere : (id n : ℕ) (ops : List Operation) → is_taken id ops ≡ false → position_from (λ o. o.id == id) n ops ≡ None
nowhere id n [] e = refl
nowhere id n (o ∷ ops) e = grind (arith, common_steps, or_left (o.id == id) (is_taken id ops) e, nowhere id (n + 1) ops (or_right (o.id == id) (is_taken id ops) e))

-- the number of the first operation stands nowhere else
pub alone : (id n : ℕ) (o : Operation) (ops : List Operation) → IsTrue (has_distinct_numbers (o ∷ ops)) → (o.id == id) ≡ true → position_from (λ x. x.id == id) n ops ≡ None
alone id n o ops d e =
    let same : o.id ≡ id = grind (arith, nat_tests, e) in
    nowhere id n ops (ap (λ k. is_taken k ops) (sym same) ∙ untrue (is_taken o.id ops) (left (not (is_taken o.id ops)) (has_distinct_numbers ops) d))

-- a place is within the list
pub within : (id n q : ℕ) (ops : List Operation) → position_from (λ o. o.id == id) n ops ≡ Some q → (n ≤ q) × (q < n + length ops)
within id n q [] e = absurd cc
within id n q (o ∷ ops) e = by_test (o.id == id) (within id (n + 1) q ops) e
  where
    by_test : (b : Bool) → (position_from (λ x. x.id == id) (n + 1) ops ≡ Some q → (n + 1 ≤ q) × (q < n + 1 + length ops))
        → (if b then Some n else position_from (λ x. x.id == id) (n + 1) ops) ≡ Some q → (n ≤ q) × (q < n + length (o ∷ ops))
    by_test true rest at = let here : n ≡ q = cc in (omega arith, omega arith)
    by_test false rest at = let k = rest at in (omega (arith, k.0), omega (arith, k.1))

pub place_within : (id q : ℕ) (ops : List Operation) → place_of id ops ≡ Some q → q < length ops
place_within id q ops e = let lt : q < 0 + length ops = (within id 0 q ops e).1 in omega (arith, lt)

pub some_within : (id : ℕ) (ops : List Operation) (place : Option ℕ) → place ≡ place_of id ops → IfSome place (λ p. p < length ops)
some_within id ops None e = tt
some_within id ops (Some p) e = place_within id p ops (sym e)

-- the place in the first operations, or else in the others
abbrev pub or_behind : ℕ → ℕ → Option ℕ → List Operation → Option ℕ
or_behind id n None ops = position_from (λ o. o.id == id) n ops
or_behind id n (Some p) ops = Some p

pub position-append : (id n : ℕ) (a b : List Operation) → position_from (λ o. o.id == id) n (a ++ b) ≡ or_behind id (n + length a) (position_from (λ o. o.id == id) n a) b
position-append id n [] b = let e : n + 0 ≡ n = omega arith in ap (λ k. position_from (λ o. o.id == id) k b) (sym e)
position-append id n (o ∷ a) b =
    let next : n + 1 + length a ≡ n + length (o ∷ a) = omega arith in
    by_test (o.id == id) (position-append id (n + 1) a b ∙ ap (λ k. or_behind id k (position_from (λ x. x.id == id) (n + 1) a) b) next)
  where
    by_test : (t : Bool) → position_from (λ x. x.id == id) (n + 1) (a ++ b) ≡ or_behind id (n + length (o ∷ a)) (position_from (λ x. x.id == id) (n + 1) a) b
        → (if t then Some n else position_from (λ x. x.id == id) (n + 1) (a ++ b)) ≡ or_behind id (n + length (o ∷ a)) (if t then Some n else position_from (λ x. x.id == id) (n + 1) a) b
    by_test true rest = refl
    by_test false rest = rest

-- all places n later
pub position-moved : (id n : ℕ) (ops : List Operation) → position_from (λ o. o.id == id) n ops ≡ option_map (λ p. n + p) (place_of id ops)
position-moved id n ops = ap (λ k. position_from (λ o. o.id == id) k ops) zero_less ∙ moved id n 0 ops
  where
    zero_less : n ≡ n + 0
    zero_less = omega arith

    moved : (id n m : ℕ) (ops : List Operation) → position_from (λ o. o.id == id) (n + m) ops ≡ option_map (λ p. n + p) (position_from (λ o. o.id == id) m ops)
    moved id n m [] = refl
    moved id n m (o ∷ ops) =
        let next : n + m + 1 ≡ n + (m + 1) = omega arith in
        by_test (o.id == id) (ap (λ k. position_from (λ x. x.id == id) k ops) next ∙ moved id n (m + 1) ops)
      where
        by_test : (t : Bool) → position_from (λ x. x.id == id) (n + m + 1) ops ≡ option_map (λ p. n + p) (position_from (λ x. x.id == id) (m + 1) ops)
            → (if t then Some (n + m) else position_from (λ x. x.id == id) (n + m + 1) ops) ≡ option_map (λ p. n + p) (if t then Some m else position_from (λ x. x.id == id) (m + 1) ops)
        by_test true rest = refl
        by_test false rest = rest

-- no number outside the bounds stands anywhere
pub outside : (id least greatest n : ℕ) (ops : List Operation) → AreBetween least greatest ops → (id < least) ⊎ (greatest < id) → position_from (λ o. o.id == id) n ops ≡ None
outside id least greatest n [] h out = refl
outside id least greatest n (o ∷ ops) h out =
    let low = h.0 in
    let high = h.1 in
    let rest = outside id least greatest (n + 1) ops h.2 out in
    let other : (o.id == id) ≡ false = unlike o.id id (differ out low high) in
    grind (arith, common_steps, other, rest)
  where
    differ : (id < least) ⊎ (greatest < id) → least ≤ o.id → o.id ≤ greatest → o.id ≡ id → ⊥
    differ out low high e = omega arith

    unlike : (x y : ℕ) → (x ≡ y → ⊥) → (x == y) ≡ false
    unlike x y ne = grind (arith, nat_tests, ne)

pub place-next : (id at : ℕ) (a b : List Operation) → place_of id a ≡ None → position_from (λ o. o.id == id) at (a ++ b) ≡ position_from (λ o. o.id == id) (at + length a) b
place-next id at a b e = position-append id at a b ∙ ap (λ o. or_behind id (at + length a) o b) (position-moved id at a ∙ ap (option_map (λ p. at + p)) e)

pub place-here : (id at p : ℕ) (a b : List Operation) → place_of id a ≡ Some p → position_from (λ o. o.id == id) at (a ++ b) ≡ Some (at + p)
place-here id at p a b e = position-append id at a b ∙ ap (λ o. or_behind id (at + length a) o b) (position-moved id at a ∙ ap (option_map (λ p. at + p)) e)

-- who has no number in the whole has none behind
any-back : (id : ℕ) (a b : List Operation) → is_taken id (a ++ b) ≡ false → is_taken id b ≡ false
any-back id [] b e = e
any-back id (o ∷ a) b e = any-back id a b (or_right (o.id == id) (is_taken id (a ++ b)) e)

-- a number in front is nobody's behind
disjoint : (id n m q : ℕ) (a b : List Operation) → IsTrue (has_distinct_numbers (a ++ b)) → position_from (λ o. o.id == id) n a ≡ Some q → position_from (λ o. o.id == id) m b ≡ None
disjoint id n m q [] b d e = absurd cc
disjoint id n m q (o ∷ a) b d e = by_test (o.id == id) refl (λ at. disjoint id (n + 1) m q a b (right (not (is_taken o.id (a ++ b))) (has_distinct_numbers (a ++ b)) d) at) e
  where
    by_test : (t : Bool) → (o.id == id) ≡ t → (position_from (λ x. x.id == id) (n + 1) a ≡ Some q → position_from (λ x. x.id == id) m b ≡ None)
        → (if t then Some n else position_from (λ x. x.id == id) (n + 1) a) ≡ Some q → position_from (λ x. x.id == id) m b ≡ None
    by_test true is rest at =
        let same : o.id ≡ id = grind (arith, nat_tests, is) in
        let free : is_taken id (a ++ b) ≡ false = ap (λ k. is_taken k (a ++ b)) (sym same) ∙ untrue (is_taken o.id (a ++ b)) (left (not (is_taken o.id (a ++ b))) (has_distinct_numbers (a ++ b)) d) in
        nowhere id m b (any-back id a b free)
    by_test false is rest at = rest at

-- the operations around a part
around-part : (base : List Operation) (from len : ℕ) → base ≡ take from base ++ (take len (drop from base) ++ drop len (drop from base))
around-part base from len = sym (take-append-drop from base) ∙ ap (λ ops. take from base ++ ops) (sym (take-append-drop len (drop from base)))

pub part-some : (id from len q : ℕ) (base : List Operation) → IsTrue (has_distinct_numbers base) → from ≤ length base → place_of id (take len (drop from base)) ≡ Some q → place_of id base ≡ Some (from + q)
part-some id from len q base d fits e =
    let a : List Operation = take from base in
    let r : List Operation = take len (drop from base) ++ drop len (drop from base) in
    let whole : base ≡ a ++ r = around-part base from len in
    let long : length a ≡ from = length-take-le from base fits in
    let sum : 0 + length a + q ≡ from + q = omega arith in
    let there : position_from (λ o. o.id == id) (0 + length a) r ≡ Some (from + q) =
    place-here id (0 + length a) q (take len (drop from base)) (drop len (drop from base)) e ∙ ap Some sum in
    ap (place_of id) whole ∙ by_prefix (place_of id a) refl (subst (λ ops. IsTrue (has_distinct_numbers ops)) whole d) there
  where
    by_prefix : (o : Option ℕ) → place_of id (take from base) ≡ o → IsTrue (has_distinct_numbers (take from base ++ (take len (drop from base) ++ drop len (drop from base))))
        → position_from (λ o. o.id == id) (0 + length (take from base)) (take len (drop from base) ++ drop len (drop from base)) ≡ Some (from + q)
        → place_of id (take from base ++ (take len (drop from base) ++ drop len (drop from base))) ≡ Some (from + q)
    by_prefix None is d there = place-next id 0 (take from base) (take len (drop from base) ++ drop len (drop from base)) is ∙ there
    by_prefix (Some p) is d there =
        let none = disjoint id 0 (0 + length (take from base)) p (take from base) (take len (drop from base) ++ drop len (drop from base)) d is in
        absurd cc

pub part-none : (id from len p : ℕ) (base : List Operation) → from + len ≤ length base → place_of id (take len (drop from base)) ≡ None → place_of id base ≡ Some p → (p < from) ⊎ (from + len ≤ p)
part-none id from len p base fits e at = by_prefix (place_of id (take from base)) refl
  where
    a : List Operation
    a = take from base

    b : List Operation
    b = take len (drop from base)

    r : List Operation
    r = drop len (drop from base)

    by_prefix : (o : Option ℕ) → place_of id (take from base) ≡ o → (p < from) ⊎ (from + len ≤ p)
    by_prefix (Some q) is =
        let there : Some p ≡ Some (0 + q) = sym at ∙ ap (place_of id) (around-part base from len) ∙ place-here id 0 q (take from base) (take len (drop from base) ++ drop len (drop from base)) is in
        let same : p ≡ 0 + q = cc in
        let less : q < length (take from base) = place_within id q (take from base) is in
        inl (omega (arith, length-take from base))
    by_prefix None is =
        let there : position_from (λ o. o.id == id) (0 + length (take from base) + length (take len (drop from base))) (drop len (drop from base)) ≡ Some p =
        sym (place-next id (0 + length (take from base)) (take len (drop from base)) (drop len (drop from base)) e)
        ∙ sym (place-next id 0 (take from base) (take len (drop from base) ++ drop len (drop from base)) is)
        ∙ sym (ap (place_of id) (around-part base from len)) ∙ at in
        let low : 0 + length (take from base) + length (take len (drop from base)) ≤ p = (within id (0 + length (take from base) + length (take len (drop from base))) p (drop len (drop from base)) there).0 in
        inr (omega (arith, length-take from base, length-take len (drop from base), length-drop from base))

-- where a number stands in a part of operations with distinct numbers
pub in-part-some : (id from len p : ℕ) (base : List Operation) → IsTrue (has_distinct_numbers base) → from + len ≤ length base → Some p ≡ place_of id base → from ≤ p → p - from < len → Some (p - from) ≡ place_of id (take len (drop from base))
in-part-some id from len p base d fits at low high = by_part (place_of id (take len (drop from base))) refl
  where
    by_part : (o : Option ℕ) → place_of id (take len (drop from base)) ≡ o → Some (p - from) ≡ o
    by_part None is = absurd (⊎_elim (λ (h : p < from). let k : ⊥ = omega arith in k) (λ (h : from + len ≤ p). let k : ⊥ = omega arith in k) (part-none id from len p base fits is (sym at)))
    by_part (Some q) is =
        let there : Some p ≡ Some (from + q) = at ∙ part-some id from len q base d (omega arith) is in
        let same : p ≡ from + q = cc in
        let here : p - from ≡ q = omega arith in
        ap Some here

pub in-part-none : (id from len : ℕ) (base : List Operation) (stands : Option ℕ) → IsTrue (has_distinct_numbers base) → from + len ≤ length base → stands ≡ place_of id base
    → ((p : ℕ) → stands ≡ Some p → (p < from) ⊎ (len ≤ p - from)) → None ≡ place_of id (take len (drop from base))
in-part-none id from len base stands d fits at out = by_part (place_of id (take len (drop from base))) refl
  where
    by_part : (o : Option ℕ) → place_of id (take len (drop from base)) ≡ o → None ≡ o
    by_part None is = refl
    by_part (Some q) is =
        let there : stands ≡ Some (from + q) = at ∙ part-some id from len q base d (omega arith) is in
        let less : q < length (take len (drop from base)) = place_within id q (take len (drop from base)) is in
        let short : q < len = omega (arith, length-take len (drop from base)) in
        absurd (⊎_elim (λ (h : from + q < from). let k : ⊥ = omega arith in k) (λ (h : len ≤ from + q - from). let k : ⊥ = omega arith in k) (out (from + q) there))
