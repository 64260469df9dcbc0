-- Parts of a list, and where an operation stands in it.
use Rattle.std.proofs.Common.{◌≡◌, ℕ, zero, suc, ◌+◌, ◌<◌, ◌≤◌, List, [], ◌∷◌, ◌++◌, length, take, drop, ◌-◌, get_or, Bool, cond, refl, ap, sym, ◌∙◌, arith, drop-cons, add-one}
use Rattle.std.specs.Prelude.{◌==◌, Some, None, is_some, slice_range}
use Rattle.std.specs.List.{list_any, position_from}
use Rattle.std.proofs.lemmas.Grind.{common_steps}
use Rattle.std.proofs.lemmas.List.{drop_all, take_more, length-drop, length-take, get_or-drop, drop-drop}
use Rattle.std.proofs.Math.Seq.{take-add}
use Rattle.trace_types.specs.Operation.{Operation}
use Rattle.trace_types.specs.Trace.{place_of, is_taken}

-- a list around its place i
pub around : {X : Type 0} (xs : List X) (i : ℕ) (x : X) → i < length xs → x ≡ get_or xs i x → drop i xs ≡ x ∷ drop (i + 1) xs
around xs i x h is = drop-cons xs i x h ∙ ap (λ y. y ∷ drop (suc i) xs) (sym is) ∙ ap (λ n. x ∷ drop n xs) (sym (add-one i))

-- an operation at i has the number, or the search goes on
pub position-here : (id i : ℕ) (ops : List Operation) (op : Operation) (b : Bool) → i < length ops → op ≡ get_or ops i op → (op.id == id) ≡ b
    → position_from (λ o. o.id == id) i (drop i ops) ≡ cond b (Some i) (position_from (λ o. o.id == id) (i + 1) (drop (i + 1) ops))
position-here id i ops op b lt is e =
    ap (position_from (λ o. o.id == id) i) (around ops i op lt is)
    ∙ ap (λ t. cond t (Some i) (position_from (λ o. o.id == id) (i + 1) (drop (i + 1) ops))) e

pub position-none : (id i : ℕ) (ops : List Operation) → length ops ≡ i → position_from (λ o. o.id == id) i (drop i ops) ≡ None
position-none id i ops e = ap (position_from (λ o. o.id == id) i) (drop_all i ops (omega arith))

found : (id n : ℕ) (ops : List Operation) → is_some (position_from (λ op. op.id == id) n ops) ≡ list_any (λ op. op.id == id) ops
found id n [] = refl
found id n (op ∷ ops) = grind (arith, common_steps, found id (n + 1) ops)

pub taken_where_placed : (id : ℕ) (ops : List Operation) → is_some (place_of id ops) ≡ is_taken id ops
taken_where_placed id ops = found id 0 ops

pub take-shorter : {X : Type 0} (n m : ℕ) (xs : List X) → n ≤ m → take n (take m xs) ≡ take n xs
take-shorter zero m xs h = refl
take-shorter (suc n) zero xs h = absurd (omega arith)
take-shorter (suc n) (suc m) [] h = refl
take-shorter (suc n) (suc m) (x ∷ xs) h = ap (λ ys. x ∷ ys) (take-shorter n m xs (omega arith))

-- a part with one operation more
pub slice_range-more : (ops : List Operation) (from at : ℕ) (op : Operation) → from ≤ at → at < length ops → op ≡ get_or ops at op → slice_range ops from (at + 1) ≡ slice_range ops from at ++ op ∷ []
slice_range-more ops from at op le lt is =
    let long = length-drop from ops in
    let next : at + 1 - from ≡ at - from + 1 = omega arith in
    let place : from + (at - from) ≡ at = omega arith in
    ap (λ n. take n (drop from ops)) next
    ∙ take_more (drop from ops) (at - from) op (omega arith)
    ∙ ap (λ x. take (at - from) (drop from ops) ++ x ∷ []) (get_or-drop from ops (at - from) op ∙ ap (λ k. get_or ops k op) place ∙ sym is)

pub slice_range-none : (ops : List Operation) (at : ℕ) → slice_range ops at at ≡ []
slice_range-none ops at = let none : at - at ≡ zero = omega arith in ap (λ n. take n (drop at ops)) none

-- a part with operations more
pub slice_range-further : (ops : List Operation) (from at few : ℕ) → from ≤ at → slice_range ops from (at + few) ≡ slice_range ops from at ++ take few (drop at ops)
slice_range-further ops from at few le =
    let parts : at + few - from ≡ at - from + few = omega arith in
    let there : from + (at - from) ≡ at = omega arith in
    ap (λ n. take n (drop from ops)) parts ∙ take-add (at - from) few (drop from ops) ∙ ap (λ xs. take (at - from) (drop from ops) ++ take few xs) (drop-drop (at - from) from ops ∙ ap (λ n. drop n ops) there)

-- operations that stand side by side are the next ones
pub next-ones : (ops next : List Operation) (at few : ℕ) → next ≡ take (length next) (drop at ops) → few ≤ length next → take few next ≡ take few (drop at ops)
next-ones ops next at few is le = ap (take few) is ∙ take-shorter few (length next) (drop at ops) le

pub next-within : (ops next : List Operation) (at : ℕ) → next ≡ take (length next) (drop at ops) → at ≤ length ops → at + length next ≤ length ops
next-within ops next at is le = omega (arith, ap length is, length-take (length next) (drop at ops), length-drop at ops)
