-- Operations in parts.
use Rattle.std.proofs.Common.{◌≡◌, ℕ, ◌+◌, ◌<◌, ◌≤◌, List, [], ◌∷◌, ◌++◌, length, take, drop, get_or, refl, ap, sym, ◌∙◌, arith, length-append, take-append-drop}
use Rattle.std.proofs.lemmas.List.{append-nil, take_more, take_at, drop-append-le}
use Rattle.std.proofs.lemmas.List.Concat.{flat_map-append}
use Rattle.std.proofs.Math.Seq.{drop-append-add}
use Rattle.trace_types.specs.Operation.{Operation}
use Rattle.run_engine.specs.inner.Parts.{AreBetween, joined}
use Rattle.run_engine.proofs.ListingLemmas.{around}

pub joined-append : {X : Type 0} → (a b : List (List X)) → joined (a ++ b) ≡ joined a ++ joined b
joined-append {X} a b = flat_map-append (λ (part : List X). part) a b

pub joined-one : {X : Type 0} → (a : List (List X)) (p : List X) → joined (a ++ p ∷ []) ≡ joined a ++ p
joined-one a p = joined-append a (p ∷ []) ∙ ap (λ ops. joined a ++ ops) (append-nil p)

pub joined-next : {X : Type 0} → (parts : List (List X)) (i : ℕ) (p : List X) → i < length parts → p ≡ get_or parts i p → joined (take (i + 1) parts) ≡ joined (take i parts) ++ p
joined-next parts i p lt is = ap joined (take_more parts i p lt ∙ ap (λ q. take i parts ++ q ∷ []) (sym is)) ∙ joined-one (take i parts) p

-- all that comes before the part at i, the part, and the rest
pub joined-around : {X : Type 0} → (parts : List (List X)) (i : ℕ) (p : List X) → i < length parts → p ≡ get_or parts i p → joined parts ≡ joined (take i parts) ++ (p ++ joined (drop (i + 1) parts))
joined-around parts i p lt is = ap joined (sym (take-append-drop i parts) ∙ ap (λ ps. take i parts ++ ps) (around parts i p lt is)) ∙ joined-append (take i parts) (p ∷ drop (i + 1) parts)

pub joined-few : {X : Type 0} → (parts : List (List X)) (i : ℕ) → length (joined (take i parts)) ≤ length (joined parts)
joined-few parts i =
    let whole : length (joined (take i parts)) + length (joined (drop i parts)) ≡ length (joined parts) =
    sym (length-append (joined (take i parts)) (joined (drop i parts))) ∙ ap length (sym (joined-append (take i parts) (drop i parts)) ∙ ap joined (take-append-drop i parts)) in
    omega arith

pub joined-from : {X : Type 0} → (parts : List (List X)) (i rest place : ℕ) (p : List X) → i < length parts → p ≡ get_or parts i p → length (joined (take i parts)) + rest ≡ place → rest ≤ length p
    → drop rest p ≡ take (length (drop rest p)) (drop place (joined parts))
joined-from parts i rest place p lt is at le =
    sym (ap (λ n. take (length (drop rest p)) (drop n (joined parts))) (sym at)
    ∙ ap (λ ops. take (length (drop rest p)) (drop (length (joined (take i parts)) + rest) ops)) (joined-around parts i p lt is)
    ∙ ap (take (length (drop rest p))) (drop-append-add (joined (take i parts)) (p ++ joined (drop (i + 1) parts)) rest ∙ drop-append-le rest p (joined (drop (i + 1) parts)) le)
    ∙ take_at (drop rest p) (joined (drop (i + 1) parts)) (length (drop rest p)) refl)

-- wider bounds, and one operation more
pub between-more : (least greatest low high : ℕ) (ops : List Operation) (op : Operation) → low ≤ least → greatest ≤ high → low ≤ op.id → op.id ≤ high → AreBetween least greatest ops → AreBetween low high (ops ++ op ∷ [])
between-more least greatest low high [] op a b c d h = (c, d, tt)
between-more least greatest low high (o ∷ ops) op a b c d h =
    let low_o = h.0 in
    let high_o = h.1 in
    (omega arith, omega arith, between-more least greatest low high ops op a b c d h.2)
