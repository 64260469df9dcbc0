-- The names of checkpoints.
use Rattle.std.proofs.Common.{◌≡◌, ℕ, zero, suc, ◌+◌, ◌-◌, ◌<◌, Bool, true, false, cond, ◌≤◌, List, [], ◌∷◌, ◌++◌, length, take, drop, get_or, refl, ap, sym, ◌∙◌, arith, zero-add, lt-ltb, append_assoc, length-append, take-append-drop}
use Rattle.std.proofs.lemmas.List.{length-take-le}
use Rattle.std.specs.Prelude.{Option, None, Some, IfSome, filter_map, slice_get, option_map, option_to_list}
use Rattle.trace_types.specs.Operation.{Operation}
use Rattle.run_engine.specs.GivenUp.{name_at, names_at}
use Rattle.run_engine.specs.SegmentView.{SegmentView}
use Rattle.run_engine.specs.Segments.{ops_of, trace_of}
use Rattle.run_engine.specs.inner.Cleared.{last_name}
use Rattle.run_engine.proofs.SegmentLemmas.{trace_of-next}
use Rattle.run_engine.proofs.PlaceLemmas.{trace_of-parted}

pub name_at-behind : (ops : List Operation) (n : ℕ) → 0 < n → name_at ops n ≡ option_map (λ (op : Operation). op.id) (slice_get ops (n - 1))
name_at-behind ops zero h = absurd (omega arith)
name_at-behind ops (suc n) h = let less : suc n - 1 ≡ n = omega arith in ap (λ i. option_map (λ (op : Operation). op.id) (slice_get ops i)) (sym less)

slice_get-behind : (xs ys : List Operation) (j : ℕ) → slice_get (xs ++ ys) (length xs + j) ≡ slice_get ys j
slice_get-behind [] ys j = ap (slice_get ys) (zero-add j)
slice_get-behind (x ∷ xs) ys j = let next : suc (length xs) + j ≡ suc (length xs + j) = omega arith in ap (slice_get (x ∷ (xs ++ ys))) next ∙ slice_get-behind xs ys j

slice_get-prefix : (xs ys : List Operation) (j : ℕ) → j < length xs → slice_get (xs ++ ys) j ≡ slice_get xs j
slice_get-prefix [] ys j h = absurd (omega arith)
slice_get-prefix (x ∷ xs) ys zero h = refl
slice_get-prefix (x ∷ xs) ys (suc j) h = slice_get-prefix xs ys j (omega arith)

-- the last operation of a part names the checkpoint behind it
pub last-name : (xs ys zs : List Operation) → 0 < length ys → name_at (xs ++ (ys ++ zs)) (length xs + length ys) ≡ option_map (λ (op : Operation). op.id) (slice_get ys (length ys - 1))
last-name xs ys zs some =
    let place : length xs + length ys - 1 ≡ length xs + (length ys - 1) = omega arith in
    name_at-behind (xs ++ (ys ++ zs)) (length xs + length ys) (omega arith)
    ∙ ap (option_map (λ (op : Operation). op.id)) (ap (slice_get (xs ++ (ys ++ zs))) place ∙ slice_get-behind xs (ys ++ zs) (length ys - 1) ∙ slice_get-prefix ys zs (length ys - 1) (omega arith))

one-name : (h : ℕ → Option ℕ) (p : ℕ) (o : Option ℕ) → h p ≡ o → filter_map h (p ∷ []) ≡ option_to_list o
one-name h p None is = rw is refl
one-name h p (Some x) is = rw is refl

-- the name of one inner checkpoint, where it stands between
pub due-name : (trace : List Operation) (at : ℕ) (due : Bool) → at < length trace → names_at trace (cond due (at ∷ []) []) ≡ cond due (option_to_list (name_at trace at)) []
due-name trace at true lt = ap (λ b. filter_map (name_at trace) (cond b (at ∷ []) [])) (lt-ltb at (length trace) lt) ∙ one-name (name_at trace) at (name_at trace at) refl
due-name trace at false lt = refl

-- the last operation of a segment names the checkpoint behind it, where the segments' operations stand from a position on
pub named-behind : (ops : List Operation) (from : ℕ) (segments : List SegmentView) (i : ℕ) (s : SegmentView) (id : ℕ) → from ≤ length ops → take (length (trace_of segments)) (drop from ops) ≡ trace_of segments
    → i < length segments → s ≡ get_or segments i s → last_name (ops_of s) ≡ Some id → name_at ops (from + length (trace_of (take i segments)) + length (ops_of s)) ≡ Some id
named-behind ops from segments i s id within there lt is named =
    let part : List Operation = ops_of s in
    let before : List Operation = trace_of (take i segments) in
    let behind : List Operation = trace_of (drop (i + 1) segments) in
    let rest : List Operation = drop (length (trace_of segments)) (drop from ops) in
    let parted : trace_of segments ≡ (before ++ part) ++ behind = sym (trace_of-parted segments (i + 1)) ∙ ap (λ xs. xs ++ behind) (trace_of-next segments i s lt is) in
    let later : drop from ops ≡ trace_of segments ++ rest = sym (take-append-drop (length (trace_of segments)) (drop from ops)) ∙ ap (λ xs. xs ++ rest) there in
    let whole : ops ≡ (take from ops ++ before) ++ (part ++ (behind ++ rest)) =
    sym (take-append-drop from ops) ∙ ap (λ xs. take from ops ++ xs) (later ∙ ap (λ xs. xs ++ rest) parted)
    ∙ ap (λ xs. take from ops ++ xs) (append_assoc (before ++ part) behind rest ∙ append_assoc before part (behind ++ rest))
    ∙ sym (append_assoc (take from ops) before (part ++ (behind ++ rest))) in
    let long : length (take from ops ++ before) ≡ from + length before = length-append (take from ops) before ∙ ap (λ n. n + length before) (length-take-le from ops within) in
    let some : 0 < length part = some-named part id named in
    ap (λ xs. name_at xs (from + length before + length part)) whole
    ∙ ap (λ n. name_at ((take from ops ++ before) ++ (part ++ (behind ++ rest))) (n + length part)) (sym long)
    ∙ last-name (take from ops ++ before) part (behind ++ rest) some ∙ named
  where
    some-named : (part : List Operation) (id : ℕ) → last_name part ≡ Some id → 0 < length part
    some-named [] id named = absurd cc
    some-named (op ∷ part) id named = omega arith

-- the same of a number that may be known, where the next segment begins
pub named-next : (ops : List Operation) (from : ℕ) (segments : List SegmentView) (i at : ℕ) (s : SegmentView) (before : Option ℕ) → from ≤ length ops → take (length (trace_of segments)) (drop from ops) ≡ trace_of segments
    → i < length segments → s ≡ get_or segments i s → before ≡ last_name (ops_of s) → at ≡ from + length (trace_of (take i segments)) → IfSome before (λ id. name_at ops (at + length (ops_of s)) ≡ Some id)
named-next ops from segments i at s None within there lt is last place = tt
named-next ops from segments i at s (Some id) within there lt is last place =
    ap (λ n. name_at ops (n + length (ops_of s))) place ∙ named-behind ops from segments i s id within there lt is (sym last)
