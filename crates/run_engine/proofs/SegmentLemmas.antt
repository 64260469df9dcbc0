-- Segments one after another.
use Rattle.std.proofs.Common.{◌≡◌, ℕ, ◌+◌, ◌<◌, ◌≤◌, suc, zero, ◌-◌, get_or, set, drop-cons, List, [], ◌∷◌, ◌++◌, length, take, drop, refl, ap, sym, subst, ◌∙◌, arith, append_assoc, length-append, add-zero}
use Rattle.std.specs.Prelude.{Option, None, Some, slice_get}
use Rattle.std.proofs.Math.Nat.{sub-zero}
use Rattle.std.proofs.lemmas.List.{append-nil, take_more}
use Rattle.trace_types.specs.Operation.{Operation}
use Rattle.trace_types.specs.declared.outcomes.Outcome.{Outcome}
use Rattle.ownership_model.specs.State.{State}
use Rattle.ownership_model.specs.declared.key.Key.{Key}
use Rattle.ownership_model.specs.Alike.{AreWithin}
use Rattle.ownership_model.specs.Footprint.{footprints_from, moved_from}
use Rattle.heap_difference.specs.KeySets.{is_among, set_of}
use Rattle.heap_difference.specs.Naming.{with_names}
use Rattle.run_engine.specs.SegmentView.{SegmentView}
use Rattle.ownership_model.specs.Step.{end_from, outcomes_from}
use Rattle.run_engine.specs.Segments.{ops_of, trace_of, mark_here, marks_from, AreKeysFrom, AreReplayFrom, outcomes_in, without_mark}
use Rattle.run_engine.specs.inner.Touching.{TouchTheSame}
use Rattle.ownership_model.proofs.LawsHold.{appends}

pub trace_of-append : (a b : List SegmentView) → trace_of (a ++ b) ≡ trace_of a ++ trace_of b
trace_of-append [] b = refl
trace_of-append (s ∷ a) b = ap (λ ops. ops_of s ++ ops) (trace_of-append a b) ∙ sym (append_assoc (ops_of s) (trace_of a) (trace_of b))

pub marks_from-append : (at : ℕ) (a b : List SegmentView) → marks_from at (a ++ b) ≡ marks_from at a ++ marks_from (at + length (trace_of a)) b
marks_from-append at [] b = ap (λ p. marks_from p b) (sym (add-zero at))
marks_from-append at (s ∷ a) b =
    let place : at + length (ops_of s) + length (trace_of a) ≡ at + length (ops_of s ++ trace_of a) = omega (arith, length-append (ops_of s) (trace_of a)) in
    ap (λ ps. mark_here at s.mark ++ ps) (marks_from-append (at + length (ops_of s)) a b ∙ ap (λ p. marks_from (at + length (ops_of s)) a ++ marks_from p b) place)
    ∙ sym (append_assoc (mark_here at s.mark) (marks_from (at + length (ops_of s)) a) (marks_from (at + length (ops_of s ++ trace_of a)) b))

pub AreReplayFrom-append : (m : State) (a b : List SegmentView) → AreReplayFrom m a → AreReplayFrom (end_from m (trace_of a)) b → AreReplayFrom m (a ++ b)
AreReplayFrom-append m [] b h k = k
AreReplayFrom-append m (s ∷ a) b h k =
    (h.0, AreReplayFrom-append (end_from m (ops_of s)) a b h.1 (subst (λ n. AreReplayFrom n b) (appends.end m (ops_of s) (trace_of a)) k))

pub AreReplayFrom-prefix : (m : State) (a b : List SegmentView) → AreReplayFrom m (a ++ b) → AreReplayFrom m a
AreReplayFrom-prefix m [] b h = tt
AreReplayFrom-prefix m (s ∷ a) b h = (h.0, AreReplayFrom-prefix (end_from m (ops_of s)) a b h.1)

pub AreReplayFrom-back : (m : State) (a b : List SegmentView) → AreReplayFrom m (a ++ b) → AreReplayFrom (end_from m (trace_of a)) b
AreReplayFrom-back m [] b h = h
AreReplayFrom-back m (s ∷ a) b h = subst (λ n. AreReplayFrom n b) (sym (appends.end m (ops_of s) (trace_of a))) (AreReplayFrom-back (end_from m (ops_of s)) a b h.1)

pub outcomes_in-replay : (m : State) (segments : List SegmentView) → AreReplayFrom m segments → outcomes_in segments ≡ outcomes_from m (trace_of segments)
outcomes_in-replay m [] h = refl
outcomes_in-replay m (s ∷ segments) h =
    ap (λ os. os ++ outcomes_in segments) h.0.outcomes
    ∙ ap (λ os. outcomes_from m (ops_of s) ++ os) (outcomes_in-replay (end_from m (ops_of s)) segments h.1)
    ∙ sym (appends.outcomes m (ops_of s) (trace_of segments))

slice_get-append_left : {X : Type 0} (xs ys : List X) (i : ℕ) → i < length xs → slice_get (xs ++ ys) i ≡ slice_get xs i
slice_get-append_left [] ys i h = absurd (omega arith)
slice_get-append_left (x ∷ xs) ys zero h = refl
slice_get-append_left (x ∷ xs) ys (suc i) h = slice_get-append_left xs ys i (omega arith)

pub slice_get-append_right : {X : Type 0} (xs ys : List X) (i : ℕ) → length xs ≤ i → slice_get (xs ++ ys) i ≡ slice_get ys (i - length xs)
slice_get-append_right [] ys i h = ap (slice_get ys) (sym (sub-zero i))
slice_get-append_right (x ∷ xs) ys zero h = absurd (omega arith)
slice_get-append_right (x ∷ xs) ys (suc i) h = slice_get-append_right xs ys i (omega arith) ∙ ap (slice_get ys) (omega arith)

-- the outcome at i, where the loop stands at segment j
pub outcome-here : (segments : List SegmentView) (j rest : ℕ) (s : SegmentView) → j < length segments → s ≡ get_or segments j s → rest < length s.outcomes → slice_get (outcomes_in (drop j segments)) rest ≡ slice_get s.outcomes rest
outcome-here segments j rest s h is lt =
    ap (λ ss. slice_get (outcomes_in ss) rest) (drop-cons segments j s h ∙ ap (λ t. t ∷ drop (suc j) segments) (sym is))
    ∙ slice_get-append_left s.outcomes (outcomes_in (drop (suc j) segments)) rest lt

pub trace_of-without_mark : (segments : List SegmentView) (i : ℕ) → trace_of (without_mark segments i) ≡ trace_of segments
trace_of-without_mark [] i = refl
trace_of-without_mark (s ∷ segments) zero = refl
trace_of-without_mark (s ∷ segments) (suc i) = ap (λ ops. ops_of s ++ ops) (trace_of-without_mark segments i)

pub AreReplayFrom-without_mark : (m : State) (segments : List SegmentView) (i : ℕ) → AreReplayFrom m segments → AreReplayFrom m (without_mark segments i)
AreReplayFrom-without_mark m [] i h = tt
AreReplayFrom-without_mark m (s ∷ segments) zero h = (record { mark = tt; anchor = h.0.anchor; keys = h.0.keys; outcomes = h.0.outcomes }, h.1)
AreReplayFrom-without_mark m (s ∷ segments) (suc i) h = (h.0, AreReplayFrom-without_mark (end_from m (ops_of s)) segments i h.1)

pub without_mark-set : (segments : List SegmentView) (i : ℕ) (s : SegmentView) → i < length segments → s ≡ get_or segments i s → set segments i (record s { mark = None }) ≡ without_mark segments i
without_mark-set [] i s h is = absurd (omega arith)
without_mark-set (t ∷ segments) zero s h is = ap (λ (u : SegmentView). record u { mark = None } ∷ segments) is
without_mark-set (t ∷ segments) (suc i) s h is = ap (λ ss. t ∷ ss) (without_mark-set segments i s (omega arith) is)

-- where the segment after j begins
pub length-trace_of-next : (segments : List SegmentView) (j : ℕ) (s : SegmentView) → j < length segments → s ≡ get_or segments j s → length (trace_of (take (j + 1) segments)) ≡ length (trace_of (take j segments)) + length (ops_of s)
length-trace_of-next segments j s h is =
    ap (λ ss. length (trace_of ss)) (take_more segments j s h ∙ ap (λ t. take j segments ++ t ∷ []) (sym is))
    ∙ ap length (trace_of-append (take j segments) (s ∷ []) ∙ ap (λ ops. trace_of (take j segments) ++ ops) (append-nil (ops_of s)))
    ∙ length-append (trace_of (take j segments)) (ops_of s)

pub trace_of-next : (segments : List SegmentView) (j : ℕ) (s : SegmentView) → j < length segments → s ≡ get_or segments j s → trace_of (take (j + 1) segments) ≡ trace_of (take j segments) ++ ops_of s
trace_of-next segments j s h is =
    ap trace_of (take_more segments j s h ∙ ap (λ t. take j segments ++ t ∷ []) (sym is))
    ∙ trace_of-append (take j segments) (s ∷ [])
    ∙ ap (λ ops. trace_of (take j segments) ++ ops) (append-nil (ops_of s))

pub outcomes_in-append : (a b : List SegmentView) → outcomes_in (a ++ b) ≡ outcomes_in a ++ outcomes_in b
outcomes_in-append [] b = refl
outcomes_in-append (s ∷ a) b = ap (λ os. s.outcomes ++ os) (outcomes_in-append a b) ∙ sym (append_assoc s.outcomes (outcomes_in a) (outcomes_in b))

pub outcomes_in-next : (segments : List SegmentView) (j : ℕ) (s : SegmentView) → j < length segments → s ≡ get_or segments j s → outcomes_in (take (j + 1) segments) ≡ outcomes_in (take j segments) ++ s.outcomes
outcomes_in-next segments j s h is =
    ap outcomes_in (take_more segments j s h ∙ ap (λ t. take j segments ++ t ∷ []) (sym is))
    ∙ outcomes_in-append (take j segments) (s ∷ [])
    ∙ ap (λ os. outcomes_in (take j segments) ++ os) (append-nil s.outcomes)

-- a segment of a replay has as many outcomes as operations
pub even_at : (m : State) (segments : List SegmentView) (j : ℕ) (s : SegmentView) → AreReplayFrom m segments → j < length segments → s ≡ get_or segments j s → length s.outcomes ≡ length s.ops
even_at m [] j s replay h is = absurd (omega arith)
even_at m (t ∷ segments) zero s replay h is =
    ap (λ (x : SegmentView). length x.outcomes) is ∙ ap length replay.0.outcomes ∙ appends.lengths m t.ops ∙ ap (λ (x : SegmentView). length x.ops) (sym is)
even_at m (t ∷ segments) (suc j) s replay h is = even_at (end_from m (ops_of t)) segments j s replay.1 (omega arith) is

-- keys of operations are theirs from each state from which they touch the same
pub keys-from : (keys : Option (List Key)) (m n : State) (ops : List Operation) (outcomes : List Outcome) → AreKeysFrom m keys ops outcomes → TouchTheSame m n ops → AreKeysFrom n keys ops outcomes
keys-from None m n ops outcomes h same = tt
keys-from (Some k) m n ops outcomes h same =
    subst (AreWithin (is_among (set_of (with_names k ops outcomes)))) (ap (λ touched. touched ++ moved_from m ops) same.footprints ∙ ap (λ more. footprints_from n ops ++ more) same.moved) h
