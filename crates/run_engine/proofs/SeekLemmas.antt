-- What stands at a place among segments.
use Rattle.std.proofs.Common.{◌≡◌, ℕ, zero, suc, ◌+◌, ◌-◌, ◌<◌, ◌≤◌, List, [], ◌∷◌, map, length, take, drop, get_or, ap, sym, subst, ◌∙◌, arith, length-append, take-append-drop}
use Rattle.std.specs.Prelude.{Some, Contains, slice_get}
use mathlib.Core.Logic.{⊎_elim}
use Rattle.std.proofs.lemmas.Bool.{cases_lt}
use Rattle.std.proofs.lemmas.Option.{slice_get_past, slice_get-get_or}
use Rattle.std.proofs.lemmas.List.{take-map, length-map, length-take, length-drop, get_or-map, get_or-take, get_or-drop}
use Rattle.std.proofs.lemmas.List.Elements.{Contains-append_cases}
use Rattle.trace_types.specs.Operation.{Operation}
use Rattle.ownership_model.specs.State.{State, nothing_held}
use Rattle.ownership_model.proofs.LawsHold.{appends}
use Rattle.run_engine.specs.SegmentView.{SegmentView}
use Rattle.run_engine.specs.inner.Parts.{joined}
use Rattle.run_engine.specs.Segments.{ops_of, trace_of, outcomes_in, mark_here, marks_from, AreReplayFrom, IsLastFrom}
use Rattle.run_engine.proofs.SegmentLemmas.{AreReplayFrom-prefix, outcomes_in-append, outcomes_in-replay, outcome-here, slice_get-append_right, even_at, length-trace_of-next}
use Rattle.run_engine.proofs.PartLemmas.{joined-from}
use Rattle.run_engine.proofs.PlaceLemmas.{mark_here-place, marks_from-least}
use Rattle.run_engine.proofs.StartLemmas.{joined-ops}

-- the operations of a segment from a place on
pub ops-there : (segments : List SegmentView) (place i at : ℕ) (s : SegmentView) → i < length segments → s ≡ get_or segments i s → length (trace_of (take i segments)) ≡ at → at ≤ place → place - at ≤ length (ops_of s)
    → drop (place - at) (ops_of s) ≡ take (length (drop (place - at) (ops_of s))) (drop place (trace_of segments))
ops-there segments place i at s lt is there le few =
    let parts : List (List Operation) = map ops_of segments in
    let long : length (joined (take i (map ops_of segments))) ≡ length (trace_of (take i segments)) = ap (λ ps. length (joined ps)) (take-map ops_of i segments) ∙ ap length (joined-ops (take i segments)) in
    joined-from parts i (place - at) place (ops_of s) (omega (arith, length-map segments ops_of)) (ap ops_of is ∙ sym (get_or-map ops_of segments i s (ops_of s) lt)) (omega arith) few
    ∙ ap (λ ops. take (length (drop (place - at) (ops_of s))) (drop place ops)) (joined-ops segments)

-- the operations of a segment that begins at a place
pub ops-whole : (segments : List SegmentView) (place i : ℕ) (s : SegmentView) → i < length segments → s ≡ get_or segments i s → length (trace_of (take i segments)) ≡ place
    → ops_of s ≡ take (length (ops_of s)) (drop place (trace_of segments))
ops-whole segments place i s lt is there =
    let none : place - place ≡ zero = omega arith in
    subst (λ (n : ℕ). drop n (ops_of s) ≡ take (length (drop n (ops_of s))) (drop place (trace_of segments))) none
    (ops-there segments place i place s lt is there (omega arith) (omega arith))

pub even-all : (m : State) (segments : List SegmentView) → AreReplayFrom m segments → length (outcomes_in segments) ≡ length (trace_of segments)
even-all m segments replay = ap length (outcomes_in-replay m segments replay) ∙ appends.lengths m (trace_of segments)

-- the segment that has a place
module _ (segments : List SegmentView) (place i at : ℕ) (s : SegmentView) (last : IsLastFrom segments place i at) (before : place < length (trace_of segments)) (is : s ≡ get_or segments i s) where
  pub rest-inside : place - at < length (ops_of s)
  rest-inside =
      let there = last.place in
      let inside = last.inside before in
      let far = inside.1 in
      let next = length-trace_of-next segments i s inside.0 is in
      let le = last.before in
      omega arith

  -- its outcome
  pub outcome-there : AreReplayFrom nothing_held segments → slice_get (outcomes_in segments) place ≡ slice_get s.outcomes (place - at)
  outcome-there replay =
      let lt = (last.inside before).0 in
      let prefix : List SegmentView = take i segments in
      let there = last.place in
      let le = last.before in
      let less = rest-inside in
      let even = even_at nothing_held segments i s replay lt is in
      let own : AreReplayFrom nothing_held (take i segments) = AreReplayFrom-prefix nothing_held (take i segments) (drop i segments) (subst (AreReplayFrom nothing_held) (sym (take-append-drop i segments)) replay) in
      let many : length (outcomes_in (take i segments)) ≡ at = even-all nothing_held (take i segments) own ∙ there in
      ap (λ (ss : List SegmentView). slice_get (outcomes_in ss) place) (sym (take-append-drop i segments))
      ∙ ap (λ os. slice_get os place) (outcomes_in-append prefix (drop i segments))
      ∙ slice_get-append_right (outcomes_in prefix) (outcomes_in (drop i segments)) place (omega arith)
      ∙ ap (λ (n : ℕ). slice_get (outcomes_in (drop i segments)) (place - n)) many
      ∙ outcome-here segments i (place - at) s lt is (omega arith)

-- where the segment that has a position begins elsewhere no checkpoint stands there
no-mark-from : (from : ℕ) (segments : List SegmentView) (p i at : ℕ) → i < length segments → from + length (trace_of (take i segments)) ≡ at → at ≤ p → (at ≡ p → ⊥) → p < from + length (trace_of (take (suc i) segments))
    → Contains (marks_from from segments) p → ⊥
no-mark-from from [] p i at lt place le ne far h = absurd (omega arith)
no-mark-from from (s ∷ segments) p zero at lt place le ne far h =
    let long = length-append (ops_of s) [] in
    ⊎_elim (λ here. let e : p ≡ from = mark_here-place from p s.mark here in ne (omega arith))
    (λ later. let least : from + length (ops_of s) ≤ p = marks_from-least (from + length (ops_of s)) segments p later in absurd (omega arith))
    (Contains-append_cases (mark_here from s.mark) (marks_from (from + length (ops_of s)) segments) p h)
no-mark-from from (s ∷ segments) p (suc i) at lt place le ne far h =
    let long = length-append (ops_of s) (trace_of (take i segments)) in
    let more = length-append (ops_of s) (trace_of (take (suc i) segments)) in
    ⊎_elim (λ here. let e : p ≡ from = mark_here-place from p s.mark here in ne (omega arith))
    (λ later. no-mark-from (from + length (ops_of s)) segments p i at (omega arith) (omega arith) le ne (omega arith) later)
    (Contains-append_cases (mark_here from s.mark) (marks_from (from + length (ops_of s)) segments) p h)

pub no-mark-inside : (segments : List SegmentView) (p i at : ℕ) → IsLastFrom segments p i at → p < length (trace_of segments) → (at ≡ p → ⊥) → Contains (marks_from 0 segments) p → ⊥
no-mark-inside segments p i at last before ne h =
    let inside = last.inside before in
    let next : i + 1 ≡ suc i = omega arith in
    let far : p < length (trace_of (take (suc i) segments)) = subst (λ (n : ℕ). p < length (trace_of (take n segments))) next inside.1 in
    let there = last.place in
    no-mark-from 0 segments p i at inside.0 (omega arith) last.before ne (omega arith) h

-- the first of the operations that stand from a place on
pub first-there : (all ops : List Operation) (place : ℕ) → ops ≡ take (length ops) (drop place all) → (place < length all → 0 < length ops) → slice_get ops 0 ≡ slice_get all place
first-there all [] place is some = sym (slice_get_past all place (⊎_elim (λ lt. let h : 0 < 0 = some lt in absurd (omega arith)) (λ le. le) (cases_lt place (length all))))
first-there all (o ∷ ops) place is some =
    let lt : place < length all = omega (arith, ap length is, length-take (length (o ∷ ops)) (drop place all), length-drop place all) in
    let n : place + 0 ≡ place = omega arith in
    let here : o ≡ get_or all place o =
    ap (λ xs. get_or xs 0 o) is ∙ get_or-take (length (o ∷ ops)) (drop place all) 0 o (omega arith) ∙ get_or-drop place all 0 o ∙ ap (λ k. get_or all k o) n in
    ap Some here ∙ sym (slice_get-get_or all place o lt)
