-- The old stretches that a replay goes over anew, as chunks.
use Rattle.std.proofs.Common.{◌≡◌, ℕ, ◌+◌, ◌-◌, ◌<◌, ◌≤◌, List, [], ◌∷◌, ◌++◌, length, take, drop, get_or, ap, sym, subst, ◌∙◌, arith}
use Rattle.std.specs.Prelude.{IsTrue, Some}
use Rattle.std.proofs.lemmas.List.{append-nil, take_more}
use Rattle.trace_types.specs.Operation.{Operation}
use Rattle.trace_types.specs.Trace.{has_distinct_numbers}
use Rattle.ownership_model.specs.State.{State, nothing_held}
use Rattle.ownership_model.specs.Step.{end_from, outcomes_from, AreUnused}
use Rattle.ownership_model.proofs.LawsHold.{appends}
use Rattle.op_step.specs.Chunk.{IsReplayOf}
use Rattle.run_engine.specs.SegmentView.{SegmentView}
use Rattle.run_engine.specs.Segments.{ops_of, trace_of, AreKeysFrom, IsKept}
use Rattle.run_engine.proofs.ListingLemmas.{around}
use Rattle.run_engine.proofs.SegmentLemmas.{trace_of-append, length-trace_of-next}
use Rattle.run_engine.proofs.PieceLemmas.{mark-is, segment-at, unused-behind}
use Rattle.run_engine.proofs.PlaceLemmas.{trace_of-parted, trace_of-prefix}

-- one segment more
trace-next : (old : List SegmentView) (i : ℕ) (s : SegmentView) → i < length old → s ≡ get_or old i s → trace_of (take (i + 1) old) ≡ trace_of (take i old) ++ s.ops
trace-next old i s lt is =
    ap trace_of (take_more old i s lt ∙ ap (λ t. take i old ++ t ∷ []) (sym is))
    ∙ trace_of-append (take i old) (s ∷ [])
    ∙ ap (λ ops. trace_of (take i old) ++ ops) (append-nil (ops_of s))

-- the operations of a segment of a run, from the state where it begins to the one behind it
segment-chunk : (old : List SegmentView) (end start after : State) (i : ℕ) (s : SegmentView) → IsKept old end → i < length old → s ≡ get_or old i s
    → start ≡ end_from nothing_held (trace_of (take i old)) → after ≡ end_from nothing_held (trace_of (take (i + 1) old))
    → IsReplayOf (record { start = start; ops = s.ops }) s.outcomes after
segment-chunk old end start after i s kept lt is begins ends =
    let m : State = end_from nothing_held (trace_of (take i old)) in
    let more : List Operation = trace_of (drop (i + 1) old) in
    let rest : trace_of (drop i old) ≡ s.ops ++ more = ap trace_of (around old i s lt is) in
    let parted : IsTrue (has_distinct_numbers (trace_of (take i old) ++ trace_of (drop i old))) = subst (λ ops. IsTrue (has_distinct_numbers ops)) (sym (trace_of-parted old i)) kept.trace.distinct in
    let whole : IsTrue (has_distinct_numbers (s.ops ++ more)) = subst (λ ops. IsTrue (has_distinct_numbers ops)) rest (appends.distinct_rest (trace_of (take i old)) (trace_of (drop i old)) parted) in
    let unused : AreUnused m (s.ops ++ more) = subst (AreUnused m) rest (unused-behind (trace_of (take i old)) (trace_of (drop i old)) parted) in
    record {
      distinct = appends.distinct_front s.ops more whole;
      unused = subst (λ n. AreUnused n s.ops) (sym begins) (appends.unused_front m s.ops more unused);
      outcomes_are = subst (λ n. s.outcomes ≡ outcomes_from n s.ops) (sym begins) (segment-at nothing_held old i s kept.run.replay lt is).outcomes;
      end_is = ends ∙ ap (end_from nothing_held) (trace-next old i s lt is) ∙ appends.end nothing_held (trace_of (take i old)) s.ops ∙ ap (λ n. end_from n s.ops) (sym begins);
    }

-- the keys that were told of them
segment-keys : (old : List SegmentView) (end start : State) (i : ℕ) (s : SegmentView) → IsKept old end → i < length old → s ≡ get_or old i s
    → start ≡ end_from nothing_held (trace_of (take i old)) → AreKeysFrom start s.keys s.ops s.outcomes
segment-keys old end start i s kept lt is begins =
    subst (λ n. AreKeysFrom n s.keys s.ops s.outcomes) (sym begins) (segment-at nothing_held old i s kept.run.replay lt is).keys

-- a segment of a run stands before the one at an index, which begins at a position
pub record IsBefore (old : List SegmentView) (end : State) (index at : ℕ) (s : SegmentView) : Type 0 where
  pub kept : IsKept old end
  pub within : index ≤ length old
  pub some : index ≡ 0 → ⊥
  pub is : s ≡ get_or old (index - 1) s
  pub place : length (trace_of (take index old)) ≡ at

before-within : (old : List SegmentView) (end : State) (index at : ℕ) (s : SegmentView) → IsBefore old end index at s → index - 1 < length old
before-within old end index at s h = omega (arith, h.within, h.some)

before-next : (old : List SegmentView) (end : State) (index at : ℕ) (s : SegmentView) → IsBefore old end index at s → index - 1 + 1 ≡ index
before-next old end index at s h = omega (arith, h.some)

-- so many operations stand before it
pub before-begins : (old : List SegmentView) (end : State) (index at n : ℕ) (s : SegmentView) → IsBefore old end index at s → n ≡ length s.ops → length (trace_of (take (index - 1) old)) + n ≡ at
before-begins old end index at n s h long =
    ap (λ m. length (trace_of (take (index - 1) old)) + m) long
    ∙ sym (length-trace_of-next old (index - 1) s (before-within old end index at s h) h.is)
    ∙ ap (λ j. length (trace_of (take j old))) (before-next old end index at s h)
    ∙ h.place

-- its checkpoint
pub before-mark : (old : List SegmentView) (end mark : State) (index at : ℕ) (s : SegmentView) → IsBefore old end index at s → Some mark ≡ s.mark → mark ≡ end_from nothing_held (trace_of (take (index - 1) old))
before-mark old end mark index at s h marked = mark-is old (index - 1) s mark h.kept.run.replay (before-within old end index at s h) h.is marked

-- the same by its position
pub before-there : (old : List SegmentView) (end mark : State) (index at n from : ℕ) (s : SegmentView) → IsBefore old end index at s → n ≡ length s.ops → Some mark ≡ s.mark → at - n ≡ from
    → end_from nothing_held (take from (trace_of old)) ≡ mark
before-there old end mark index at n from s h long marked is =
    let place : length (trace_of (take (index - 1) old)) ≡ from = omega (arith, before-begins old end index at n s h long, is) in
    sym (before-mark old end mark index at s h marked ∙ ap (end_from nothing_held) (trace_of-prefix old (index - 1) from place))

-- its operations are a chunk
pub before-chunk : (old : List SegmentView) (end mark start after : State) (index at : ℕ) (s : SegmentView) → IsBefore old end index at s → Some mark ≡ s.mark → start ≡ mark → after ≡ end_from nothing_held (take at (trace_of old))
    → IsReplayOf (record { start = start; ops = s.ops }) s.outcomes after
before-chunk old end mark start after index at s h marked same is =
    segment-chunk old end start after (index - 1) s h.kept (before-within old end index at s h) h.is (same ∙ before-mark old end mark index at s h marked)
    (is ∙ ap (end_from nothing_held) (sym (trace_of-prefix old index at h.place)) ∙ ap (λ j. end_from nothing_held (trace_of (take j old))) (sym (before-next old end index at s h)))

pub before-keys : (old : List SegmentView) (end mark start : State) (index at : ℕ) (s : SegmentView) → IsBefore old end index at s → Some mark ≡ s.mark → start ≡ mark → AreKeysFrom start s.keys s.ops s.outcomes
before-keys old end mark start index at s h marked same =
    segment-keys old end start (index - 1) s h.kept (before-within old end index at s h) h.is (same ∙ before-mark old end mark index at s h marked)
