-- Operations of an edited trace that come from a stretch of the old one.
use Rattle.std.proofs.Common.{◌≡◌, ℕ, ◌+◌, ◌-◌, ◌<◌, ◌≤◌, List, [], ◌++◌, length, take, drop, get_or, refl, ap, sym, ◌∙◌, arith, length-append, length-drop}
use Rattle.std.specs.Prelude.{slice_range, Some}
use Rattle.std.proofs.Math.Seq.{take-add}
use Rattle.std.proofs.lemmas.List.{take_at, get_or-drop}
use Rattle.trace_types.specs.Operation.{Operation}
use Rattle.ownership_model.specs.State.{State, nothing_held}
use Rattle.ownership_model.specs.Step.{end_from}
use Rattle.run_engine.specs.declared.replay.progress.Fork.{Fork}
use Rattle.run_engine.specs.declared.replay.revision.Revision.{Revision}
use Rattle.run_engine.specs.SegmentView.{SegmentView}
use Rattle.run_engine.specs.inner.OldRun.{old_trace, new_trace}
use Rattle.run_engine.specs.inner.Divergence.{IsFork}
use Rattle.run_engine.specs.Segments.{ops_of, trace_of, marks_from}
use Rattle.run_engine.specs.HeadAndTail.{AreAlike}
use Rattle.run_engine.proofs.SegmentLemmas.{trace_of-append, length-trace_of-next}
use Rattle.run_engine.proofs.PieceLemmas.{mark-is}
use Rattle.run_engine.proofs.PlaceLemmas.{trace_of-parted, trace_of-prefix, trace_of-back}
use Rattle.run_engine.proofs.ListingLemmas.{take-shorter}
use Rattle.run_engine.proofs.HeadAndTailLemmas.{alike-part}

-- a stretch has no more operations than all segments
pub stretch-few : (old : List SegmentView) (i n : ℕ) → length (trace_of (take n (drop i old))) ≤ length (trace_of old)
stretch-few old i n =
    let outer : length (trace_of (take i old)) + length (trace_of (drop i old)) ≡ length (trace_of old) = sym (length-append (trace_of (take i old)) (trace_of (drop i old))) ∙ ap length (trace_of-parted old i) in
    let inner : length (trace_of (take n (drop i old))) + length (trace_of (drop n (drop i old))) ≡ length (trace_of (drop i old)) =
    sym (length-append (trace_of (take n (drop i old))) (trace_of (drop n (drop i old)))) ∙ ap length (trace_of-parted (drop i old) n) in
    omega arith

pub stretch-ops : (old : List SegmentView) (ops : List Operation) (i n from here len at to : ℕ) → AreAlike (trace_of old) ops at from here len → length (trace_of (take i old)) ≡ from + (at - here)
    → length (trace_of (take n (drop i old))) ≤ len - (at - here) → length (trace_of (take n (drop i old))) ≤ to - at
    → trace_of (take n (drop i old)) ≡ take (length (trace_of (take n (drop i old)))) (slice_range ops at to)
stretch-ops old ops i n from here len at to h place few short =
    let s : List Operation = trace_of (take n (drop i old)) in
    let first = h.here in
    let before = h.before in
    let there : here + (at - here) ≡ at = omega arith in
    sym (take_at s (trace_of (drop n (drop i old))) (length s) refl) ∙ ap (take (length s)) (trace_of-parted (drop i old) n ∙ trace_of-back old i (from + (at - here)) place)
    ∙ alike-part (trace_of old) ops at from here len (at - here) (length s) h (omega arith) ∙ ap (λ m. take (length s) (drop m ops)) there
    ∙ sym (take-shorter (length s) (to - at) (drop at ops) short)

-- where the old run stands behind a stretch
pub stretch-behind : (old stretch : List SegmentView) (i j at len : ℕ) → i ≤ j → stretch ≡ slice_range old i j → length (trace_of (take i old)) ≡ at → len ≡ length (trace_of stretch)
    → length (trace_of (take j old)) ≡ at + len
stretch-behind old stretch i j at len order is place long =
    let n : j ≡ i + (j - i) = omega arith in
    ap (λ m. length (trace_of (take m old))) n
    ∙ ap (λ ss. length (trace_of ss)) (take-add i (j - i) old ∙ ap (λ ss. take i old ++ ss) (sym is))
    ∙ ap length (trace_of-append (take i old) stretch)
    ∙ length-append (trace_of (take i old)) (trace_of stretch)
    ∙ ap (λ m. m + length (trace_of stretch)) place ∙ ap (λ m. at + m) (sym long)

-- where both replays have one heap, it is that of the old checkpoint there
pub fork-mark : (r : Revision) (fork : Fork) (i at base : ℕ) (s : SegmentView) (heap mark : State) → IsFork r fork → (fork.edited ≡ at) × (fork.base ≡ base) → heap ≡ end_from nothing_held (take at (new_trace r))
    → length (trace_of (take i r.segments.now)) ≡ base → i < length r.segments.now → s ≡ get_or r.segments.now i s → Some mark ≡ s.mark → mark ≡ heap
fork-mark r fork i at base s heap mark same there is place lt segment marked =
    mark-is r.segments.now i s mark r.holds.kept.run.replay lt segment marked
    ∙ ap (end_from nothing_held) (trace_of-prefix r.segments.now i base place ∙ ap (λ n. take n (old_trace r)) (sym there.1))
    ∙ sym same ∙ ap (λ n. end_from nothing_held (take n (new_trace r))) there.0 ∙ sym is

-- the segments from `from` to j have no checkpoint behind the first's, and at most so many operations, but 64 at least, if there are any
pub record IsPartTo (segments : List SegmentView) (from most j : ℕ) : Type 0 where
  pub order : from ≤ j
  pub within : j ≤ length segments
  pub bare : (at : ℕ) → marks_from at (take (j - (from + 1)) (drop (from + 1) segments)) ≡ []
  pub fits : length (trace_of (slice_range segments from j)) ≤ most
  pub many : from < j → 64 ≤ length (trace_of (slice_range segments from j))

-- no segments
pub no-length : (segments : List SegmentView) (from : ℕ) → length (trace_of (slice_range segments from from)) ≡ 0
no-length segments from = let none : from - from ≡ 0 = omega arith in ap (λ n. length (trace_of (take n (drop from segments)))) none

pub bare-none : (segments : List SegmentView) (from n at : ℕ) → n ≡ 0 → marks_from at (take n (drop from segments)) ≡ []
bare-none segments from n at none = ap (λ n. marks_from at (take n (drop from segments))) none

pub IsPartTo-none : (segments : List SegmentView) (from most : ℕ) → from ≤ length segments → IsPartTo segments from most from
IsPartTo-none segments from most within =
    let none = no-length segments from in
    record {
      order = omega arith;
      within = within;
      bare = λ at. bare-none segments (from + 1) (from - (from + 1)) at (omega arith);
      fits = omega arith;
      many = λ lt. omega arith;
    }

-- a segment more
pub length-next : (segments : List SegmentView) (from i len : ℕ) (s : SegmentView) (ops : List Operation) → length (trace_of (slice_range segments from i)) ≡ len → from ≤ i → i < length segments
    → s ≡ get_or segments i s → ops ≡ s.ops → length (trace_of (slice_range segments from (i + 1))) ≡ len + length ops
length-next segments from i len s ops long le lt is same =
    let back : from + (i - from) ≡ i = omega arith in
    let next : i + 1 - from ≡ i - from + 1 = omega arith in
    let here : s ≡ get_or (drop from segments) (i - from) s = is ∙ ap (λ n. get_or segments n s) (sym back) ∙ sym (get_or-drop from segments (i - from) s) in
    ap (λ n. length (trace_of (take n (drop from segments)))) next
    ∙ length-trace_of-next (drop from segments) (i - from) s (omega (arith, length-drop from segments)) here
    ∙ ap (λ n. n + length (ops_of s)) long ∙ ap (λ xs. len + length xs) (sym same)
