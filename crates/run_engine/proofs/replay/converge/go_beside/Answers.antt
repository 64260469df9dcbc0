use Rattle.run_engine.specs.Segments.{all_marks}
use Rattle.run_engine.specs.Guesses.{with_guesses}
use Rattle.run_engine.specs.inner.OldRun.{reusable}
use Rattle.std.proofs.Common.{◌≡◌, ℕ, ◌+◌, ◌-◌, ◌<◌, ◌≤◌, List, [], ◌∷◌, ◌++◌, length, take, drop, true, false, refl, ap, sym, ◌∙◌, arith}
use Rattle.std.specs.Prelude.{is_some}
use Rattle.ownership_model.specs.State.{State, nothing_held}
use Rattle.agreement.specs.Agreement.{Agree}
use Rattle.trace_types.specs.Operation.{Operation}
use Rattle.ownership_model.specs.Step.{end_from}
use Rattle.run_engine.specs.SegmentView.{SegmentView}
use Rattle.run_engine.specs.Segments.{trace_of, marks_from, IsReached, IsRunFrom}
use Rattle.run_engine.specs.HeadAndTail.{ShareEnd}
use Rattle.std.proofs.Math.Seq.{take-length}
use Rattle.run_engine.proofs.SegmentLemmas.{length-trace_of-next, trace_of-append}
use Rattle.run_engine.proofs.PieceLemmas.{mark-is, anchor-is}
use Rattle.run_engine.proofs.PlaceLemmas.{mark-there, place-within, trace_of-prefix}
use Rattle.run_engine.proofs.ConvergeLemmas.{IsBeside-first, IsBeside-next, IsBeside-stays, least-agreeing, bounded, ShareEnd-length, IsRunFrom-back, rest-shared, distinct-back, old-unused, new-unused, AgreesAt-here, AgreesAt-there, IsPast-seam, IsPastMarks-none, trace_of-rises, marked-there, IsSpliced, IsSpliced-rest, IsSpliced-end}
use Rattle.run_engine.proofs.replay.converge.go_beside.Goals.{
  then-is_ahead+in-Some+in_ok-heap+in_ok-come+in_default-found+in_ok-progress,
  then-is_ahead+in_default+then-is_followed+in-Some-anchor+in_ok-heap-2+in_ok-progress-2,
  then-is_ahead+in_default+then-is_followed+in_default-anchor,
  then-is_ahead+in_default+else-is_followed,
  else-is_ahead,
}
use Rattle.run_engine.proofs.MarksLemmas.{all_marks-stop, all_marks-rest, IsReached-length}
use Rattle.run_engine.proofs.LeftLemmas.{left-at-stop, left-at-end}
use Rattle.run_engine.proofs.GiveUpLemmas.{has_mark-at}
use Rattle.run_engine.proofs.GoesOnLemmas.{GoesOn-none, GoesOn-next, GoesOn-steps}
use Rattle.run_engine.specs.Bounds.{AgreesAt}
use Rattle.run_engine.proofs.SteppedLemmas.{AreStepped-stop, AreStepped-end}
use Rattle.run_engine.proofs.replay.converge.go_beside.Goals as goal

-- the place of an old checkpoint in the edited trace
moved-within : (old ops : List Operation) (a b at : ℕ) → ShareEnd old ops a b → at ≤ length old → a ≤ at → at - a + b ≤ length ops
moved-within old ops a b at h le behind = omega (arith, ShareEnd-length old ops a b h, h.old_within, h.within)

pub come_to-requires-clause-may : goal.come_to-requires-clause-may
come_to-requires-clause-may c = record {
  reached = c.loop-i.invariant.beside.reached;
  order = (c.is_ahead.ensures.ahead c.if-is_ahead.true).1;
  within = moved-within _ _ c.args.seam.base c.args.seam.edited c.loop-i.at c.requires.shared (place-within c.args.revision.now.segments.now c.loop-i.i c.loop-i.at c.loop-i.invariant.place.place) (c.is_ahead.ensures.ahead c.if-is_ahead.true).0;
}

pub overflow_add-limits : goal.overflow_add-limits
overflow_add-limits c =
    let le : c.loop-i.at - c.args.seam.base + c.args.seam.edited ≤ length c.args.revision.now.ops.now.ops = moved-within _ _ c.args.seam.base c.args.seam.edited c.loop-i.at c.requires.shared (place-within c.args.revision.now.segments.now c.loop-i.i c.loop-i.at c.loop-i.invariant.place.place) (c.is_ahead.ensures.ahead c.if-is_ahead.true).0 in
    omega (arith, c.args.revision.now.holds.trace.few)

pub overflow_add-at : goal.overflow_add-at
overflow_add-at c =
    let next = length-trace_of-next c.args.revision.now.segments.now c.loop-i.i c.at-segment.result (omega (arith, c.loop-i-test.true, c.len-i-end.ensures)) c.at-segment.ensures in
    let n = ap length c.ops.ensures in
    let le : length (trace_of (take (c.loop-i.i + 1) c.args.revision.now.segments.now)) ≤ length (trace_of c.args.revision.now.segments.now) = place-within c.args.revision.now.segments.now (c.loop-i.i + 1) _ refl in
    omega (arith, c.args.revision.now.holds.kept.trace.few, c.loop-i.invariant.place.place)

pub returns-in_err-come-clause-bound : goal.returns-in_err-come-clause-bound
returns-in_err-come-clause-bound c =
    bounded _ _ _ _ _ _ _ _ _ _ _ _ _ c.loop-i.invariant.place c.requires.shared (c.is_ahead.ensures.ahead c.if-is_ahead.true).0 (omega (arith, c.loop-i.invariant.place.rise, c.come_to.ensures.metered.rise))

pub is_ahead-requires-clause-old : goal.is_ahead-requires-clause-old
is_ahead-requires-clause-old c = omega (arith, place-within c.args.revision.now.segments.now c.loop-i.i c.loop-i.at c.loop-i.invariant.place.place, c.args.revision.now.holds.kept.trace.few)

pub returns-in_err-progress-clause-bound : goal.returns-in_err-progress-clause-bound
returns-in_err-progress-clause-bound c =
    bounded _ _ _ _ _ _ _ _ _ _ _ _ _ c.loop-i.invariant.place c.requires.shared (c.is_ahead.ensures.ahead c.if-is_ahead.true).0 (omega (arith, c.loop-i.invariant.place.rise, c.come_to.ensures.metered.rise))

pub returns-in_err-heap-clause-bound : goal.returns-in_err-heap-clause-bound
returns-in_err-heap-clause-bound c =
    let ahead = c.is_ahead.ensures.ahead c.if-is_ahead.true in
    bounded _ _ _ _ _ _ _ _ _ _ _ _ _ c.loop-i.invariant.place c.requires.shared ahead.0 (omega (arith, c.loop-i.invariant.place.rise, ahead.1))

pub returns-in_err-heap-2-clause-bound : goal.returns-in_err-heap-2-clause-bound
returns-in_err-heap-2-clause-bound c =
    let ahead = c.is_ahead.ensures.ahead c.if-is_ahead.true in
    bounded _ _ _ _ _ _ _ _ _ _ _ _ _ c.loop-i.invariant.place c.requires.shared ahead.0 (omega (arith, c.loop-i.invariant.place.rise, ahead.1))

pub returns-in_err-progress-2-clause-bound : goal.returns-in_err-progress-2-clause-bound
returns-in_err-progress-2-clause-bound c =
    bounded _ _ _ _ _ _ _ _ _ _ _ _ _ c.loop-i.invariant.place c.requires.shared (c.is_ahead.ensures.ahead c.if-is_ahead.true).0 (omega (arith, c.loop-i.invariant.place.rise, c.pass_anchor.ensures.metered.rise))

pub returns-in_err-stop-clause-bound : goal.returns-in_err-stop-clause-bound
returns-in_err-stop-clause-bound c =
    bounded _ _ _ _ _ _ _ _ _ _ _ _ _ c.loop-i.invariant.place c.requires.shared (c.is_ahead.ensures.ahead c.if-is_ahead.true).0 (omega (arith, c.loop-i.invariant.place.rise, c.come_to.ensures.metered.rise))

pub returns-in-Some-found-clause-bound : goal.returns-in-Some-found-clause-bound
returns-in-Some-found-clause-bound c =
    bounded _ _ _ _ _ _ _ _ _ _ _ _ _ c.loop-i.invariant.place c.requires.shared (c.is_ahead.ensures.ahead c.if-is_ahead.true).0 (omega (arith, c.loop-i.invariant.place.rise, c.come_to.ensures.metered.rise))

pub come_to-requires-clause-mark : goal.come_to-requires-clause-mark
come_to-requires-clause-mark c =
    c.in_ok-heap.ensures
    ∙ mark-is c.args.revision.now.segments.now c.loop-i.i c.at-segment.result c.in-Some.mark c.args.revision.now.holds.kept.run.replay (omega (arith, c.loop-i-test.true, c.len-i-end.ensures)) c.at-segment.ensures c.in-Some.ensures
    ∙ ap (end_from nothing_held) (trace_of-prefix c.args.revision.now.segments.now c.loop-i.i c.loop-i.at c.loop-i.invariant.place.place)

pub come_to-requires-clause-run : goal.come_to-requires-clause-run
come_to-requires-clause-run c =
    rw c.in_ok-heap.ensures
    (IsRunFrom-back c.args.revision.now.segments.now c.args.revision.now.end.now c.in-Some.mark c.loop-i.i c.at-segment.result c.args.revision.now.holds.kept.run (omega (arith, c.loop-i-test.true, c.len-i-end.ensures)) c.at-segment.ensures c.in-Some.ensures)

pub come_to-requires-clause-distinct : goal.come_to-requires-clause-distinct
come_to-requires-clause-distinct c = (distinct-back c.args.revision.now.segments.now c.loop-i.i c.args.revision.now.holds.kept.trace.distinct)

pub come_to-requires-clause-unused : goal.come_to-requires-clause-unused
come_to-requires-clause-unused c =
    rw c.in_ok-heap.ensures
    (old-unused c.args.revision.now.segments.now c.args.revision.now.end.now c.in-Some.mark c.loop-i.i c.at-segment.result c.args.revision.now.holds.kept.run c.args.revision.now.holds.kept.trace.distinct (omega (arith, c.loop-i-test.true, c.len-i-end.ensures)) c.at-segment.ensures c.in-Some.ensures)

-- the edited trace ends with the operations of the rest of the old run
back : (old : List SegmentView) (ops : List Operation) (a b i at x : ℕ) → ShareEnd (trace_of old) ops a b → length (trace_of (take i old)) ≡ at → a ≤ at → x ≡ at - a + b → trace_of (drop i old) ≡ drop x ops
back old ops a b i at x shared place behind there = rest-shared old ops a b i at shared place behind ∙ ap (λ n. drop n ops) (sym there)

pub come_to-requires-clause-place : goal.come_to-requires-clause-place
come_to-requires-clause-place c = c.loop-i.invariant.place.place

pub come_to-requires-clause-shared : goal.come_to-requires-clause-shared
come_to-requires-clause-shared c =
    back c.args.revision.now.segments.now c.args.revision.now.ops.now.ops c.args.seam.base c.args.seam.edited c.loop-i.i c.loop-i.at (c.loop-i.at - c.args.seam.base + c.args.seam.edited) c.requires.shared c.loop-i.invariant.place.place (c.is_ahead.ensures.ahead c.if-is_ahead.true).0 refl

pub pass-requires-clause-place : goal.pass-requires-clause-place
pass-requires-clause-place c = c.loop-i.invariant.place.place

pub pass-requires-clause-kept : goal.pass-requires-clause-kept
pass-requires-clause-kept c =
    has_mark-at c.args.revision.now.segments.now c.loop-i.i c.at-segment.result (omega (arith, c.loop-i-test.true, c.len-i-end.ensures)) c.at-segment.ensures ∙ ap is_some (sym c.in-Some.ensures)

pub pass-requires-clause-mark : goal.pass-requires-clause-mark
pass-requires-clause-mark c =
    c.in_ok-heap.ensures
    ∙ mark-is c.args.revision.now.segments.now c.loop-i.i c.at-segment.result c.in-Some.mark c.args.revision.now.holds.kept.run.replay (omega (arith, c.loop-i-test.true, c.len-i-end.ensures)) c.at-segment.ensures c.in-Some.ensures
    ∙ ap (end_from nothing_held) (trace_of-prefix c.args.revision.now.segments.now c.loop-i.i c.loop-i.at c.loop-i.invariant.place.place)

pub pass-requires-clause-shared : goal.pass-requires-clause-shared
pass-requires-clause-shared c =
    back c.args.revision.now.segments.now c.args.revision.now.ops.now.ops c.args.seam.base c.args.seam.edited c.loop-i.i c.loop-i.at c.in_ok-come.come.prefix.len c.requires.shared c.loop-i.invariant.place.place (c.is_ahead.ensures.ahead c.if-is_ahead.true).0 c.in_ok-come.ensures.there

-- an old anchor
pub pass_anchor-requires-clause-may : goal.pass_anchor-requires-clause-may
pass_anchor-requires-clause-may c =
    let ahead = c.is_ahead.ensures.ahead c.if-is_ahead.true in
    record {
      reached = c.loop-i.invariant.beside.reached;
      order = ahead.1;
      within = moved-within _ _ c.args.seam.base c.args.seam.edited c.loop-i.at c.requires.shared (place-within c.args.revision.now.segments.now c.loop-i.i c.loop-i.at c.loop-i.invariant.place.place) ahead.0;
    }

pub pass_anchor-requires-clause-place : goal.pass_anchor-requires-clause-place
pass_anchor-requires-clause-place c = c.loop-i.invariant.place.place

pub pass_anchor-requires-clause-mark : goal.pass_anchor-requires-clause-mark
pass_anchor-requires-clause-mark c =
    c.in_ok-heap-2.ensures
    ∙ anchor-is c.args.revision.now.segments.now c.loop-i.i c.at-segment.result c.in-Some-anchor.anchor c.args.revision.now.holds.kept.run.replay (omega (arith, c.loop-i-test.true, c.len-i-end.ensures)) c.at-segment.ensures c.in-Some-anchor.ensures
    ∙ ap (end_from nothing_held) (trace_of-prefix c.args.revision.now.segments.now c.loop-i.i c.loop-i.at c.loop-i.invariant.place.place)

pub pass_anchor-requires-clause-shared : goal.pass_anchor-requires-clause-shared
pass_anchor-requires-clause-shared c =
    back c.args.revision.now.segments.now c.args.revision.now.ops.now.ops c.args.seam.base c.args.seam.edited c.loop-i.i c.loop-i.at (c.loop-i.at - c.args.seam.base + c.args.seam.edited) c.requires.shared c.loop-i.invariant.place.place (c.is_ahead.ensures.ahead c.if-is_ahead.true).0 refl

-- the replayed prefix, with the rest of the old run, is a run of the edited trace
spliced-at : (old : List SegmentView) (ops : List Operation) (a b i at len : ℕ) (segments rest : List SegmentView) (heap end : State)
    → ShareEnd (trace_of old) ops a b → length (trace_of (take i old)) ≡ at → a ≤ at → len ≡ at - a + b → IsReached ops len segments heap
    → trace_of rest ≡ trace_of (drop i old) → IsRunFrom heap rest end → IsSpliced ops (segments ++ rest) end
spliced-at old ops a b i at len segments rest heap end shared place behind there reached rest_is run =
    IsSpliced-rest ops len segments rest heap end reached (rest_is ∙ back old ops a b i at len shared place behind there) run

-- the heaps agree where the replay stops
agreed-at : (old : List SegmentView) (ops : List Operation) (a b i at len : ℕ) (segments : List SegmentView) (heap mark : State)
    → length (trace_of (take i old)) ≡ at → len ≡ at - a + b → IsReached ops len segments heap → mark ≡ end_from nothing_held (trace_of (take i old))
    → Agree heap mark → AgreesAt (trace_of old) ops a b at
agreed-at old ops a b i at len segments heap mark place there reached mark_is agree =
    AgreesAt-here (trace_of old) ops a b at heap mark (reached.state ∙ ap (λ x. end_from nothing_held (take x ops)) there)
    (mark_is ∙ ap (end_from nothing_held) (trace_of-prefix old i at place)) agree

pub returns-in-Some-found-clause-run : goal.returns-in-Some-found-clause-run
returns-in-Some-found-clause-run c =
    let there : c.in_ok-come.come.prefix.len ≡ c.loop-i.at - c.args.seam.base + c.args.seam.edited = c.in_ok-come.ensures.there in
    let rest : trace_of c.in-Some-found.rest ≡ trace_of (drop c.loop-i.i c.args.revision.now.segments.now) = rw c.in-Some-found.is at c.in_ok-come.ensures.trace in
    let run : IsRunFrom c.in_ok-come.come.prefix.end c.in-Some-found.rest c.in-Some-found.end = rw c.in-Some-found.is at c.in_ok-come.ensures.run in
    rw (c.in_ok-stop.ensures.segments, c.in_ok-stop.ensures.end)
    (spliced-at c.args.revision.now.segments.now c.args.revision.now.ops.now.ops c.args.seam.base c.args.seam.edited c.loop-i.i c.loop-i.at c.in_ok-come.come.prefix.len c.in_ok-come.come.prefix.segments c.in-Some-found.rest c.in_ok-come.come.prefix.end c.in-Some-found.end c.requires.shared c.loop-i.invariant.place.place (c.is_ahead.ensures.ahead c.if-is_ahead.true).0 there c.in_ok-come.ensures.beside.reached rest run).run

pub returns-in-Some-found-clause-trace : goal.returns-in-Some-found-clause-trace
returns-in-Some-found-clause-trace c =
    let there : c.in_ok-come.come.prefix.len ≡ c.loop-i.at - c.args.seam.base + c.args.seam.edited = c.in_ok-come.ensures.there in
    let rest : trace_of c.in-Some-found.rest ≡ trace_of (drop c.loop-i.i c.args.revision.now.segments.now) = rw c.in-Some-found.is at c.in_ok-come.ensures.trace in
    let run : IsRunFrom c.in_ok-come.come.prefix.end c.in-Some-found.rest c.in-Some-found.end = rw c.in-Some-found.is at c.in_ok-come.ensures.run in
    rw c.in_ok-stop.ensures.segments
    (spliced-at c.args.revision.now.segments.now c.args.revision.now.ops.now.ops c.args.seam.base c.args.seam.edited c.loop-i.i c.loop-i.at c.in_ok-come.come.prefix.len c.in_ok-come.come.prefix.segments c.in-Some-found.rest c.in_ok-come.come.prefix.end c.in-Some-found.end c.requires.shared c.loop-i.invariant.place.place (c.is_ahead.ensures.ahead c.if-is_ahead.true).0 there c.in_ok-come.ensures.beside.reached rest run).trace

pub returns-in-Some-found-clause-marks : goal.returns-in-Some-found-clause-marks
returns-in-Some-found-clause-marks c =
    let mark : c.in-Some.mark ≡ end_from nothing_held (trace_of (take c.loop-i.i c.args.revision.now.segments.now)) = mark-is c.args.revision.now.segments.now c.loop-i.i c.at-segment.result c.in-Some.mark c.args.revision.now.holds.kept.run.replay (omega (arith, c.loop-i-test.true, c.len-i-end.ensures)) c.at-segment.ensures c.in-Some.ensures in
    let agree : Agree c.in_ok-come.come.prefix.end c.in-Some.mark = rw c.in_ok-heap.ensures at (c.in_ok-come.ensures.answer.0 (ap is_some c.in-Some-found.is)) in
    let old : List SegmentView = c.args.revision.now.segments.now in
    let prefix : List SegmentView = c.in_ok-come.come.prefix.segments in
    let there : c.in_ok-come.come.prefix.len ≡ c.loop-i.at - c.args.seam.base + c.args.seam.edited = c.in_ok-come.ensures.there in
    let rest : trace_of c.in-Some-found.rest ≡ trace_of (drop c.loop-i.i c.args.revision.now.segments.now) = rw c.in-Some-found.is at c.in_ok-come.ensures.trace in
    let run : IsRunFrom c.in_ok-come.come.prefix.end c.in-Some-found.rest c.in-Some-found.end = rw c.in-Some-found.is at c.in_ok-come.ensures.run in
    let marks : (at : ℕ) → marks_from at c.in-Some-found.rest ≡ marks_from at (drop c.loop-i.i c.args.revision.now.segments.now) = rw c.in-Some-found.is at c.in_ok-come.ensures.marks in
    let alike : all_marks (prefix ++ c.in-Some-found.rest) ≡ all_marks (prefix ++ drop c.loop-i.i old) =
    all_marks-rest prefix c.in-Some-found.rest (drop c.loop-i.i old) rest marks in
    let trace : trace_of (prefix ++ drop c.loop-i.i old) ≡ c.args.revision.now.ops.now.ops =
    trace_of-append prefix (drop c.loop-i.i old) ∙ ap (λ t. trace_of prefix ++ t) (sym rest) ∙ sym (trace_of-append prefix c.in-Some-found.rest) ∙ (spliced-at c.args.revision.now.segments.now c.args.revision.now.ops.now.ops c.args.seam.base c.args.seam.edited c.loop-i.i c.loop-i.at c.in_ok-come.come.prefix.len c.in_ok-come.come.prefix.segments c.in-Some-found.rest c.in_ok-come.come.prefix.end c.in-Some-found.end c.requires.shared c.loop-i.invariant.place.place (c.is_ahead.ensures.ahead c.if-is_ahead.true).0 there c.in_ok-come.ensures.beside.reached rest run).trace in
    rw (c.in_ok-stop.ensures.segments, c.in_ok-stop.ensures.answered)
    (left-at-stop c.args.revision.now.guesses.now c.args.revision.now.segments.now c.args.revision.now.ops.now.ops (marks_from 0 c.args.progress.prefix.segments) (marks_from 0 c.in_ok-come.come.prefix.segments) _ c.args.seam.base c.args.seam.edited c.loop-i.i c.loop-i.at c.args.progress.prefix.len c.in_ok-come.come.prefix.len c.at-segment.result c.in-Some.mark _ _ _ _ _ _
    c.args.revision.now.holds.trace.distinct (omega (arith, c.loop-i-test.true, c.len-i-end.ensures)) c.at-segment.ensures (sym c.in-Some.ensures) c.loop-i.invariant.place.place (c.is_ahead.ensures.ahead c.if-is_ahead.true).0 (agreed-at c.args.revision.now.segments.now c.args.revision.now.ops.now.ops c.args.seam.base c.args.seam.edited c.loop-i.i c.loop-i.at c.in_ok-come.come.prefix.len c.in_ok-come.come.prefix.segments c.in_ok-come.come.prefix.end c.in-Some.mark c.loop-i.invariant.place.place c.in_ok-come.ensures.there c.in_ok-come.ensures.beside.reached mark agree) (least-agreeing _ _ _ _ _ _ _ _ _ _ _ _ c.loop-i.invariant.place) there
    (GoesOn-next _ _ _ _ _ _ _ _ _ _ _ _ c.loop-i.invariant.beside c.in_ok-come.ensures.beside).onward c.in_ok-stop.ensures.answered
    (alike ∙ all_marks-stop c.args.revision.now.segments.now c.in_ok-come.come.prefix.segments c.args.revision.now.ops.now.ops c.args.seam.base c.args.seam.edited c.loop-i.i c.loop-i.at c.at-segment.result c.args.revision.now.holds.kept.run.full c.requires.shared (omega (arith, c.loop-i-test.true, c.len-i-end.ensures)) c.at-segment.ensures c.in-Some.mark (sym c.in-Some.ensures)
    c.loop-i.invariant.place.place (c.is_ahead.ensures.ahead c.if-is_ahead.true).0 (IsReached-length _ _ _ _ c.in_ok-come.ensures.beside.reached ∙ there) trace))

pub returns-in-Some-found-clause-stepped : goal.returns-in-Some-found-clause-stepped
returns-in-Some-found-clause-stepped c =
    let mark : c.in-Some.mark ≡ end_from nothing_held (trace_of (take c.loop-i.i c.args.revision.now.segments.now)) = mark-is c.args.revision.now.segments.now c.loop-i.i c.at-segment.result c.in-Some.mark c.args.revision.now.holds.kept.run.replay (omega (arith, c.loop-i-test.true, c.len-i-end.ensures)) c.at-segment.ensures c.in-Some.ensures in
    let agree : Agree c.in_ok-come.come.prefix.end c.in-Some.mark = rw c.in_ok-heap.ensures at (c.in_ok-come.ensures.answer.0 (ap is_some c.in-Some-found.is)) in
    AreStepped-stop (record { old = trace_of c.args.revision.now.segments.now; ops = c.args.revision.now.ops.now.ops; base = c.args.seam.base; edited = c.args.seam.edited; marks = all_marks c.args.revision.now.segments.now; chunks = with_guesses c.args.revision.now.guesses.now c.args.shelf.now.chunks }) c.args.progress.prefix.len c.in_ok-come.come.prefix.len c.loop-i.at c.args.meter.now _ c.in_ok-come.ensures.there
    (mark-there c.args.revision.now.segments.now c.loop-i.i c.loop-i.at c.at-segment.result c.in-Some.mark (omega (arith, c.loop-i-test.true, c.len-i-end.ensures)) c.at-segment.ensures (sym c.in-Some.ensures) c.loop-i.invariant.place.place)
    (c.is_ahead.ensures.ahead c.if-is_ahead.true).0 (agreed-at c.args.revision.now.segments.now c.args.revision.now.ops.now.ops c.args.seam.base c.args.seam.edited c.loop-i.i c.loop-i.at c.in_ok-come.come.prefix.len c.in_ok-come.come.prefix.segments c.in_ok-come.come.prefix.end c.in-Some.mark c.loop-i.invariant.place.place c.in_ok-come.ensures.there c.in_ok-come.ensures.beside.reached mark agree) (GoesOn-steps _ _ _ _ _ _ _ _ _ (GoesOn-next _ _ _ _ _ _ _ _ _ _ _ _ c.loop-i.invariant.beside c.in_ok-come.ensures.beside))

place-end : (old : List SegmentView) (i at : ℕ) → length old ≤ i → i ≤ length old → length (trace_of (take i old)) ≡ at → at ≡ length (trace_of old)
place-end old i at ge le e = let n : i ≡ length old = omega arith in sym e ∙ ap (λ j. length (trace_of (take j old))) n ∙ ap (λ ss. length (trace_of ss)) (take-length old)

pub returns-clause-marks : goal.returns-clause-marks
returns-clause-marks c =
    let there : c.in_ok-progress-3.progress.prefix.len ≡ length c.args.revision.now.ops.now.ops = c.in_ok-progress-3.ensures.there ∙ c.len.ensures in
    let e = place-end c.args.revision.now.segments.now c.loop-i.i c.loop-i.at (omega (arith, c.loop-i-test.false, c.len-i-end.ensures)) (omega (arith, c.loop-i.auto.i-end (omega (arith, c.last_from-first.ensures.last.within, c.len-i-end.ensures)), c.len-i-end.ensures)) c.loop-i.invariant.place.place in
    let trace : trace_of c.in_ok-progress-3.progress.prefix.segments ≡ c.args.revision.now.ops.now.ops = (IsSpliced-end c.args.revision.now.ops.now.ops c.in_ok-progress-3.progress.prefix.len c.in_ok-progress-3.progress.prefix.segments c.in_ok-progress-3.progress.prefix.end c.in_ok-progress-3.ensures.beside.reached there).trace in
    left-at-end c.args.revision.now.guesses.now c.args.revision.now.segments.now c.args.revision.now.ops.now.ops (marks_from 0 c.args.progress.prefix.segments) (marks_from 0 c.in_ok-progress-3.progress.prefix.segments) _ c.args.seam.base c.args.seam.edited c.args.progress.prefix.len c.in_ok-progress-3.progress.prefix.len c.args.shelf.now c.advance.new.shelf _ _
    c.args.revision.now.holds.trace.distinct c.requires.shared
    (λ p mark behind agrees.
    let least : c.loop-i.at ≤ p = least-agreeing _ _ _ _ _ _ _ _ _ _ _ _ c.loop-i.invariant.place p mark behind agrees in
    omega arith)
    there (GoesOn-next _ _ _ _ _ _ _ _ _ _ _ _ c.loop-i.invariant.beside c.in_ok-progress-3.ensures.beside).onward
    (ap (λ ops. marks_from 0 c.in_ok-progress-3.progress.prefix.segments ++ length ops ∷ []) trace)

pub returns-clause-stepped : goal.returns-clause-stepped
returns-clause-stepped c =
    AreStepped-end (record { old = trace_of c.args.revision.now.segments.now; ops = c.args.revision.now.ops.now.ops; base = c.args.seam.base; edited = c.args.seam.edited; marks = all_marks c.args.revision.now.segments.now; chunks = with_guesses c.args.revision.now.guesses.now c.args.shelf.now.chunks }) c.args.progress.prefix.len c.in_ok-progress-3.progress.prefix.len c.args.meter.now _ (c.in_ok-progress-3.ensures.there ∙ c.len.ensures)
    (GoesOn-steps _ _ _ _ _ _ _ _ _ (GoesOn-next _ _ _ _ _ _ _ _ _ _ _ _ c.loop-i.invariant.beside c.in_ok-progress-3.ensures.beside))

pub loop-i-init : goal.loop-i-init
loop-i-init c = record {
  place = IsBeside-first c.args.revision.now.segments.now c.args.revision.now.ops.now.ops c.args.seam.base c.args.seam.edited c.args.progress.prefix.len c.args.meter.now c.last_from-first.result.0 c.last_from-first.result.1 c.args.progress.prefix.segments c.args.progress.prefix.end
      c.args.revision.now.holds.kept.run.full c.last_from-first.ensures.last.within c.last_from-first.ensures.last.place c.last_from-first.ensures.last.before c.requires.may.reached c.requires.may.order;
  beside = GoesOn-none (trace_of c.args.revision.now.segments.now) c.args.revision.now.ops.now.ops (reusable c.args.revision.now) c.args.progress.prefix c.args.shelf.now c.args.meter.now c.requires.may.reached;
  fork = c.requires.fork;
  placed = c.requires.placed;
  known = c.requires.divergence;
  different = c.requires.known;
  replaced = c.requires.replaced;
  never_less = omega arith;
}

pub returns-in_err-progress-3-clause-bound : goal.returns-in_err-progress-3-clause-bound
returns-in_err-progress-3-clause-bound c =
    let e = place-end c.args.revision.now.segments.now c.loop-i.i c.loop-i.at (omega (arith, c.loop-i-test.false, c.len-i-end.ensures)) (omega (arith, c.loop-i.auto.i-end (omega (arith, c.last_from-first.ensures.last.within, c.len-i-end.ensures)), c.len-i-end.ensures)) c.loop-i.invariant.place.place in
    let shared = c.requires.shared in
    let long = ShareEnd-length (trace_of c.args.revision.now.segments.now) c.args.revision.now.ops.now.ops c.args.seam.base c.args.seam.edited shared in
    bounded _ _ _ _ _ _ _ _ _ _ _ _ _ c.loop-i.invariant.place shared (omega (arith, shared.old_within)) (omega (arith, long, shared.old_within, shared.within, c.loop-i.invariant.place.rise, c.advance.ensures.metered.rise))

pub returns-clause-bound : goal.returns-clause-bound
returns-clause-bound c =
    let e = place-end c.args.revision.now.segments.now c.loop-i.i c.loop-i.at (omega (arith, c.loop-i-test.false, c.len-i-end.ensures)) (omega (arith, c.loop-i.auto.i-end (omega (arith, c.last_from-first.ensures.last.within, c.len-i-end.ensures)), c.len-i-end.ensures)) c.loop-i.invariant.place.place in
    let shared = c.requires.shared in
    let long = ShareEnd-length (trace_of c.args.revision.now.segments.now) c.args.revision.now.ops.now.ops c.args.seam.base c.args.seam.edited shared in
    bounded _ _ _ _ _ _ _ _ _ _ _ _ _ c.loop-i.invariant.place shared (omega (arith, shared.old_within)) (omega (arith, long, shared.old_within, shared.within, c.loop-i.invariant.place.rise, c.advance.ensures.metered.rise))

pub loop-i-preserved : goal.loop-i-preserved
loop-i-preserved c =
    let old = c.args.revision.now.segments.now in
    elim c.if-is_ahead.branch [
      | then-is_ahead+in-Some+in_ok-heap+in_ok-come+in_default-found+in_ok-progress w ↦
          let lt : c.loop-i.i < length c.args.revision.now.segments.now = omega (arith, c.loop-i-test.true, c.len-i-end.ensures) in
          let m : w.in-Some.mark ≡ end_from nothing_held (trace_of (take c.loop-i.i c.args.revision.now.segments.now)) = mark-is c.args.revision.now.segments.now c.loop-i.i c.at-segment.result w.in-Some.mark c.args.revision.now.holds.kept.run.replay lt c.at-segment.ensures w.in-Some.ensures in
          let there : w.in_ok-come.come.prefix.len ≡ c.loop-i.at - c.args.seam.base + c.args.seam.edited = w.in_ok-come.ensures.there in
          let prefix = w.in_ok-come.ensures.beside.reached in
          let rise = w.come_to.ensures.metered.rise in
          let past = w.in_ok-progress.ensures.beside w.come_to.new.meter in
          let behind = (c.is_ahead.ensures.ahead w.if-is_ahead.true).0 in
          let next = length-trace_of-next c.args.revision.now.segments.now c.loop-i.i c.at-segment.result lt c.at-segment.ensures ∙ ap (λ n. n + length c.at-segment.result.ops) c.loop-i.invariant.place.place in
          rw (w.progress-is, w.meter-is, w.shelf-is, w.divergence-is, w.difference-is, w.replaced-is, c.ops.ensures)
          (record {
            place = IsBeside-next c.args.revision.now.segments.now c.args.revision.now.ops.now.ops c.args.seam.base c.args.seam.edited c.args.progress.prefix.len c.args.meter.now c.loop-i.i c.loop-i.at c.loop-i.progress.prefix.len c.loop-i.progress.prefix.segments c.loop-i.progress.prefix.end c.loop-i.meter
                w.in_ok-progress.progress.prefix.len w.in_ok-progress.progress.prefix.segments w.in_ok-progress.progress.prefix.end w.come_to.new.meter c.at-segment.result c.loop-i.invariant.place lt c.at-segment.ensures past.reached
                (λ p mark later passed agrees.
                IsPast-seam (trace_of c.args.revision.now.segments.now) c.args.revision.now.ops.now.ops (all_marks c.args.revision.now.segments.now) c.args.seam.base c.args.seam.edited c.loop-i.at (length (trace_of (take (c.loop-i.i + 1) c.args.revision.now.segments.now))) w.in_ok-come.come.prefix.len
                w.in_ok-progress.progress.prefix.len p behind (omega (arith, next)) there w.in_ok-progress.ensures.past mark (omega (arith, next, later)) passed agrees)
                (omega (arith, c.loop-i.invariant.place.rise, rise, w.in_ok-progress.ensures.no_less))
                (λ marked behind agrees.
                let agree : Agree w.in_ok-come.come.prefix.end w.in-Some.mark = AgreesAt-there (trace_of c.args.revision.now.segments.now) c.args.revision.now.ops.now.ops c.args.seam.base c.args.seam.edited c.loop-i.at w.in_ok-come.come.prefix.end w.in-Some.mark (prefix.state ∙ ap (λ x. end_from nothing_held (take x c.args.revision.now.ops.now.ops)) there) (m ∙ ap (end_from nothing_held) (trace_of-prefix c.args.revision.now.segments.now c.loop-i.i c.loop-i.at c.loop-i.invariant.place.place)) agrees in
                let t : is_some w.in_ok-come.found ≡ true = w.in_ok-come.ensures.answer.1 (rw w.in_ok-heap.ensures agree) in
                let f : is_some w.in_ok-come.found ≡ false = ap is_some w.in_default-found.is in
                cc);
            beside = GoesOn-next _ _ _ _ _ _ _ _ _ _ _ _ (GoesOn-next _ _ _ _ _ _ _ _ _ _ _ _ c.loop-i.invariant.beside w.in_ok-come.ensures.beside) past;
            fork = w.in_ok-progress.ensures.fork;
            placed = w.in_ok-progress.ensures.placed;
            known = w.in_ok-progress.ensures.divergence;
            different = w.in_ok-progress.ensures.known;
            replaced = w.in_ok-come.ensures.replaced;
            never_less = omega (arith, c.loop-i.invariant.never_less, w.come_to.ensures.metered.never_less);
          })
      | then-is_ahead+in_default+then-is_followed+in-Some-anchor+in_ok-heap-2+in_ok-progress-2 w ↦
          let lt : c.loop-i.i < length c.args.revision.now.segments.now = omega (arith, c.loop-i-test.true, c.len-i-end.ensures) in
          let on = w.in_ok-progress-2.ensures in
          let behind = (c.is_ahead.ensures.ahead w.if-is_ahead.true).0 in
          let to : ℕ = c.loop-i.at - c.args.seam.base + c.args.seam.edited in
          let next : ℕ = length (trace_of (take (c.loop-i.i + 1) c.args.revision.now.segments.now)) in
          let next_is = length-trace_of-next c.args.revision.now.segments.now c.loop-i.i c.at-segment.result lt c.at-segment.ensures ∙ ap (λ n. n + length c.at-segment.result.ops) c.loop-i.invariant.place.place in
          let rises = trace_of-rises c.args.revision.now.segments.now c.loop-i.i c.args.revision.now.holds.kept.run.full lt in
          rw (w.progress-is, w.meter-is, w.shelf-is, w.divergence-is, w.difference-is, w.replaced-is, c.ops.ensures)
          (record {
            place = IsBeside-next c.args.revision.now.segments.now c.args.revision.now.ops.now.ops c.args.seam.base c.args.seam.edited c.args.progress.prefix.len c.args.meter.now c.loop-i.i c.loop-i.at c.loop-i.progress.prefix.len c.loop-i.progress.prefix.segments c.loop-i.progress.prefix.end c.loop-i.meter
                w.in_ok-progress-2.progress.prefix.len w.in_ok-progress-2.progress.prefix.segments w.in_ok-progress-2.progress.prefix.end w.pass_anchor.new.meter c.at-segment.result c.loop-i.invariant.place lt c.at-segment.ensures on.beside.reached
                (λ p mark later passed agrees.
                IsPast-seam (trace_of c.args.revision.now.segments.now) c.args.revision.now.ops.now.ops (all_marks c.args.revision.now.segments.now) c.args.seam.base c.args.seam.edited c.loop-i.at next to w.in_ok-progress-2.progress.prefix.len p behind (omega (arith, next_is)) refl
                (IsPastMarks-none (trace_of c.args.revision.now.segments.now) c.args.revision.now.ops.now.ops (all_marks c.args.revision.now.segments.now) c.loop-i.at next to w.in_ok-progress-2.progress.prefix.len (omega (arith, rises, c.loop-i.invariant.place.place)) on.past)
                mark (omega (arith, next_is, later)) passed agrees)
                (omega (arith, c.loop-i.invariant.place.rise, w.pass_anchor.ensures.metered.rise, on.no_less))
                (λ marked behind agrees. let f : is_some c.at-segment.result.mark ≡ false = ap is_some (sym w.in_default.ensures) in cc);
            beside = GoesOn-next _ _ _ _ _ _ _ _ _ _ _ _ c.loop-i.invariant.beside on.beside;
            fork = on.fork;
            placed = on.placed;
            known = c.loop-i.invariant.known;
            different = on.known;
            replaced = c.loop-i.invariant.replaced;
            never_less = omega (arith, c.loop-i.invariant.never_less, w.pass_anchor.ensures.metered.never_less);
          })
      | then-is_ahead+in_default+then-is_followed+in_default-anchor w ↦
          rw (w.progress-is, w.meter-is, w.shelf-is, w.divergence-is, w.difference-is, w.replaced-is, c.ops.ensures)
          (record {
            place = IsBeside-stays _ _ _ _ _ _ _ _ _ _ _ _ c.at-segment.result c.loop-i.invariant.place (omega (arith, c.loop-i-test.true, c.len-i-end.ensures)) c.at-segment.ensures
                (λ marked behind agrees. let f : is_some c.at-segment.result.mark ≡ false = ap is_some (sym w.in_default.ensures) in cc);
            beside = c.loop-i.invariant.beside;
            fork = c.loop-i.invariant.fork;
            placed = c.loop-i.invariant.placed;
            known = c.loop-i.invariant.known;
            different = c.loop-i.invariant.different;
            replaced = c.loop-i.invariant.replaced;
            never_less = c.loop-i.invariant.never_less;
          })
      | then-is_ahead+in_default+else-is_followed w ↦
          rw (w.progress-is, w.meter-is, w.shelf-is, w.divergence-is, w.difference-is, w.replaced-is, c.ops.ensures)
          (record {
            place = IsBeside-stays _ _ _ _ _ _ _ _ _ _ _ _ c.at-segment.result c.loop-i.invariant.place (omega (arith, c.loop-i-test.true, c.len-i-end.ensures)) c.at-segment.ensures
                (λ marked behind agrees. let f : is_some c.at-segment.result.mark ≡ false = ap is_some (sym w.in_default.ensures) in cc);
            beside = c.loop-i.invariant.beside;
            fork = c.loop-i.invariant.fork;
            placed = c.loop-i.invariant.placed;
            known = c.loop-i.invariant.known;
            different = c.loop-i.invariant.different;
            replaced = c.loop-i.invariant.replaced;
            never_less = c.loop-i.invariant.never_less;
          })
      | else-is_ahead w ↦
          rw (w.progress-is, w.meter-is, w.shelf-is, w.divergence-is, w.difference-is, w.replaced-is, c.ops.ensures)
          (record {
            place = IsBeside-stays _ _ _ _ _ _ _ _ _ _ _ _ c.at-segment.result c.loop-i.invariant.place (omega (arith, c.loop-i-test.true, c.len-i-end.ensures)) c.at-segment.ensures
                (λ marked behind agrees.
                c.loop-i.invariant.place.ahead c.loop-i.at
                (marked-there c.args.revision.now.segments.now c.loop-i.i c.loop-i.at c.at-segment.result (omega (arith, c.loop-i-test.true, c.len-i-end.ensures)) c.at-segment.ensures marked c.loop-i.invariant.place.place)
                (omega arith) (c.is_ahead.ensures.behind w.if-is_ahead.false behind) agrees);
            beside = c.loop-i.invariant.beside;
            fork = c.loop-i.invariant.fork;
            placed = c.loop-i.invariant.placed;
            known = c.loop-i.invariant.known;
            different = c.loop-i.invariant.different;
            replaced = c.loop-i.invariant.replaced;
            never_less = c.loop-i.invariant.never_less;
          })
    ]
