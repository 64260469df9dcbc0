use Rattle.std.proofs.Common.{◌≡◌, ap, subst, sym, drop, map, ◌∙◌}
use Rattle.std.specs.Prelude.{slice_range}
use Rattle.run_engine.specs.inner.Exchanged.{exchanged, AreExchangeable}
use Rattle.run_engine.proofs.PieceLemmas.{take-rest}
use Rattle.run_engine.specs.Segments.{trace_of, marks_from}
use Rattle.agreement.specs.Meeting.{AgreeBut}
use Rattle.run_engine.proofs.RejoinLemmas.{GoOnAlike, exchangeable, IsRunFrom-exchanged, end-exchangeable, trace_of-exchanged, marks_from-exchanged}
use Rattle.run_engine.proofs.replay.rejoin.rejoined.Goals as goal

pub patch-requires-clause-there : goal.patch-requires-clause-there
patch-requires-clause-there c =
    let agree : AgreeBut c.args.heap.now c.args.old_heap.now c.in-Alike.remains =
    rw c.in-Alike.is at c.in_ok-meet.ensures.meets in
    let alike : GoOnAlike c.args.heap.now c.args.old_heap.now c.in-Alike.remains (trace_of (drop c.args.rest.now.from c.args.rest.now.segments.now)) =
    record { agree = agree; distinct = c.requires.distinct; unused = c.requires.unused; old_unused = c.requires.old_unused } in
    (end-exchangeable c.args.heap.now c.args.old_heap.now c.in-Alike.remains (drop c.args.rest.now.from c.args.rest.now.segments.now) c.args.rest.now.end.now alike c.requires.run).there

pub patch-requires-clause-sound : goal.patch-requires-clause-sound
patch-requires-clause-sound c =
    let agree : AgreeBut c.args.heap.now c.args.old_heap.now c.in-Alike.remains =
    rw c.in-Alike.is at c.in_ok-meet.ensures.meets in
    let alike : GoOnAlike c.args.heap.now c.args.old_heap.now c.in-Alike.remains (trace_of (drop c.args.rest.now.from c.args.rest.now.segments.now)) =
    record { agree = agree; distinct = c.requires.distinct; unused = c.requires.unused; old_unused = c.requires.old_unused } in
    (end-exchangeable c.args.heap.now c.args.old_heap.now c.in-Alike.remains (drop c.args.rest.now.from c.args.rest.now.segments.now) c.args.rest.now.end.now alike c.requires.run).sound

pub exchanged-requires : goal.exchanged-requires
exchanged-requires c =
    let agree : AgreeBut c.args.heap.now c.args.old_heap.now c.in-Alike.remains =
    rw c.in-Alike.is at c.in_ok-meet.ensures.meets in
    let alike : GoOnAlike c.args.heap.now c.args.old_heap.now c.in-Alike.remains (trace_of (drop c.args.rest.now.from c.args.rest.now.segments.now)) =
    record { agree = agree; distinct = c.requires.distinct; unused = c.requires.unused; old_unused = c.requires.old_unused } in
    let behind : c.in_ok-behind-in-Alike.behind ≡ drop c.args.rest.now.from c.args.rest.now.segments.now = c.in_ok-behind-in-Alike.ensures ∙ ap (slice_range c.args.rest.now.segments.now c.args.rest.now.from) c.len-in-Alike.ensures ∙ take-rest c.args.rest.now.from c.args.rest.now.segments.now in
    subst (AreExchangeable c.in-Alike.remains) (sym behind) (exchangeable c.args.heap.now c.args.old_heap.now c.in-Alike.remains (drop c.args.rest.now.from c.args.rest.now.segments.now) alike c.requires.run.replay)

pub returns-in_ok-exchanged-in-Alike-clause-run : goal.returns-in_ok-exchanged-in-Alike-clause-run
returns-in_ok-exchanged-in-Alike-clause-run c =
    let agree : AgreeBut c.args.heap.now c.args.old_heap.now c.in-Alike.remains =
    rw c.in-Alike.is at c.in_ok-meet.ensures.meets in
    let alike : GoOnAlike c.args.heap.now c.args.old_heap.now c.in-Alike.remains (trace_of (drop c.args.rest.now.from c.args.rest.now.segments.now)) =
    record { agree = agree; distinct = c.requires.distinct; unused = c.requires.unused; old_unused = c.requires.old_unused } in
    let behind : c.in_ok-behind-in-Alike.behind ≡ drop c.args.rest.now.from c.args.rest.now.segments.now = c.in_ok-behind-in-Alike.ensures ∙ ap (slice_range c.args.rest.now.segments.now c.args.rest.now.from) c.len-in-Alike.ensures ∙ take-rest c.args.rest.now.from c.args.rest.now.segments.now in
    rw (c.in_ok-exchanged-in-Alike.ensures, behind, c.in_ok-end-in-Alike.ensures)
    (IsRunFrom-exchanged c.args.heap.now c.args.old_heap.now c.in-Alike.remains (drop c.args.rest.now.from c.args.rest.now.segments.now) c.args.rest.now.end.now alike c.requires.run)

pub returns-in_ok-exchanged-in-Alike-clause-trace : goal.returns-in_ok-exchanged-in-Alike-clause-trace
returns-in_ok-exchanged-in-Alike-clause-trace c =
    let behind : c.in_ok-behind-in-Alike.behind ≡ drop c.args.rest.now.from c.args.rest.now.segments.now = c.in_ok-behind-in-Alike.ensures ∙ ap (slice_range c.args.rest.now.segments.now c.args.rest.now.from) c.len-in-Alike.ensures ∙ take-rest c.args.rest.now.from c.args.rest.now.segments.now in
    ap trace_of (c.in_ok-exchanged-in-Alike.ensures ∙ ap (map (exchanged c.in-Alike.remains)) behind) ∙ trace_of-exchanged c.in-Alike.remains (drop c.args.rest.now.from c.args.rest.now.segments.now)

pub returns-in_ok-exchanged-in-Alike-clause-marks : goal.returns-in_ok-exchanged-in-Alike-clause-marks
returns-in_ok-exchanged-in-Alike-clause-marks c at =
    let behind : c.in_ok-behind-in-Alike.behind ≡ drop c.args.rest.now.from c.args.rest.now.segments.now = c.in_ok-behind-in-Alike.ensures ∙ ap (slice_range c.args.rest.now.segments.now c.args.rest.now.from) c.len-in-Alike.ensures ∙ take-rest c.args.rest.now.from c.args.rest.now.segments.now in
    ap (marks_from at) (c.in_ok-exchanged-in-Alike.ensures ∙ ap (map (exchanged c.in-Alike.remains)) behind) ∙ marks_from-exchanged c.in-Alike.remains at (drop c.args.rest.now.from c.args.rest.now.segments.now)
