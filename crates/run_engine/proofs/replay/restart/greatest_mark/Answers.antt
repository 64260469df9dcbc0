use Rattle.std.proofs.Common.{◌≡◌, ◌-◌, ◌<◌, length, ap, sym, subst, ◌∙◌, arith}
use Rattle.std.specs.Prelude.{is_some}
use Rattle.run_engine.specs.Segments.{trace_of}
use Rattle.run_engine.proofs.PieceLemmas.{mark-is}
use Rattle.run_engine.proofs.PlaceLemmas.{first-mark-there}
use Rattle.run_engine.proofs.RestartLemmas.{AreFirst, AreFirst-last, AreFirst-bare, IsRestart-there, IsRestart-end}
use Rattle.run_engine.proofs.replay.restart.greatest_mark.Goals as goal

pub returns-then-len-head : goal.returns-then-len-head
returns-then-len-head c =
    rw (c.len.ensures, c.in_ok-share.ensures)
    (IsRestart-end c.args.revision.now.segments.now c.args.revision.now.end.now c.args.head c.base_len-len.result c.args.revision.now.holds.kept.run (sym (c.base_len-len.ensures ∙ ap length c.args.revision.now.holds.base)) c.if-len-head.true)

pub loop-i-init : goal.loop-i-init
loop-i-init c = record {
  first = AreFirst-last c.args.revision.now.segments.now c.args.head c.last_from-last.result.0 c.last_from-last.result.1 c.last_from-last.ensures.last (omega (arith, c.base_len-len.ensures, ap length c.args.revision.now.holds.base, c.if-len-head.false));
  within = omega arith;
}

pub overflow_add-i : goal.overflow_add-i
overflow_add-i c =
    omega (arith, c.last_from-last.ensures.few)

pub at-segment-requires : goal.at-segment-requires
at-segment-requires c =
    let before : c.args.head < length (trace_of c.args.revision.now.segments.now) = omega (arith, c.base_len-len.ensures, ap length c.args.revision.now.holds.base, c.if-len-head.false) in
    let top = (c.last_from-last.ensures.last.inside before).0 in
    omega (arith, top, c.loop-i.invariant.within, c.loop-i-test.true)

pub position-requires : goal.position-requires
position-requires c =
    let before : c.args.head < length (trace_of c.args.revision.now.segments.now) = omega (arith, c.base_len-len.ensures, ap length c.args.revision.now.holds.base, c.if-len-head.false) in
    let top = (c.last_from-last.ensures.last.inside before).0 in
    omega (arith, top, c.loop-i.invariant.within, c.loop-i-test.true)

pub returns-in-Some : goal.returns-in-Some
returns-in-Some c =
    let before : c.args.head < length (trace_of c.args.revision.now.segments.now) = omega (arith, c.base_len-len.ensures, ap length c.args.revision.now.holds.base, c.if-len-head.false) in
    let top = (c.last_from-last.ensures.last.inside before).0 in
    let lt : c.loop-i.i - 1 < length c.args.revision.now.segments.now = omega (arith, top, c.loop-i.invariant.within, c.loop-i-test.true) in
    let more = c.loop-i-test.true in
    let within = c.loop-i.invariant.within in
    rw c.in_ok-heap.ensures
    (IsRestart-there c.args.revision.now.segments.now c.args.head c.loop-i.i (c.loop-i.i - 1) c.position.result c.last_from-last.result.0 c.last_from-last.result.1 c.in-Some.mark c.in-Some.mark c.at-segment.result
    c.args.revision.now.holds.kept.run.replay c.loop-i.invariant.first (omega arith) lt c.at-segment.ensures (sym c.in-Some.ensures)
    c.position.ensures c.last_from-last.ensures.last (omega arith)
    (mark-is c.args.revision.now.segments.now (c.loop-i.i - 1) c.at-segment.result c.in-Some.mark c.args.revision.now.holds.kept.run.replay lt c.at-segment.ensures c.in-Some.ensures))

pub loop-i-preserved : goal.loop-i-preserved
loop-i-preserved c =
    let before : c.args.head < length (trace_of c.args.revision.now.segments.now) = omega (arith, c.base_len-len.ensures, ap length c.args.revision.now.holds.base, c.if-len-head.false) in
    let top = (c.last_from-last.ensures.last.inside before).0 in
    let lt : c.loop-i.i - 1 < length c.args.revision.now.segments.now = omega (arith, top, c.loop-i.invariant.within, c.loop-i-test.true) in
    let more = c.loop-i-test.true in
    let within = c.loop-i.invariant.within in
    record {
      first = AreFirst-bare c.args.revision.now.segments.now c.args.head c.loop-i.i (c.loop-i.i - 1) c.at-segment.result c.loop-i.invariant.first (omega arith) lt c.at-segment.ensures (ap is_some (sym c.in_default.ensures));
      within = omega arith;
    }

-- the first segment has a checkpoint, at or before any head
pub returns : goal.returns
returns c =
    let none : c.loop-i.i ≡ 0 = omega (arith, c.loop-i-test.false) in
    let there = subst (λ i. AreFirst c.args.revision.now.segments.now c.args.head i) none c.loop-i.invariant.first 0 (first-mark-there c.args.revision.now.segments.now c.args.revision.now.holds.kept.run.begins) (omega arith) in
    let inside : there.0 < 0 = there.1 in
    absurd (omega arith)
