use Rattle.std.proofs.Common.{◌<◌, ◌+◌, length, arith}
use Rattle.run_engine.specs.Segments.{trace_of}
use Rattle.run_engine.proofs.PlaceLemmas.{marks_from-below}
use Rattle.run_engine.proofs.SeekLemmas.{no-mark-inside}
use Rattle.run_engine.proofs.segments.seek.segment_at.Goals as goal

pub returns-then-position-ops_len-clause-none : goal.returns-then-position-ops_len-clause-none
returns-then-position-ops_len-clause-none c h =
    let lt : c.args.position < 0 + length (trace_of c.args.segments.now) = marks_from-below 0 c.args.segments.now c.args.position c.requires h in
    omega (arith, c.ops_len.ensures.value, c.if-position-ops_len.true)

pub returns-then-at-position-clause-none : goal.returns-then-at-position-clause-none
returns-then-at-position-clause-none c h =
    no-mark-inside c.args.segments.now c.args.position c.last_from-i.result.0 c.last_from-i.result.1 c.last_from-i.ensures.last (omega (arith, c.ops_len.ensures.value, c.if-position-ops_len.false)) c.if-at-position.true h
