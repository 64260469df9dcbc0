use Rattle.std.proofs.Common.{◌+◌, count_by, take, ap, arith}
use Rattle.trace_types.specs.declared.outcomes.Outcome.{Outcome}
use Rattle.trace_types.specs.declared.stretches.Stretch.{Stretch}
use Rattle.trace_types.specs.Stretches.{outcomes_of}
use Rattle.leak_report.specs.Lines.{is_skipped}
use Rattle.leak_report.proofs.StretchLemmas.{flat_map_more, count_by-append, count_front}
use Rattle.leak_report.proofs.shown.skipped.Goals as goal

pub loop-stretch-preserved : goal.loop-stretch-preserved
loop-stretch-preserved c =
    let s = c.stretch-item.result in
    let p = λ (out : Outcome). is_skipped out.verdict in
    let next = flat_map_more (λ (s : Stretch). s.outcomes.now) c.args.stretches.now c.loop-stretch.stretch-index s c.loop-stretch-test.true c.stretch-item.is in
    omega (arith, c.loop-stretch.invariant, c.skipped_of-skipped.ensures, ap (count_by p) next, count_by-append p (outcomes_of (take c.loop-stretch.stretch-index c.args.stretches.now)) s.outcomes.now)

pub overflow_add-skipped : goal.overflow_add-skipped
overflow_add-skipped c =
    let s = c.stretch-item.result in
    let p = λ (out : Outcome). is_skipped out.verdict in
    let next = flat_map_more (λ (s : Stretch). s.outcomes.now) c.args.stretches.now c.loop-stretch.stretch-index s c.loop-stretch-test.true c.stretch-item.is in
    omega (
      arith,
      c.loop-stretch.invariant,
      c.requires,
      c.skipped_of-skipped.ensures,
      ap (count_by p) next,
      count_by-append p (outcomes_of (take c.loop-stretch.stretch-index c.args.stretches.now)) s.outcomes.now,
      count_front p c.args.stretches.now (c.loop-stretch.stretch-index + 1),
    )
