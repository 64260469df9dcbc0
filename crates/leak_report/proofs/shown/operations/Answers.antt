use Rattle.std.proofs.Common.{◌+◌, length, take, ap, arith, length-append}
use Rattle.trace_types.specs.declared.stretches.Stretch.{Stretch}
use Rattle.trace_types.specs.Stretches.{ops_of}
use Rattle.leak_report.proofs.StretchLemmas.{flat_map_more, flat_map_front}
use Rattle.leak_report.proofs.shown.operations.Goals as goal

pub loop-stretch-preserved : goal.loop-stretch-preserved
loop-stretch-preserved c =
    let s = c.stretch-item.result in
    let next = flat_map_more (λ (s : Stretch). s.ops.now) c.args.stretches.now c.loop-stretch.stretch-index s c.loop-stretch-test.true c.stretch-item.is in
    omega (arith, c.loop-stretch.invariant, ap length next, length-append (ops_of (take c.loop-stretch.stretch-index c.args.stretches.now)) s.ops.now)

pub overflow_add-operations : goal.overflow_add-operations
overflow_add-operations c =
    let s = c.stretch-item.result in
    let next = flat_map_more (λ (s : Stretch). s.ops.now) c.args.stretches.now c.loop-stretch.stretch-index s c.loop-stretch-test.true c.stretch-item.is in
    omega (
      arith,
      c.loop-stretch.invariant,
      c.requires,
      ap length next,
      length-append (ops_of (take c.loop-stretch.stretch-index c.args.stretches.now)) s.ops.now,
      flat_map_front (λ (s : Stretch). s.ops.now) c.args.stretches.now (c.loop-stretch.stretch-index + 1),
    )
