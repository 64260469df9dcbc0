use Rattle.std.proofs.Common.{◌++◌, ◌∷◌, [], take, drop, ap, ◌∙◌, arith}
use Rattle.std.proofs.lemmas.List.{drop_all, take_all}
use Rattle.trace_types.specs.declared.outcomes.Outcome.{Outcome}
use Rattle.op_step.specs.Meter.{raised}
use Rattle.op_step.specs.Told.{replay_keys}
use Rattle.op_step.proofs.MeterLemmas.{raised-next}
use Rattle.op_step.proofs.ToldLemmas.{new_next, outcomes_next, end_next, covers_next, covers_end}
use Rattle.op_step.proofs.replay.replay_told.Goals as goal

pub loop-op-preserved : goal.loop-op-preserved
loop-op-preserved c =
    let m = c.loop-op.heap in
    let n = c.step_told_in.new.heap in
    let ops = c.args.ops.now in
    let i = c.loop-op.op-index in
    let op = c.op-item.result in
    let made = c.in_ok-step_told_in.ensures.state in
    let so_far = c.loop-op.invariant in
    record {
      are_new = new_next m n ops i op (omega arith) c.op-item.is made so_far.are_new;
      told =
          outcomes_next m n ops i op (omega arith) c.op-item.is made c.loop-op.outcomes.items c.push.new.self.items
          (c.in_ok-push.ensures.items ∙ ap (λ (o : Outcome). c.loop-op.outcomes.items ++ o ∷ []) c.in_ok-step_told_in.ensures.outcome)
          ∙ so_far.told;
      rest = end_next m n ops i op (omega arith) c.op-item.is made ∙ so_far.rest;
      counted = c.in_ok-step_told_in.ensures.counted ∙ ap (λ n. raised n 1) so_far.counted ∙ raised-next c.args.meter.now i;
      keys =
          covers_next m n ops i op (omega arith) c.op-item.is made c.loop-op.keys.items c.step_told_in.new.keys.items (c.args.keys.now.items ++ replay_keys c.args.start ops)
          c.loop-op.outcomes.items c.push.new.self.items c.in_ok-step_told_in.field-0 c.in_ok-step_told_in.ensures.told c.in_ok-push.ensures.items so_far.keys;
    }

pub returns-clause-told : goal.returns-clause-told
returns-clause-told c =
    let ops = c.args.ops.now in
    rw c.from_vec.ensures
    (covers_end c.loop-op.heap (take c.loop-op.op-index ops) ops (drop c.loop-op.op-index ops) c.loop-op.outcomes.items c.loop-op.keys.items (c.args.keys.now.items ++ replay_keys c.args.start ops)
    (drop_all c.loop-op.op-index ops (omega arith)) (take_all c.loop-op.op-index ops c.loop-op-test.false) c.loop-op.invariant.keys)
