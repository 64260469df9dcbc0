use Rattle.std.proofs.Common.{◌++◌, ◌∙◌, ap, arith}
use Rattle.object_heap.proofs.CoverLemmas.{covers_same, covers_next, covers_all}
use Rattle.op_step.specs.Told.{ended_key}
use Rattle.op_step.proofs.told.tell_ended.Goals as goal

pub loop-change-preserved : goal.loop-change-preserved
loop-change-preserved c =
    let x = c.change-item.result in
    covers_next ended_key c.args.changes.now c.loop-change.change-index x c.loop-change-test.true c.args.keys.now.items c.loop-change.keys.items c.tell_end.new.keys.items c.loop-change.invariant
    (covers_same c.tell_end.new.keys.items _ (c.in_ok-tell_end.ensures ∙ ap (λ y. c.loop-change.keys.items ++ ended_key y) c.change-item.is))

pub returns : goal.returns
returns c = covers_all ended_key c.args.changes.now c.loop-change.change-index c.loop-change-test.false c.args.keys.now.items c.loop-change.keys.items c.loop-change.invariant
