use Rattle.std.proofs.Common.{sym, arith}
use Rattle.retention_model.specs.Looked.{sets}
use Rattle.retention.proofs.LookLemmas.{looks_none, looks_more, looks_all}
use Rattle.retention.proofs.dates.Dates.follow_changes.Goals as goal

pub loop-change-init : goal.loop-change-init
loop-change-init c = looks_none c.args.heap.now c.args.id c.args.self.now c.args.moved.now.items

pub loop-change-preserved : goal.loop-change-preserved
loop-change-preserved c =
    looks_more sets c.args.changes.now c.loop-change.change-index c.change-item.result _ _ _ _ _ _ _ _ c.loop-change.invariant c.in_ok-follow_change.ensures c.loop-change-test.true (sym c.change-item.is)

pub returns : goal.returns
returns c = looks_all sets c.args.changes.now c.loop-change.change-index _ _ _ _ _ _ c.loop-change.invariant (omega (arith, c.loop-change-test.false))
