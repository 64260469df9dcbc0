use Rattle.std.proofs.Common.{arith}
use Rattle.std.proofs.lemmas.List.{get_or_default}
use Rattle.retention_model.specs.Looked.{tells}
use Rattle.retention.proofs.LookLemmas.{looks_none, looks_more, looks_all}
use Rattle.retention.proofs.dates.Dates.follow_events.Goals as goal

pub loop-event-init : goal.loop-event-init
loop-event-init c = looks_none c.args.heap.now c.args.id c.args.self.now c.args.moved.now.items

pub loop-event-preserved : goal.loop-event-preserved
loop-event-preserved c =
    looks_more tells c.args.events.now c.loop-event.event-index _ _ _ _ _ _ _ _ _ c.loop-event.invariant c.in_ok-follow_event.ensures c.loop-event-test.true (get_or_default c.args.events.now c.loop-event.event-index _ _ c.loop-event-test.true)

pub returns : goal.returns
returns c = looks_all tells c.args.events.now c.loop-event.event-index _ _ _ _ _ _ c.loop-event.invariant (omega (arith, c.loop-event-test.false))
