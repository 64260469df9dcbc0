use Rattle.std.proofs.Common.{◌∙◌, ap, subst, take, arith}
use Rattle.std.proofs.Math.Seq.{take-length}
use Rattle.std.specs.Prelude.{flat_map}
use Rattle.heap_difference.specs.Filters.{HasPutIn}
use Rattle.heap_difference.proofs.FilterLemmas.{event_keys, all_events, put_part_at}
use Rattle.heap_difference.proofs.filter.Filter.put_events.Goals as goal

pub loop-event-preserved : goal.loop-event-preserved
loop-event-preserved c = put_part_at event_keys c.args.self.now c.loop-event.self c.put_event.new.self c.args.events.now c.loop-event.event-index _ c.loop-event-test.true c.loop-event.invariant c.put_event.ensures

pub returns : goal.returns
returns c =
    subst (λ ks. HasPutIn c.args.self.now c.loop-event.self ks)
    (ap (λ n. flat_map event_keys (take n c.args.events.now)) (omega (arith, c.loop-event-test.false, c.loop-event.auto.event-index-end)) ∙ ap (flat_map event_keys) (take-length c.args.events.now) ∙ all_events c.args.events.now)
    c.loop-event.invariant
