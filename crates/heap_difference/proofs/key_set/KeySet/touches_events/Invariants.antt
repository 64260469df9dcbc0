use Rattle.std.proofs.Common.{◌≡◌, take, false}
use Rattle.std.specs.List.{list_any}
use Rattle.heap_difference.specs.KeySets.{is_among}
use Rattle.ownership_model.specs.declared.key.Key.TheVariants.{Object}
use Rattle.ownership_model.specs.Touched.{event_object}
use Rattle.heap_difference.proofs.key_set.KeySet.touches_events.Given as goal

abbrev pub invariant-loop-event : goal.invariant-loop-event
invariant-loop-event l = list_any (λ e. is_among l.self (Object (event_object e))) (take l.event-index l.events) ≡ false
