use Rattle.std.proofs.lemmas.Result.{on_ok_weaker}
use Rattle.retention_model.specs.Looked.{tells, is_set}
use Rattle.std.specs.List.{list_any}
use Rattle.retention.proofs.LookLemmas.{looks_then}
use Rattle.retention.proofs.dates.Dates.follow.Goals as goal

pub returns : goal.returns
returns c =
    on_ok_weaker c.follow_events.result
    (λ then. looks_then (λ p. is_set p c.args.plan.now) (λ p. list_any (tells p) c.args.events.now) _ _ _ _ _ _ _ _ c.in_ok-follow_plan.ensures then) c.follow_events.ensures
