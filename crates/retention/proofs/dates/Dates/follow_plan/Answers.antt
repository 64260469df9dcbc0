use Rattle.std.proofs.Common.{ap, sym}
use Rattle.std.specs.Prelude.{false}
use Rattle.retention_model.specs.declared.place.Place.{Place}
use Rattle.retention_model.specs.Looked.{is_set}
use Rattle.retention.proofs.LookLemmas.{looks_none, looks_as}
use Rattle.retention.proofs.dates.Dates.follow_plan.Goals as goal

pub returns-in-Skip : goal.returns-in-Skip
returns-in-Skip c =
    looks_as (λ p. false) (λ p. is_set p c.args.plan.now) _ _ _ _ _ _ (λ (p : Place). sym (ap (is_set p) c.in-Skip.is))
    (looks_none c.args.heap.now c.args.id c.args.self.now c.args.moved.now.items)
