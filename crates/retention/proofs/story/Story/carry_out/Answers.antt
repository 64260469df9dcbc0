use Rattle.std.proofs.Common.{◌∙◌, ap}
use Rattle.trace_types.specs.declared.outcomes.Outcome.{Outcome}
use Rattle.retention.proofs.TellLemmas.{steps_to}
use Rattle.retention.proofs.story.Story.carry_out.Goals as goal

pub returns-clause-moves : goal.returns-clause-moves
returns-clause-moves c =
    steps_to c.args.self.now.end c.step_in_place.new.heap c.args.op.now c.in_ok-plan.plan c.as_slice.result.now c.id.result c.args.self.now.dates c.follow.new.self
    c.clear.new.self.items c.follow.new.moved.items c.sort_moved.new.moved.items
    c.in_ok-plan.ensures (c.as_slice.ensures ∙ ap (λ (x : Outcome). x.events) c.in_ok-outcome.ensures.outcome) c.in_ok-outcome.ensures.state c.id.ensures.value
    c.clear.ensures.items c.in_ok-follow.ensures c.in_ok-sort_moved.ensures.each c.in_ok-sort_moved.ensures.in_order
