use Rattle.std.proofs.Common.{◌∙◌, ap, sym, subst}
use Rattle.ownership_model.specs.Carry.{IsCarriable}
use Rattle.ownership_model.specs.Bounds.{PlanFits}
use Rattle.ownership_model.specs.Step.{Stepped}
use Rattle.ownership_model.specs.declared.plan.Plan.{Plan}
use Rattle.ownership_model.proofs.LawsHold.{soundness, bounds}
use Rattle.op_step.proofs.StepLemmas.{carried_out-step}
use Rattle.op_step.proofs.carry.carried.Goals as goal

pub carry_out-requires-clause-carriable : goal.carry_out-requires-clause-carriable
carry_out-requires-clause-carriable c =
    subst (λ (p : Plan). IsCarriable c.args.heap.now p) (sym c.in_ok-planned.ensures)
    (soundness.rows c.args.heap.now c.args.op.now c.show_sound.ensures.sound c.requires)

pub carry_out-requires-clause-fits : goal.carry_out-requires-clause-fits
carry_out-requires-clause-fits c =
    subst (λ (p : Plan). PlanFits p) (sym c.in_ok-planned.ensures)
    (bounds.rows c.args.heap.now c.args.op.now c.show_sound.ensures.bounded c.id.ensures.within)

pub returns-clause-state : goal.returns-clause-state
returns-clause-state c =
    c.in_ok-outcome.ensures.state ∙ ap (λ (s : Stepped). s.state) (carried_out-step c.args.heap.now c.args.op.now c.id.result c.in_ok-planned.planned c.id.ensures.value c.in_ok-planned.ensures)

pub returns-clause-outcome : goal.returns-clause-outcome
returns-clause-outcome c =
    c.in_ok-outcome.ensures.outcome ∙ ap (λ (s : Stepped). s.outcome) (carried_out-step c.args.heap.now c.args.op.now c.id.result c.in_ok-planned.planned c.id.ensures.value c.in_ok-planned.ensures)
