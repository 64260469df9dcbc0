use Rattle.std.proofs.Common.{◌∙◌, [], ap, sym, subst}
use Rattle.ownership_model.specs.State.{State, IsSound}
use Rattle.ownership_model.specs.Bounds.{IsBounded, PlanFits}
use Rattle.ownership_model.specs.Carry.{IsCarriable}
use Rattle.ownership_model.specs.Step.{Stepped}
use Rattle.ownership_model.specs.Plain.{state_of}
use Rattle.ownership_model.specs.declared.plan.Plan.{Plan}
use Rattle.ownership_model.proofs.CarryLemmas.{row_carriable, step_sound}
use Rattle.ownership_model.proofs.FitLemmas.{row_fits, step_bounded}
use Rattle.ownership_model.proofs.PlainLemmas.{carried_out-step, on_ok, if_ok}
use Rattle.ownership_model.proofs.plain.state.PlainState.step.Goals as goal

pub carry_out-requires-clause-carriable : goal.carry_out-requires-clause-carriable
carry_out-requires-clause-carriable c =
    subst (λ (p : Plan). IsCarriable (state_of c.args.self.now) p) (sym c.in_ok-plan.ensures)
    (row_carriable (state_of c.args.self.now) c.args.op.now c.requires.sound c.requires.is_new)

pub carry_out-requires-clause-fits : goal.carry_out-requires-clause-fits
carry_out-requires-clause-fits c =
    subst (λ (p : Plan). PlanFits p) (sym c.in_ok-plan.ensures)
    (row_fits (state_of c.args.self.now) c.args.op.now c.requires.bounded c.id.ensures.within)

pub returns-clause-state : goal.returns-clause-state
returns-clause-state c =
    on_ok c.carry_out.result c.carry_out.ensures.state (λ is.
    is ∙ ap (λ (s : Stepped). s.state) (carried_out-step (state_of c.args.self.now) c.args.op.now c.id.result c.in_ok-plan.plan c.id.ensures.value c.in_ok-plan.ensures))

pub returns-clause-outcome : goal.returns-clause-outcome
returns-clause-outcome c =
    if_ok c.carry_out.result c.carry_out.ensures.outcome (λ outcome is.
    is ∙ ap (λ (s : Stepped). s.outcome) (carried_out-step (state_of c.args.self.now) c.args.op.now c.id.result c.in_ok-plan.plan c.id.ensures.value c.in_ok-plan.ensures))

pub returns-clause-sound : goal.returns-clause-sound
returns-clause-sound c =
    on_ok c.carry_out.result (returns-clause-state c) (λ is.
    subst (λ (m : State). IsSound m []) (sym is) (step_sound (state_of c.args.self.now) c.args.op.now c.requires.sound c.requires.is_new))

pub returns-clause-bounded : goal.returns-clause-bounded
returns-clause-bounded c =
    on_ok c.carry_out.result (returns-clause-state c) (λ is.
    subst (λ (m : State). IsBounded m) (sym is) (step_bounded (state_of c.args.self.now) c.args.op.now c.requires.sound c.requires.bounded c.id.ensures.within c.requires.is_new))
