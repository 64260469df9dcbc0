-- A plan that is the row of the table, carried out, is the step.
use Rattle.std.proofs.Common.{◌≡◌, ℕ, ap, ◌∙◌}
use Rattle.trace_types.specs.Operation.{Operation}
use Rattle.ownership_model.specs.State.{State}
use Rattle.ownership_model.specs.View.{view_of}
use Rattle.ownership_model.specs.Table.{row}
use Rattle.ownership_model.specs.Step.{step, carried_out}
use Rattle.ownership_model.specs.declared.plan.Plan.{Plan}

pub carried_out-step : (m : State) (op : Operation) (id : ℕ) (p : Plan) → id ≡ op.id → p ≡ row op (view_of m op.thread op.kind) → carried_out m id p ≡ step m op
unfolding step
carried_out-step m op id p e f = ap (λ n. carried_out m n p) e ∙ ap (λ (q : Plan). carried_out m op.id q) f
