use Rattle.std.proofs.Common.{◌++◌, ◌∙◌, ap, sym, subst}
use Rattle.trace_types.specs.declared.kinds.Kind.{Kind}
use Rattle.ownership_model.specs.Alike.{Covers}
use Rattle.ownership_model.specs.Carry.{IsCarriable}
use Rattle.ownership_model.specs.Bounds.{PlanFits}
use Rattle.ownership_model.specs.Step.{Stepped}
use Rattle.ownership_model.specs.declared.plan.Plan.{Plan}
use Rattle.ownership_model.proofs.LawsHold.{soundness, bounds}
use Rattle.op_step.specs.Told.{unnamed_keys}
use Rattle.op_step.proofs.StepLemmas.{carried_out-step}
use Rattle.op_step.proofs.ToldLemmas.{covers_step}
use Rattle.op_step.proofs.carry.carried_told.Goals as goal

pub carry_out_told-requires-clause-carriable : goal.carry_out_told-requires-clause-carriable
carry_out_told-requires-clause-carriable c =
    subst (λ (p : Plan). IsCarriable c.args.heap.now p) (sym c.in_ok-planned.ensures)
    (soundness.rows c.args.heap.now c.args.op.now c.show_sound.ensures.sound c.requires)

pub carry_out_told-requires-clause-fits : goal.carry_out_told-requires-clause-fits
carry_out_told-requires-clause-fits c =
    subst (λ (p : Plan). PlanFits p) (sym c.in_ok-planned.ensures)
    (bounds.rows c.args.heap.now c.args.op.now c.show_sound.ensures.bounded c.id.ensures.within)

pub returns-clause-state : goal.returns-clause-state
returns-clause-state c =
    c.in_ok-outcome.ensures.state ∙ ap (λ (s : Stepped). s.state) (carried_out-step c.args.heap.now c.args.op.now c.id.result c.in_ok-planned.planned c.id.ensures.value c.in_ok-planned.ensures)

pub returns-clause-outcome : goal.returns-clause-outcome
returns-clause-outcome c =
    c.in_ok-outcome.ensures.outcome ∙ ap (λ (s : Stepped). s.outcome) (carried_out-step c.args.heap.now c.args.op.now c.id.result c.in_ok-planned.planned c.id.ensures.value c.in_ok-planned.ensures)

pub returns-clause-told : goal.returns-clause-told
returns-clause-told c =
    let m = c.args.heap.now in
    let op = c.args.op.now in
    let told : Covers c.tell_unnamed.new.keys.items (c.args.keys.now.items ++ unnamed_keys m op.kind c.in_ok-planned.planned) =
    subst (λ (kd : Kind). Covers c.tell_unnamed.new.keys.items (c.args.keys.now.items ++ unnamed_keys m kd c.in_ok-planned.planned)) c.kind.ensures c.in_ok-tell_unnamed.ensures in
    covers_step m op c.in_ok-planned.planned c.in_ok-outcome.outcome c.args.keys.now.items c.tell_unnamed.new.keys.items c.carry_out_told.new.keys.items
    told c.in_ok-planned.ensures
    (c.in_ok-outcome.ensures.outcome ∙ ap (λ (s : Stepped). s.outcome) (carried_out-step m op c.id.result c.in_ok-planned.planned c.id.ensures.value c.in_ok-planned.ensures))
    c.in_ok-outcome.ensures.told
