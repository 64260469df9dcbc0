use Rattle.std.proofs.Common.{◌≡◌, ◌∙◌, ap, sym, subst, true, false, List}
use Rattle.std.proofs.lemmas.List.{take_all}
use Rattle.std.proofs.lemmas.List.Folds.{list_any_at}
use Rattle.trace_types.specs.Operation.{Operation}
use Rattle.ownership_model.specs.Before.{is_scope_end}
use Rattle.ownership_model.specs.Sets.{end_scopes}
use Rattle.heap_difference.proofs.setting.end_scopes.Goals as goal

pub returns-then-is_scope_end : goal.returns-then-is_scope_end
returns-then-is_scope_end c =
    let here : is_scope_end c.op-item.result.kind ≡ true = ap is_scope_end (sym c.kind.ensures) ∙ sym c.is_scope_end.ensures ∙ c.if-is_scope_end.true in
    sym (list_any_at (λ (op : Operation). is_scope_end op.kind) c.args.ops.now c.loop-op.op-index c.op-item.result c.loop-op-test.true
    (subst (λ (op : Operation). is_scope_end op.kind ≡ true) c.op-item.is here))

pub returns : goal.returns
returns c = sym (subst (λ (ops : List Operation). end_scopes ops ≡ false) (take_all c.loop-op.op-index c.args.ops.now c.loop-op-test.false) c.loop-op.invariant)
