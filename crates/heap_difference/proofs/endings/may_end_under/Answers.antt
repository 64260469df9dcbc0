use Rattle.std.proofs.Common.{◌≡◌, ◌∙◌, ap, sym, subst, true, false, List}
use Rattle.std.specs.List.{list_any}
use Rattle.std.proofs.lemmas.List.{take_all}
use Rattle.std.proofs.lemmas.List.Folds.{list_any_at}
use Rattle.trace_types.specs.Operation.{Operation}
use Rattle.heap_difference.specs.Endings.{may_end}
use Rattle.heap_difference.specs.Puts.{unders}
use Rattle.heap_difference.proofs.endings.may_end_under.Goals as goal

pub returns-then-may_end_one : goal.returns-then-may_end_one
returns-then-may_end_one c =
    let us = unders c.args.puts.now in
    let here : list_any (may_end c.op-item.result.kind) us ≡ true = ap (λ k. list_any (may_end k) us) (sym c.kind.ensures) ∙ sym c.may_end_one.ensures ∙ c.if-may_end_one.true in
    sym (list_any_at (λ (op : Operation). list_any (may_end op.kind) us) c.args.ops.now c.loop-op.op-index c.op-item.result c.loop-op-test.true
    (subst (λ (op : Operation). list_any (may_end op.kind) us ≡ true) c.op-item.is here))

pub returns : goal.returns
returns c =
    let us = unders c.args.puts.now in
    sym (subst (λ (xs : List Operation). list_any (λ op. list_any (may_end op.kind) us) xs ≡ false) (take_all c.loop-op.op-index c.args.ops.now c.loop-op-test.false) c.loop-op.invariant)
