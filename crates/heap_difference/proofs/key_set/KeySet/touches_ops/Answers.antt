use Rattle.std.proofs.Common.{◌≡◌, ◌∙◌, sym, subst, true, false, List}
use Rattle.std.specs.List.{list_any}
use Rattle.std.proofs.lemmas.List.{take_all}
use Rattle.std.proofs.lemmas.List.Folds.{list_any_at}
use Rattle.trace_types.specs.Operation.{Operation}
use Rattle.heap_difference.specs.KeySets.{is_among}
use Rattle.heap_difference.specs.Naming.{op_keys}
use Rattle.heap_difference.proofs.NamingLemmas.{any_part}
use Rattle.heap_difference.proofs.key_set.KeySet.touches_ops.Goals as goal

pub returns-then-touches_op : goal.returns-then-touches_op
returns-then-touches_op c =
    let p = is_among c.args.self.now in
    let here : list_any p (op_keys c.op-item.result) ≡ true = sym c.touches_op.ensures ∙ c.if-touches_op.true in
    sym (any_part p op_keys c.args.ops.now
    ∙ list_any_at (λ x. list_any p (op_keys x)) c.args.ops.now c.loop-op.op-index c.op-item.result c.loop-op-test.true
    (subst (λ x. list_any p (op_keys x) ≡ true) c.op-item.is here))

pub returns : goal.returns
returns c =
    let p = is_among c.args.self.now in
    sym (any_part p op_keys c.args.ops.now
    ∙ subst (λ (xs : List Operation). list_any (λ x. list_any p (op_keys x)) xs ≡ false) (take_all c.loop-op.op-index c.args.ops.now c.loop-op-test.false) c.loop-op.invariant)
