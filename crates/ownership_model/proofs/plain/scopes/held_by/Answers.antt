use Rattle.std.proofs.Common.{◌++◌, ◌+◌, ◌∙◌, ap, sym, arith, drop}
use Rattle.std.proofs.lemmas.List.{drop_more}
use Rattle.ownership_model.specs.View.{elements_of}
use Rattle.ownership_model.specs.Table.{held_drops}
use Rattle.ownership_model.specs.Plain.{state_of}
use Rattle.ownership_model.proofs.PlainScopes.{held_next}
use Rattle.ownership_model.proofs.plain.scopes.held_by.Goals as goal

pub loop-field-preserved : goal.loop-field-preserved
loop-field-preserved c =
    let fields = c.args.fields.now in
    let m = state_of c.args.state.now in
    ap (λ is. is ++ held_drops (elements_of m (drop (c.loop-field.field-index + 1) fields))) c.in_ok-push_field.ensures
    ∙ held_next c.loop-field.pending.items _ (elements_of m (drop (c.loop-field.field-index + 1) fields))
    ∙ ap (λ fs. c.loop-field.pending.items ++ held_drops (elements_of m fs)) (sym (drop_more fields c.loop-field.field-index _ (omega arith)))
    ∙ c.loop-field.invariant
