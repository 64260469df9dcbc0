use Rattle.std.proofs.Common.{◌≡◌, ◌∙◌, sym, subst, false, List, [], ◌∷◌}
use Rattle.std.specs.List.{list_any}
use Rattle.std.proofs.lemmas.List.{take_all}
use Rattle.std.proofs.lemmas.List.Folds.{list_any_at}
use Rattle.trace_types.specs.declared.kinds.Field.{Field}
use Rattle.trace_types.specs.declared.kinds.Field.TheVariants.{Held}
use Rattle.ownership_model.specs.Reach.{has}
use Rattle.ownership_model.specs.View.{held_fields}
use Rattle.heap_difference.proofs.MayEndLemmas.{has_field}
use Rattle.heap_difference.proofs.endings.is_moved.Goals as goal

pub returns-then-is_held : goal.returns-then-is_held
returns-then-is_held c =
    sym (has_field c.args.handle c.args.fields.now
    ∙ list_any_at (λ f. has c.args.handle (held_fields (f ∷ []))) c.args.fields.now c.loop-field.field-index (Held 0) c.loop-field-test.true (sym c.is_held.ensures ∙ c.if-is_held.true))

pub returns : goal.returns
returns c =
    sym (has_field c.args.handle c.args.fields.now
    ∙ subst (λ (fs : List Field). list_any (λ f. has c.args.handle (held_fields (f ∷ []))) fs ≡ false) (take_all c.loop-field.field-index c.args.fields.now c.loop-field-test.false) c.loop-field.invariant)
