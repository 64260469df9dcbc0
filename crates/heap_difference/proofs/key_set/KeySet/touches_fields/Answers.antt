use Rattle.std.proofs.Common.{◌≡◌, ◌∙◌, sym, subst, map, false, List, [], ◌∷◌}
use Rattle.std.specs.List.{list_any}
use Rattle.std.proofs.lemmas.List.{take_all}
use Rattle.std.proofs.lemmas.List.Folds.{list_any_at}
use Rattle.trace_types.specs.declared.kinds.Field.{Field}
use Rattle.trace_types.specs.declared.kinds.Field.TheVariants.{Held}
use Rattle.ownership_model.specs.declared.key.Key.TheVariants.{Handle}
use Rattle.ownership_model.specs.View.{held_fields}
use Rattle.heap_difference.specs.KeySets.{is_among}
use Rattle.heap_difference.proofs.NamingLemmas.{any_field}
use Rattle.heap_difference.proofs.key_set.KeySet.touches_fields.Goals as goal

pub returns-then-touches_field : goal.returns-then-touches_field
returns-then-touches_field c =
    let p = is_among c.args.self.now in
    sym (any_field p c.args.fields.now
    ∙ list_any_at (λ f. list_any p (map Handle (held_fields (f ∷ [])))) c.args.fields.now c.loop-field.field-index (Held 0) c.loop-field-test.true (sym c.touches_field.ensures ∙ c.if-touches_field.true))

pub returns : goal.returns
returns c =
    let p = is_among c.args.self.now in
    sym (any_field p c.args.fields.now
    ∙ subst (λ (fs : List Field). list_any (λ f. list_any p (map Handle (held_fields (f ∷ [])))) fs ≡ false) (take_all c.loop-field.field-index c.args.fields.now c.loop-field-test.false) c.loop-field.invariant)
