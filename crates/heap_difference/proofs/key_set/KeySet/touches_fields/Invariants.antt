use Rattle.std.proofs.Common.{◌≡◌, take, false, map, [], ◌∷◌}
use Rattle.std.specs.List.{list_any}
use Rattle.heap_difference.specs.KeySets.{is_among}
use Rattle.ownership_model.specs.declared.key.Key.TheVariants.{Handle}
use Rattle.ownership_model.specs.View.{held_fields}
use Rattle.heap_difference.proofs.key_set.KeySet.touches_fields.Given as goal

abbrev pub invariant-loop-field : goal.invariant-loop-field
invariant-loop-field l = list_any (λ f. list_any (is_among l.self) (map Handle (held_fields (f ∷ [])))) (take l.field-index l.fields) ≡ false
