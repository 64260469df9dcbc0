use Rattle.std.proofs.Common.{◌≡◌, take, false, [], ◌∷◌}
use Rattle.std.specs.List.{list_any}
use Rattle.ownership_model.specs.Reach.{has}
use Rattle.ownership_model.specs.View.{held_fields}
use Rattle.heap_difference.proofs.endings.is_moved.Given as goal

abbrev pub invariant-loop-field : goal.invariant-loop-field
invariant-loop-field l = list_any (λ f. has l.handle (held_fields (f ∷ []))) (take l.field-index l.fields) ≡ false
