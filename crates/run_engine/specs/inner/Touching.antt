-- What operations touch from two states, and the keys that are told of them.
use Rattle.std.specs.Prelude.{◌≡◌, ℕ, List, Option, IfSome, Vec}
use Rattle.std.specs.Arc.{arc_value}
use Rattle.std.specs.Option.{option_map}
use Rattle.std.specs.declared.sync.Arc.{Arc}
use Rattle.trace_types.specs.Operation.{Operation}
use Rattle.trace_types.specs.declared.outcomes.Outcome.{Outcome}
use Rattle.ownership_model.specs.declared.key.Key.{Key}
use Rattle.ownership_model.specs.State.{State}
use Rattle.ownership_model.specs.Footprint.{footprints_from, moved_from}
use Rattle.heap_difference.specs.Naming.{with_names}
use Rattle.heap_difference.specs.Filters.{HasKeys}

-- from both states operations touch the same, and move or copy the same
pub record TouchTheSame (m n : State) (ops : List Operation) : Type 0 where
  pub footprints : footprints_from m ops ≡ footprints_from n ops
  pub moved : moved_from m ops ≡ moved_from n ops

-- the keys of a list that is shared, if there is one
abbrev pub shared_keys : {A Z : Type 0} → Option (Arc (Vec Key A) Z) → Option (List Key)
shared_keys {A} keys = option_map (λ v. (arc_value {X = Vec Key A} v).items) keys

-- where there is a filter, and it is known what operations touch, move or copy, the filter has all of that
abbrev pub IsFiltered : Option (List ℕ) → Option (List Key) → List Operation → List Outcome → Type 0
IsFiltered filter keys ops outcomes = IfSome filter (λ f. IfSome keys (λ told. HasKeys f (with_names told ops outcomes)))
