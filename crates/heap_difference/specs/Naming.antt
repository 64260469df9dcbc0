-- The keys that operations and their outcomes name (profile of this project).
use Rattle.std.specs.Prelude.{List, [], ◌++◌, map, flat_map, if◌then◌else◌}
use Rattle.trace_types.specs.Operation.{Operation}
use Rattle.trace_types.specs.declared.outcomes.Outcome.{Outcome}
use Rattle.ownership_model.specs.declared.key.Key.{Key}
use Rattle.ownership_model.specs.declared.key.Key.TheVariants.{Object}
use Rattle.ownership_model.specs.View.{members}
use Rattle.ownership_model.specs.Footprint.{scope_keys, named_keys}
use Rattle.ownership_model.specs.Touched.{event_object, counted}
use Rattle.ownership_model.specs.Sets.{set_names_of, end_scopes}

-- what an operation names: the label whose scope it ends, handles, and a cell
abbrev pub op_keys : Operation → List Key
op_keys op = scope_keys op.thread op.kind ++ named_keys (members [] op.kind)

-- The objects of an outcome: those of its events, and that whose counts are told. The operation's own number is not needed: it is touched
-- only where an object is made, and then its counts are told
abbrev pub outcome_keys : Outcome → List Key
outcome_keys x = map Object (map event_object x.events ++ counted x.counts)

-- the keys that were told of operations, and all that these and their outcomes name
abbrev pub with_names : List Key → List Operation → List Outcome → List Key
with_names told ops outcomes = told ++ (flat_map op_keys ops ++ flat_map outcome_keys outcomes)

-- the keys that operations may set: what they and their outcomes name of it; and where one ends a scope, all that was told of them and that they name
abbrev pub with_sets : List Key → List Operation → List Outcome → List Key
with_sets told ops outcomes = set_names_of ops outcomes ++ (if end_scopes ops then with_names told ops outcomes else [])
