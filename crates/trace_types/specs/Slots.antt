-- What a slot names (std::sync::Arc, std::sync::Weak).
use Rattle.std.specs.Prelude.{ℕ, Option, Some, None}
use Rattle.trace_types.specs.declared.slots.Slot.{Slot}
use Rattle.trace_types.specs.declared.slots.Slot.TheVariants.{Nothing, Strong, Weak, Dangling}

-- the object that a slot names, strongly or weakly
abbrev pub named_by : Slot → Option ℕ
named_by Nothing = None
named_by (Strong o) = Some o
named_by (Weak o) = Some o
named_by Dangling = None
