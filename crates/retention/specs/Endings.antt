-- The end of a replay: its graph, what is reached and what leaked, and the cycles of this (profile of this project).
use Rattle.std.specs.Prelude.{ℕ, ◌≡◌, ◌<◌, ◌&&◌, ◌||◌, not, Bool, List, length, slice_index_or, false}
use Rattle.trace_types.specs.Operation.{Operation}
use Rattle.ownership_model.specs.State.{nothing_held}
use Rattle.ownership_model.specs.Step.{end_from, AreNew}
use Rattle.retention_model.specs.Since.{since_from}
use Rattle.retention.specs.declared.ending.Ending.{Ending}
use Rattle.retention.specs.Graph.{size, alive_at, is_root_at, IsGraphOf}
use Rattle.retention.specs.Walked.{has_come, IsWalkFrom}
use Rattle.retention.specs.Components.{AreCycles, is_least_of}

-- The walk is one from handles and cells; what leaked is alive and isn't seen; and the cycles are those of what leaked
pub record IsEnding (e : Ending) : Type 0 where
  pub roots : IsWalkFrom e.graph (is_root_at e.graph) e.from_roots
  pub long : length e.leaked.items ≡ size e.graph
  pub leaked : (i : ℕ) → i < size e.graph → slice_index_or e.leaked.items i false ≡ (alive_at e.graph i && not (has_come e.from_roots.steps.items i))
  pub cycles : AreCycles e.graph e.leaked.items e.cycles

-- the graph is that at the end of a whole trace
abbrev pub IsEndOf : List Operation → Ending → Type 0
IsEndOf ops e = AreNew nothing_held ops × IsGraphOf (end_from nothing_held ops) (λ p. since_from nothing_held ops p 0) e.graph

-- whether an object stands for a cycle, or is a husk, by the numbers of the graph
abbrev pub is_noted : Ending → ℕ → Bool
is_noted e i = is_least_of e.cycles.parts.items e.cycles.marks.items i || not (alive_at e.graph i)
