use Rattle.std.proofs.Common.{◌≡◌, ℕ, List, map, take, drop, get_or}
use Rattle.retention.specs.declared.walk.Step.TheVariants.{Never}
use Rattle.retention.specs.Graph.{held_at, IsFieldAt}
use Rattle.retention.specs.Walked.{CameBy}
use Rattle.retention.proofs.walk.Walk.way_to.Given as goal

abbrev pub invariant-loop : goal.invariant-loop
invariant-loop l = (way : List ℕ) → CameBy (IsFieldAt l.graph) l.self.steps.items l.index way
    → (o : ℕ) × CameBy (IsFieldAt l.graph) l.self.steps.items o (drop l.counter way) × (l.step ≡ get_or l.self.steps.items o Never) × (l.way.items ≡ map (held_at l.graph) (take l.counter way))
