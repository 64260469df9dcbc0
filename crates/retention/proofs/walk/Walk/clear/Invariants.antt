use Rattle.std.proofs.Common.{◌≡◌, length}
use Rattle.retention.specs.Walked.{AreListed}
use Rattle.retention.proofs.walk.Walk.clear.Given as goal

abbrev pub invariant-loop-index : goal.invariant-loop-index
invariant-loop-index l = AreListed l.self.steps.items l.self.came.items × (length l.self.steps.items ≡ length l.initial.self.steps.items)

abbrev pub decreases-loop-index : goal.decreases-loop-index
decreases-loop-index l = length l.self.came.items
