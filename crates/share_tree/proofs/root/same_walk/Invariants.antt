use Rattle.std.proofs.Common.{◌-◌, ◌^◌}
use Rattle.share_tree.specs.Levels.{root_at}
use Rattle.share_tree.specs.Digits.{AgreesBelow}
use Rattle.share_tree.proofs.root.same_walk.Given as goal

abbrev pub invariant-loop-key : goal.invariant-loop-key
invariant-loop-key g l = AgreesBelow l.from (root_at l.a) (root_at l.b)

abbrev pub decreases-loop-key : goal.decreases-loop-key
decreases-loop-key g l = 2 ^ 32 - l.from
