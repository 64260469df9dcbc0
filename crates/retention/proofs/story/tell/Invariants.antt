use Rattle.std.proofs.Common.{drop}
use Rattle.retention.specs.Stories.{IsUnderWay}
use Rattle.retention.proofs.story.tell.Given as goal

abbrev pub invariant-loop-position : goal.invariant-loop-position
invariant-loop-position l = IsUnderWay l.ops (drop l.position l.ops) l.position l.with_marks l.story
