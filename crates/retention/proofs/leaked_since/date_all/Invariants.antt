use Rattle.std.proofs.Common.{◌+◌, length}
use Rattle.retention.specs.DatingSteps.{undated, IsDating}
use Rattle.retention.proofs.leaked_since.date_all.Given as goal

abbrev pub invariant-loop-source : goal.invariant-loop-source
invariant-loop-source l = IsDating l.graph l.leaked l.index l.id l.fn.since.items l.since.items l.todo.items

abbrev pub decreases-loop-source : goal.decreases-loop-source
decreases-loop-source l = undated l.since.items + undated l.since.items + length l.todo.items
