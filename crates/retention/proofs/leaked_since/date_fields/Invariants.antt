use Rattle.retention.specs.DatingSteps.{AreDatedBefore}
use Rattle.retention.proofs.leaked_since.date_fields.Given as goal

abbrev pub invariant-loop-place : goal.invariant-loop-place
invariant-loop-place l = AreDatedBefore l.graph l.leaked l.source l.id l.initial.since.items l.since.items l.initial.todo.items l.todo.items l.place
