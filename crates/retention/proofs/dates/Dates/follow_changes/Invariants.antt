use Rattle.std.proofs.Common.{take}
use Rattle.std.specs.List.{list_any}
use Rattle.retention_model.specs.Looked.{sets}
use Rattle.retention.specs.Dates.{Looks}
use Rattle.retention.proofs.dates.Dates.follow_changes.Given as goal

abbrev pub invariant-loop-change : goal.invariant-loop-change
invariant-loop-change l = Looks (λ p. list_any (sets p) (take l.change-index l.changes)) l.heap l.id l.initial.self l.self l.initial.moved.items l.moved.items
