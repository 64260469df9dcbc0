use Rattle.std.proofs.Common.{◌≡◌, take}
use Rattle.std.specs.Prelude.{filter}
use Rattle.retention.proofs.NotedTold.{is_of_note}
use Rattle.retention.proofs.noted.objects_of_note.Given as goal

abbrev pub invariant-loop-index : goal.invariant-loop-index
invariant-loop-index l = l.noted.items ≡ filter (is_of_note l.end) (take l.index l.end.graph.objects.items)
