use Rattle.std.proofs.Common.{◌≡◌, take}
use Rattle.retention_report.specs.Drawn.{indices_in}
use Rattle.retention_report.proofs.given.indices_of.Given as goal

abbrev pub invariant-loop-object : goal.invariant-loop-object
invariant-loop-object l = l.indices.items ≡ indices_in l.graph.objects.items (take l.object-index l.objects)
