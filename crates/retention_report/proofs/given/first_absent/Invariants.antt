use Rattle.std.proofs.Common.{◌≡◌, drop}
use Rattle.retention_report.specs.Drawn.{first_absent}
use Rattle.retention_report.proofs.given.first_absent.Given as goal

abbrev pub invariant-loop-object : goal.invariant-loop-object
invariant-loop-object l = first_absent l.graph.objects.items (drop l.object-index l.objects) ≡ first_absent l.graph.objects.items l.objects
