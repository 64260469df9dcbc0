use Rattle.std.proofs.Common.{◌≡◌, drop}
use Rattle.retention_report.specs.Explained.{first_unmade}
use Rattle.retention_report.specs.Sources.{objects_of}
use Rattle.retention_report.proofs.lives.first_unmade.Given as goal

abbrev pub invariant-loop-object : goal.invariant-loop-object
invariant-loop-object l = first_unmade (objects_of l.lives) (drop l.object-index l.objects) ≡ first_unmade (objects_of l.lives) l.objects
