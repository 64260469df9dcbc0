use Rattle.std.proofs.Common.{◌≡◌, map, take}
use Rattle.leak_report.specs.Told.{begins}
use Rattle.leak_report.proofs.lives.begun.Given as goal

abbrev pub invariant-loop-object : goal.invariant-loop-object
invariant-loop-object l = l.lives.items ≡ map begins (take l.object-index l.made)
