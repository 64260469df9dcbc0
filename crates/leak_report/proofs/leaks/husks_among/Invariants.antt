use Rattle.std.proofs.Common.{◌≡◌, take}
use Rattle.ownership_model.specs.Leaks.{husks_in}
use Rattle.leak_report.proofs.leaks.husks_among.Given as goal

abbrev pub invariant-loop-object : goal.invariant-loop-object
invariant-loop-object l = l.husks.items ≡ husks_in l.heap (take l.object-index l.objects)
