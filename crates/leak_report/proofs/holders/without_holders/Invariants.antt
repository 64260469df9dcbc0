use Rattle.std.proofs.Common.{◌≡◌, take}
use Rattle.leak_report.specs.HolderPass.{unheld}
use Rattle.leak_report.proofs.holders.without_holders.Given as goal

abbrev pub invariant-loop-object : goal.invariant-loop-object
invariant-loop-object l = l.leaks.items ≡ unheld (take l.object-index l.names)
