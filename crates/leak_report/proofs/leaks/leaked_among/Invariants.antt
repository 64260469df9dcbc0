use Rattle.std.proofs.Common.{◌≡◌, take}
use Rattle.std.specs.Ordering.{nat_cmp}
use Rattle.std.specs.BTreeSet.{contains}
use Rattle.ownership_model.specs.Leaks.{leaked_in}
use Rattle.leak_report.proofs.leaks.leaked_among.Given as goal

abbrev pub invariant-loop-object : goal.invariant-loop-object
invariant-loop-object l = l.names.items ≡ leaked_in (λ o. contains nat_cmp l.reached o) l.heap (take l.object-index l.objects)
