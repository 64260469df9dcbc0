use Rattle.std.proofs.Common.{◌≡◌, drop}
use Rattle.ownership_model.specs.Leaks.{holders_in}
use Rattle.leak_report.specs.HolderPass.{with_holders, leak_names}
use Rattle.leak_report.proofs.holders.push_holders.Given as goal

abbrev pub invariant-loop-object : goal.invariant-loop-object
invariant-loop-object l = record {
  held : with_holders (λ o. holders_in l.heap (drop l.object-index l.objects) o) l.leaks.items ≡ with_holders (λ o. holders_in l.heap l.objects o) l.initial.leaks.items;
  same : leak_names l.leaks.items ≡ l.names;
}
