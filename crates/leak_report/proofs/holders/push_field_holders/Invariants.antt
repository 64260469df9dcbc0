use Rattle.std.proofs.Common.{◌≡◌, drop}
use Rattle.ownership_model.specs.Leaks.{fields_holding}
use Rattle.leak_report.specs.HolderPass.{with_holders, leak_names}
use Rattle.leak_report.proofs.holders.push_field_holders.Given as goal

abbrev pub invariant-loop-i : goal.invariant-loop-i
invariant-loop-i l = record {
  held : with_holders (λ o. fields_holding o l.object l.i (drop l.i l.fields)) l.leaks.items ≡ with_holders (λ o. fields_holding o l.object 0 l.fields) l.initial.leaks.items;
  same : leak_names l.leaks.items ≡ l.names;
}
