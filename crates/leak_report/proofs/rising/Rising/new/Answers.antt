use Rattle.std.proofs.Common.{subst, sym, ℕ, List}
use Rattle.std.specs.Ordering.{nat_cmp}
use Rattle.std.specs.List.Sorted.{IsStrictlySortedBy}
use Rattle.leak_report.proofs.RisingLemmas.{rising-none}
use Rattle.leak_report.proofs.rising.Rising.new.Goals as goal

pub invariant_of-result : goal.invariant_of-result
invariant_of-result c = subst (λ (ks : List ℕ). IsStrictlySortedBy nat_cmp ks) (sym c.new.ensures.items) rising-none
