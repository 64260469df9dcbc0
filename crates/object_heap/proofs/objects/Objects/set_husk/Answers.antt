use Rattle.std.proofs.Common.{sym, subst}
use Rattle.std.specs.Ordering.{nat_cmp}
use Rattle.std.specs.FinMap.{FinMap}
use Rattle.trace_types.specs.declared.slots.Entry.{Entry}
use Rattle.object_heap.specs.TableView.{TableView}
use Rattle.object_heap.specs.Descent.{AreRanked}
use Rattle.object_heap.proofs.GainLemmas.{either_way}
use Rattle.object_heap.proofs.DescentLemmas.{descend_husk}
use Rattle.object_heap.proofs.objects.Objects.set_husk.Goals as goal

pub invariant_of-self : goal.invariant_of-self
invariant_of-self c =
    let ranks = c.self.inside.ranks in
    let from = c.self.inside.from in
    let old = c.self.inside.table in
    either_way c.set_husk.result c.set_husk.ensures.entries c.set_husk.ensures.err
    (λ is. subst (λ (es : FinMap nat_cmp Entry). AreRanked ranks from es) (sym is) (descend_husk ranks from c.args.object old.entries c.self.invariant))
    (λ same. subst (λ (t : TableView). AreRanked ranks from t.entries) (sym same) c.self.invariant)
