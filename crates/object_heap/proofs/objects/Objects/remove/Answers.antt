use Rattle.std.specs.FinMap.{remove}
use Rattle.object_heap.specs.Descent.{AreRanked}
use Rattle.object_heap.specs.TableView.{TableView}
use Rattle.object_heap.proofs.DescentLemmas.{after, descend_remove}
use Rattle.object_heap.proofs.objects.Objects.remove.Goals as goal

pub invariant_of-self : goal.invariant_of-self
invariant_of-self c =
    let ranks = c.self.inside.ranks in
    let from = c.self.inside.from in
    let old = c.self.inside.table in
    after c.remove.result (λ (t : TableView). AreRanked ranks from t.entries) old (record { entries = remove old.entries c.args.object; counts = old.counts }) c.remove.new.self c.remove.ensures.ok c.remove.ensures.err
    (descend_remove ranks from c.args.object old.entries c.self.invariant) c.self.invariant
