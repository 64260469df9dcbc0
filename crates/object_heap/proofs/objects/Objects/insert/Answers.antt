use Rattle.std.specs.FinMap.{insert}
use Rattle.object_heap.specs.Descent.{AreRanked}
use Rattle.object_heap.specs.TableView.{TableView}
use Rattle.object_heap.proofs.DescentLemmas.{after, descend_insert, descend_up}
use Rattle.object_heap.proofs.objects.Objects.insert.Goals as goal

pub invariant_of-self : goal.invariant_of-self
invariant_of-self c =
    let ranks = c.self.inside.ranks in
    let from = c.self.inside.from in
    let next = c.lower_from-self-inside.result in
    let old = c.self.inside.table in
    after c.insert.result (λ (t : TableView). AreRanked ranks next t.entries) old (record { entries = insert old.entries c.args.object c.args.entry; counts = old.counts }) c.insert.new.self c.insert.ensures.ok c.insert.ensures.err
    (descend_insert ranks from next c.args.object c.rank_of-rank.result c.args.entry old.entries c.lower_from-self-inside.ensures.no_less c.rank_of-rank.ensures.rank c.lower_from-self-inside.ensures.lower c.self.invariant)
    (descend_up ranks from next old.entries c.lower_from-self-inside.ensures.no_less c.self.invariant)
