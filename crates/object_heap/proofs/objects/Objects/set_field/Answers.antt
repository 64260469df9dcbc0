use Rattle.std.specs.FinMap.{get, insert}
use Rattle.ownership_model.specs.Changes.{with_field}
use Rattle.object_heap.specs.Descent.{AreRanked}
use Rattle.object_heap.specs.TableView.{TableView}
use Rattle.object_heap.proofs.DescentLemmas.{after, descend_up}
use Rattle.object_heap.proofs.FieldLemmas.{descend_field}
use Rattle.object_heap.proofs.objects.Objects.set_field.Goals as goal

pub invariant_of-self : goal.invariant_of-self
invariant_of-self c =
    let ranks = c.self.inside.ranks in
    let from = c.self.inside.from in
    let next = c.slot_lower_from-self-inside.result in
    let old = c.self.inside.table in
    after c.set_field.result (λ (t : TableView). AreRanked ranks next t.entries) old (record { entries = insert old.entries c.args.object (with_field (get old.entries c.args.object) c.args.field.index c.args.field.slot); counts = old.counts }) c.set_field.new.self c.set_field.ensures.ok c.set_field.ensures.err
    (descend_field ranks from next c.args.object c.rank_of-rank.result c.args.field.index c.args.field.slot old.entries c.slot_lower_from-self-inside.ensures.no_less c.rank_of-rank.ensures.rank c.slot_lower_from-self-inside.ensures.lower c.self.invariant)
    (descend_up ranks from next old.entries c.slot_lower_from-self-inside.ensures.no_less c.self.invariant)
