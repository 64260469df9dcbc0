use Rattle.std.proofs.Common.{ap, ◌∙◌}
use Rattle.std.specs.Ordering.{nat_cmp}
use Rattle.std.specs.FinMap.{FinMap}
use Rattle.object_heap.specs.TableView.{TableView, Kept, table_of}
use Rattle.object_heap.proofs.GainLemmas.{on_ok, either_way}
use Rattle.object_heap.proofs.TableLemmas.{entries_stay, counters_set}
use Rattle.object_heap.proofs.table.Table.put_counters.Goals as goal

pub returns-clause-set : goal.returns-clause-set
returns-clause-set c =
    on_ok c.store.result c.store.ensures.ok (λ is.
    counters_set c.self.inside.kept c.store.new.tree c.args.self.now c.self.view_is c.args.object c.with_counters.result is c.args.counters (ap (λ (k : Kept). k.1) c.with_counters.ensures))

pub returns-clause-entries : goal.returns-clause-entries
returns-clause-entries c =
    either_way c.store.result c.store.ensures.ok c.store.ensures.err
    (λ is. entries_stay c.self.inside.kept c.store.new.tree c.args.self.now c.self.view_is c.args.object c.with_counters.result is (ap (λ (k : Kept). k.0) c.with_counters.ensures ∙ ap (λ (k : Kept). k.0) c.in_ok-kept.ensures))
    (λ same. ap (λ (m : FinMap nat_cmp Kept). (table_of m).entries) same ∙ ap (λ (t : TableView). t.entries) c.self.view_is)
