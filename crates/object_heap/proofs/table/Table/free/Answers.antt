use Rattle.std.proofs.Common.{ap, None}
use Rattle.object_heap.specs.TableView.{Kept}
use Rattle.object_heap.proofs.TableLemmas.{entries_with, counters_set}
use Rattle.object_heap.proofs.table.Table.free.Goals as goal

pub returns-clause-entries : goal.returns-clause-entries
returns-clause-entries c = entries_with c.self.inside.kept c.store.new.tree c.args.self.now c.self.view_is c.args.object c.named.result c.in_ok-store.ensures.ok None (ap (λ (k : Kept). k.0) c.named.ensures)

pub returns-clause-set : goal.returns-clause-set
returns-clause-set c = counters_set c.self.inside.kept c.store.new.tree c.args.self.now c.self.view_is c.args.object c.named.result c.in_ok-store.ensures.ok c.args.counters (ap (λ (k : Kept). k.1) c.named.ensures)
