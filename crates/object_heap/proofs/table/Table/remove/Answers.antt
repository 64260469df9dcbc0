use Rattle.std.specs.Prelude.{None}
use Rattle.object_heap.proofs.TableLemmas.{entry_replaced}
use Rattle.object_heap.proofs.table.Table.remove.Goals as goal

pub returns-clause-ok : goal.returns-clause-ok
returns-clause-ok c = entry_replaced c.self.inside.kept c.store.new.tree c.args.self.now c.self.view_is c.args.object c.named.result c.in_ok-store.ensures.ok None c.rest-rest.result.1 c.named.ensures c.rest-rest.ensures
