use Rattle.std.specs.Prelude.{Some}
use Rattle.object_heap.proofs.TableLemmas.{entry_replaced}
use Rattle.object_heap.proofs.table.Table.insert.Goals as goal

pub returns-clause-ok : goal.returns-clause-ok
returns-clause-ok c = entry_replaced c.self.inside.kept c.store.new.tree c.args.self.now c.self.view_is c.args.object c.in_ok-kept.kept c.in_ok-store.ensures.ok (Some c.args.entry) c.rest-rest.result.1 c.in_ok-kept.ensures c.rest-rest.ensures
