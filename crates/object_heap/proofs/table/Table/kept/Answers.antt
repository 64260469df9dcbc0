use Rattle.std.proofs.Common.{sym}
use Rattle.std.specs.Option.{option_copied}
use Rattle.object_heap.proofs.TableLemmas.{found_at}
use Rattle.object_heap.proofs.table.Table.kept.Goals as goal

pub returns : goal.returns
returns c = found_at c.self.inside.kept c.args.self.now c.self.view_is c.args.object (option_copied c.get.result) (sym c.get.ensures)
