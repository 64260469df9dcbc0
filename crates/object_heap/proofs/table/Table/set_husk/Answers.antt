use Rattle.object_heap.proofs.HuskLemmas.{husk_counted, husk_lean, husk_stands}
use Rattle.object_heap.proofs.table.Table.set_husk.Goals as goal

pub invariant_of-self-2 : goal.invariant_of-self-2
invariant_of-self-2 c = husk_lean c.self.inside.kept c.args.self.now c.self.view_is c.args.object c.args.counters c.requires c.update.new.self c.in_ok-update.ensures.ok c.self.invariant

pub returns-clause-entries : goal.returns-clause-entries
returns-clause-entries c = husk_stands c.self.inside.kept c.args.self.now c.self.view_is c.args.object c.args.counters c.requires c.update.new.self c.in_ok-update.ensures.ok

pub returns-clause-set : goal.returns-clause-set
returns-clause-set c = husk_counted c.self.inside.kept c.args.self.now c.self.view_is c.args.object c.args.counters c.requires c.update.new.self c.in_ok-update.ensures.ok
