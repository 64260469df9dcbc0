use Rattle.object_heap.proofs.FieldLemmas.{field_kept, field_set}
use Rattle.object_heap.proofs.table.Table.set_field.Goals as goal

pub update-requires : goal.update-requires
update-requires c = field_kept c.self.inside.kept c.args.self.now c.self.view_is c.args.object c.args.field.index c.args.field.slot c.requires

pub invariant_of-self-2 : goal.invariant_of-self-2
invariant_of-self-2 c =
    (field_set c.self.inside.kept c.args.self.now c.self.view_is c.args.object c.args.field.index c.args.field.slot c.requires c.update.new.self c.in_ok-update.ensures.ok c.self.invariant).0

pub returns-clause-ok : goal.returns-clause-ok
returns-clause-ok c =
    (field_set c.self.inside.kept c.args.self.now c.self.view_is c.args.object c.args.field.index c.args.field.slot c.requires c.update.new.self c.in_ok-update.ensures.ok c.self.invariant).1
