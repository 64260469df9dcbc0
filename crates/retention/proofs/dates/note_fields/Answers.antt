use Rattle.retention.proofs.FieldLemmas.{noted_more}
use Rattle.std.proofs.Common.{◌∙◌, ap}
use Rattle.retention.specs.Dates.{slot_in}
use Rattle.retention_model.specs.Turns.{or_nothing}
use Rattle.retention.proofs.dates.note_fields.Goals as goal

pub loop-i-preserved : goal.loop-i-preserved
loop-i-preserved c =
    noted_more c.args.owner c.args.old.now.slots.items c.args.fields.now c.loop-i.i c.args.moved.now.items c.loop-i.moved.items c.note.new.moved.items
    c.field.result c.slot_of-before.result c.slot_or_nothing-after.result c.field.ensures
    (c.slot_of-before.ensures ∙ ap slot_in c.get.ensures) (c.slot_or_nothing-after.ensures ∙ ap or_nothing c.nth_slot.ensures)
    c.in_ok-note.ensures c.loop-i.invariant
