use Rattle.std.proofs.Common.{◌++◌, ◌∙◌, ap, ap₂}
use Rattle.std.specs.Prelude.{slice_get}
use Rattle.std.specs.Prelude.{None}
use Rattle.retention_model.specs.Turns.{moved_if}
use Rattle.retention_model.specs.declared.place.Place.TheVariants.{Handle}
use Rattle.retention.proofs.LookLemmas.{handle_looks}
use Rattle.retention.proofs.FieldLemmas.{get_redated}
use Rattle.retention.proofs.dates.Dates.redate_handle.Goals as goal

pub returns : goal.returns
returns c =
    let h = c.args.handle in
    let id = c.args.id in
    let took = c.take_handle-old.ensures in
    let kept = c.in_ok-keep_handle.ensures in
    let ds = c.take_handle-old.result.fields.slots.items in
    let ss = c.fields_held-fields.result.now in
    let xs = c.args.moved.now.items in
    handle_looks c.args.heap.now h id c.args.self.now c.keep_handle.new.self c.take_handle-old.result.slot ds c.slot_held-slot.result ss xs c.note.new.moved.items c.note_fields.new.moved.items
    took.slot took.fields c.slot_held-slot.ensures c.fields_held-fields.ensures.fields
    (kept.slot ∙ c.redated_if.ensures)
    (λ i. kept.fields i ∙ ap (λ l. slice_get l i) c.in_ok-redated_fields.ensures ∙ get_redated id ds ss i)
    (λ g apart. kept.others g apart ∙ took.others g apart) (kept.cells ∙ took.cells) (kept.objects ∙ took.objects)
    (c.in_ok-note.ensures ∙ ap₂ (λ a b. xs ++ moved_if (Handle h None) a b) c.slot_of.ensures c.slot_or_nothing.ensures)
    c.in_ok-note_fields.ensures
