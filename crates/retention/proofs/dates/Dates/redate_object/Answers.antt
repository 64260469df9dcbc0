use Rattle.std.proofs.Common.{◌∙◌, ap}
use Rattle.std.specs.Prelude.{slice_get}
use Rattle.retention.proofs.LookLemmas.{object_looks}
use Rattle.retention.proofs.FieldLemmas.{get_redated}
use Rattle.retention.proofs.dates.Dates.redate_object.Goals as goal

pub returns : goal.returns
returns c =
    let o = c.args.object in
    let id = c.args.id in
    let took = c.take_object-old.ensures in
    let kept = c.in_ok-keep_object.ensures in
    let ds = c.take_object-old.result.slots.items in
    let ss = c.fields_alive-fields.result.now in
    object_looks c.args.heap.now o id c.args.self.now c.keep_object.new.self ds ss c.args.moved.now.items c.note_fields.new.moved.items
    took.fields c.fields_alive-fields.ensures.fields
    (λ i. kept.fields i ∙ ap (λ l. slice_get l i) c.in_ok-dated.ensures ∙ get_redated id ds ss i)
    (λ q apart. kept.others q apart ∙ took.others q apart) (kept.handles ∙ took.handles) (kept.cells ∙ took.cells)
    c.in_ok-note_fields.ensures
