use Rattle.std.proofs.Common.{◌++◌, ◌∙◌, ap₂}
use Rattle.retention_model.specs.Turns.{moved_if}
use Rattle.retention_model.specs.declared.place.Place.TheVariants.{Cell}
use Rattle.retention.proofs.LookLemmas.{cell_looks}
use Rattle.retention.proofs.dates.Dates.redate_cell.Goals as goal

pub returns : goal.returns
returns c =
    let e = c.args.cell in
    let took = c.take_cell-old.ensures in
    let kept = c.in_ok-keep_cell.ensures in
    let xs = c.args.moved.now.items in
    cell_looks c.args.heap.now e c.args.id c.args.self.now c.keep_cell.new.self c.take_cell-old.result c.cell-slot.result xs c.note.new.moved.items
    took.dated c.cell-slot.ensures (kept.dated ∙ c.redated_if.ensures)
    (λ d apart. kept.others d apart ∙ took.others d apart) (kept.handles ∙ took.handles) (kept.objects ∙ took.objects)
    (c.in_ok-note.ensures ∙ ap₂ (λ a b. xs ++ moved_if (Cell e) a b) c.slot_of.ensures c.slot_or_nothing.ensures)
