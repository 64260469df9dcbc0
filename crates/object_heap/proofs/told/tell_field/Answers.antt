use Rattle.std.proofs.lemmas.Grind.{common_steps}
use Rattle.std.proofs.Common.{◌≡◌, ◌∙◌, List, ap, arith, rules}
use Rattle.std.proofs.lemmas.Option.{slice_get_past, slice_get_read}
use Rattle.trace_types.specs.declared.slots.Slot.{Slot}
use Rattle.ownership_model.specs.Footprint.{cell_keys}
use Rattle.std.specs.Prelude.{slice_get}
use Rattle.std.specs.Option.{option_copied}
use Rattle.ownership_model.specs.Table.{fields_of}
use Rattle.object_heap.proofs.CoverLemmas.{ok_as}
use Rattle.object_heap.proofs.told.tell_field.Goals as goal

pub returns-in-Some-Alive : goal.returns-in-Some-Alive
returns-in-Some-Alive c =
    let look : slice_get c.as_slice.result.now c.args.index ≡ option_copied c.get.result = first_of (grind (arith, common_steps), grind (arith, common_steps, slice_get_past, slice_get_read)) in
    let fields : fields_of (option_copied c.args.entry) ≡ c.as_slice.result.now = first_of (search rules, grind (arith, common_steps)) in
    ok_as c.tell_cell.result c.args.keys.now.items c.tell_cell.new.keys.items (cell_keys (option_copied c.get.result)) (cell_keys (slice_get (fields_of (option_copied c.args.entry)) c.args.index)) c.tell_cell.ensures
    (ap (λ (xs : List Slot). cell_keys (slice_get xs c.args.index)) fields ∙ ap cell_keys look)
