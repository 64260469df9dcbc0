use Rattle.std.proofs.lemmas.Grind.{common_steps}
use Rattle.std.proofs.Common.{◌≡◌, ◌∷◌, ◌++◌, [], arith, rules}
use Rattle.ownership_model.specs.declared.key.Key.TheVariants.{Object}
use Rattle.ownership_model.specs.Footprint.{slot_keys, slots_keys, holding_keys, cell_keys, item_keys, moved_by}
use Rattle.std.specs.Option.{option_copied}
use Rattle.ownership_model.specs.Table.{fields_of}
use Rattle.object_heap.proofs.CoverLemmas.{ok_as}
use Rattle.object_heap.proofs.told.tell_fields.Goals as goal

pub returns-in-Some-Alive : goal.returns-in-Some-Alive
returns-in-Some-Alive c =
    let same : slots_keys (fields_of (option_copied c.args.entry)) ≡ slots_keys c.as_slice.result.now = (first_of (search rules, grind (arith, common_steps))) in
    ok_as c.tell_slots.result c.args.keys.now.items c.tell_slots.new.keys.items (slots_keys c.as_slice.result.now) (slots_keys (fields_of (option_copied c.args.entry))) c.tell_slots.ensures same
