use Rattle.std.proofs.lemmas.Grind.{common_steps}
use Rattle.std.proofs.Common.{◌≡◌, ◌∷◌, ◌++◌, [], arith, rules, Some}
use Rattle.ownership_model.specs.declared.key.Key.TheVariants.{Object}
use Rattle.ownership_model.specs.Footprint.{slot_keys, slots_keys, holding_keys, cell_keys, item_keys, moved_by}
use Rattle.object_heap.proofs.CoverLemmas.{ok_as}
use Rattle.object_heap.proofs.told.tell_holding.Goals as goal

pub returns-in-Slot : goal.returns-in-Slot
returns-in-Slot c =
    let same : holding_keys (Some c.args.holding.now) ≡ slot_keys c.in-Slot.slot = (first_of (search rules, grind (arith, common_steps))) in
    ok_as c.tell_slot.result c.args.keys.now.items c.tell_slot.new.keys.items (slot_keys c.in-Slot.slot) (holding_keys (Some c.args.holding.now)) c.tell_slot.ensures same

pub returns-in-Bare : goal.returns-in-Bare
returns-in-Bare c =
    let same : holding_keys (Some c.args.holding.now) ≡ slots_keys c.as_slice.result.now = (first_of (search rules, grind (arith, common_steps))) in
    ok_as c.tell_slots.result c.args.keys.now.items c.tell_slots.new.keys.items (slots_keys c.as_slice.result.now) (holding_keys (Some c.args.holding.now)) c.tell_slots.ensures same
