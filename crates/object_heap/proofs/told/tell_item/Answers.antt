use Rattle.std.proofs.lemmas.Grind.{common_steps}
use Rattle.std.proofs.Common.{◌≡◌, ◌∷◌, ◌++◌, [], arith, rules}
use Rattle.ownership_model.specs.declared.key.Key.TheVariants.{Object}
use Rattle.ownership_model.specs.Footprint.{slot_keys, slots_keys, holding_keys, cell_keys, item_keys, moved_by}
use Rattle.object_heap.proofs.CoverLemmas.{ok_as}
use Rattle.object_heap.proofs.told.tell_item.Goals as goal

pub returns-in-Slot : goal.returns-in-Slot
returns-in-Slot c =
    let same : item_keys c.args.item ≡ slot_keys c.in-Slot.slot = (first_of (search rules, grind (arith, common_steps))) in
    ok_as c.tell_slot.result c.args.keys.now.items c.tell_slot.new.keys.items (slot_keys c.in-Slot.slot) (item_keys c.args.item) c.tell_slot.ensures same

pub returns-in-End : goal.returns-in-End
returns-in-End c =
    let same : item_keys c.args.item ≡ Object c.in-End.object ∷ [] = (first_of (search rules, grind (arith, common_steps))) in
    ok_as c.tell_once.result c.args.keys.now.items c.tell_once.new.keys.items (Object c.in-End.object ∷ []) (item_keys c.args.item) c.tell_once.ensures same
