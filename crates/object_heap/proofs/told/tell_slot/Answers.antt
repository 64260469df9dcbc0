use Rattle.std.proofs.lemmas.Grind.{common_steps}
use Rattle.std.proofs.Common.{◌≡◌, ◌∷◌, ◌++◌, [], arith, rules}
use Rattle.ownership_model.specs.declared.key.Key.TheVariants.{Object}
use Rattle.ownership_model.specs.Footprint.{slot_keys, slots_keys, holding_keys, cell_keys, item_keys, moved_by}
use Rattle.object_heap.proofs.CoverLemmas.{ok_as}
use Rattle.object_heap.proofs.told.tell_slot.Goals as goal

pub returns-in-Strong : goal.returns-in-Strong
returns-in-Strong c =
    let same : slot_keys c.args.slot ≡ Object c.in-Strong.object ∷ [] = (first_of (search rules, grind (arith, common_steps))) in
    ok_as c.tell_once.result c.args.keys.now.items c.tell_once.new.keys.items (Object c.in-Strong.object ∷ []) (slot_keys c.args.slot) c.tell_once.ensures same
