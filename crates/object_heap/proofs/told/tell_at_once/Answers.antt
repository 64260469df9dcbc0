use Rattle.std.proofs.lemmas.Grind.{common_steps}
use Rattle.std.proofs.Common.{◌≡◌, ◌∷◌, ◌++◌, [], arith, rules}
use Rattle.ownership_model.specs.declared.key.Key.TheVariants.{Object}
use Rattle.ownership_model.specs.Footprint.{slot_keys, slots_keys, holding_keys, cell_keys, item_keys, moved_by}
use Rattle.std.specs.Prelude.{flat_map}
use Rattle.object_heap.specs.Told.{at_once}
use Rattle.object_heap.proofs.CoverLemmas.{ok_as}
use Rattle.object_heap.proofs.told.tell_at_once.Goals as goal

pub returns-in-Some-Slot-Strong-default : goal.returns-in-Some-Slot-Strong-default
returns-in-Some-Slot-Strong-default c =
    let same : flat_map item_keys (at_once c.args.items.now) ≡ Object c.in-Some-Slot-Strong-default.object ∷ [] = (first_of (search rules, grind (arith, common_steps))) in
    ok_as c.tell_once.result c.args.keys.now.items c.tell_once.new.keys.items (Object c.in-Some-Slot-Strong-default.object ∷ []) (flat_map item_keys (at_once c.args.items.now)) c.tell_once.ensures same
