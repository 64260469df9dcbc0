use Rattle.std.proofs.lemmas.Grind.{common_steps}
use Rattle.std.proofs.Common.{◌≡◌, ◌∷◌, ◌++◌, [], arith, rules, Some}
use Rattle.ownership_model.specs.declared.key.Key.TheVariants.{Object}
use Rattle.ownership_model.specs.Footprint.{slot_keys, slots_keys, holding_keys, cell_keys, item_keys, moved_by}
use Rattle.std.specs.Option.{option_copied}
use Rattle.std.specs.Prelude.{slice_get}
use Rattle.ownership_model.specs.Table.{fields_of}
use Rattle.object_heap.specs.Counted.{drafted}
use Rattle.object_heap.proofs.CoverLemmas.{ok_as, ok_then}
use Rattle.object_heap.proofs.draft.Draft.tell_change.Goals as goal

pub returns-in_ok-tell_holding-in-SetHandle : goal.returns-in_ok-tell_holding-in-SetHandle
returns-in_ok-tell_holding-in-SetHandle c =
    let same : moved_by (drafted c.args.self.now) c.args.change.now ≡ holding_keys (Some c.in-SetHandle.holding) ++ holding_keys (option_copied c.get.result) = (first_of (search rules, grind (arith, common_steps))) in
    ok_then c.tell_held.result c.args.keys.now.items c.tell_holding.new.keys.items c.tell_held.new.keys.items (holding_keys (Some c.in-SetHandle.holding)) (holding_keys (option_copied c.get.result)) (moved_by (drafted c.args.self.now) c.args.change.now) c.in_ok-tell_holding-in-SetHandle.ensures c.tell_held.ensures same

pub returns-in-EndHandle : goal.returns-in-EndHandle
returns-in-EndHandle c =
    let same : moved_by (drafted c.args.self.now) c.args.change.now ≡ holding_keys (option_copied c.get-in-EndHandle.result) = (first_of (search rules, grind (arith, common_steps))) in
    ok_as c.tell_held-in-EndHandle.result c.args.keys.now.items c.tell_held-in-EndHandle.new.keys.items (holding_keys (option_copied c.get-in-EndHandle.result)) (moved_by (drafted c.args.self.now) c.args.change.now) c.tell_held-in-EndHandle.ensures same

pub returns-in_ok-tell_slot-in-SetCell : goal.returns-in_ok-tell_slot-in-SetCell
returns-in_ok-tell_slot-in-SetCell c =
    let same : moved_by (drafted c.args.self.now) c.args.change.now ≡ slot_keys c.in-SetCell.slot ++ cell_keys (option_copied c.get-in-SetCell.result) = (first_of (search rules, grind (arith, common_steps))) in
    ok_then c.tell_cell.result c.args.keys.now.items c.tell_slot.new.keys.items c.tell_cell.new.keys.items (slot_keys c.in-SetCell.slot) (cell_keys (option_copied c.get-in-SetCell.result)) (moved_by (drafted c.args.self.now) c.args.change.now) c.in_ok-tell_slot-in-SetCell.ensures c.tell_cell.ensures same

pub returns-in-EndCell : goal.returns-in-EndCell
returns-in-EndCell c =
    let same : moved_by (drafted c.args.self.now) c.args.change.now ≡ cell_keys (option_copied c.get-in-EndCell.result) = (first_of (search rules, grind (arith, common_steps))) in
    ok_as c.tell_cell-in-EndCell.result c.args.keys.now.items c.tell_cell-in-EndCell.new.keys.items (cell_keys (option_copied c.get-in-EndCell.result)) (moved_by (drafted c.args.self.now) c.args.change.now) c.tell_cell-in-EndCell.ensures same

pub returns-in_ok-tell_slot-in-SetField : goal.returns-in_ok-tell_slot-in-SetField
returns-in_ok-tell_slot-in-SetField c =
    let a = slot_keys c.in-SetField.slot in
    let b = cell_keys (slice_get (fields_of (option_copied c.get-in-SetField.result)) c.in-SetField.index) in
    let same : moved_by (drafted c.args.self.now) c.args.change.now ≡ a ++ b = (first_of (search rules, grind (arith, common_steps))) in
    ok_then c.tell_field.result c.args.keys.now.items c.tell_slot-in-SetField.new.keys.items c.tell_field.new.keys.items a b (moved_by (drafted c.args.self.now) c.args.change.now) c.in_ok-tell_slot-in-SetField.ensures c.tell_field.ensures same

pub returns-in-Make : goal.returns-in-Make
returns-in-Make c =
    let same : moved_by (drafted c.args.self.now) c.args.change.now ≡ slots_keys c.as_slice.result.now = (first_of (search rules, grind (arith, common_steps))) in
    ok_as c.tell_slots.result c.args.keys.now.items c.tell_slots.new.keys.items (slots_keys c.as_slice.result.now) (moved_by (drafted c.args.self.now) c.args.change.now) c.tell_slots.ensures same

pub returns-in-TurnHusk : goal.returns-in-TurnHusk
returns-in-TurnHusk c =
    let fields = slots_keys (fields_of (option_copied c.get-in-TurnHusk.result)) in
    let same : moved_by (drafted c.args.self.now) c.args.change.now ≡ fields = (first_of (search rules, grind (arith, common_steps))) in
    ok_as c.tell_fields.result c.args.keys.now.items c.tell_fields.new.keys.items fields (moved_by (drafted c.args.self.now) c.args.change.now) c.tell_fields.ensures same
