use Rattle.std.proofs.lemmas.Grind.{common_steps}
use Rattle.std.proofs.Common.{◌≡◌, ◌∷◌, ◌++◌, [], arith, rules, Some}
use Rattle.ownership_model.specs.declared.key.Key.TheVariants.{Object}
use Rattle.ownership_model.specs.Footprint.{slot_keys, slots_keys, holding_keys, cell_keys, item_keys, moved_by}
use Rattle.std.specs.Option.{option_copied}
use Rattle.object_heap.proofs.CoverLemmas.{ok_as}
use Rattle.object_heap.proofs.told.tell_held.Goals as goal

pub returns-in-Some : goal.returns-in-Some
returns-in-Some c =
    let same : holding_keys (option_copied c.args.held) ≡ holding_keys (Some c.in-Some.holding.now) = (first_of (search rules, grind (arith, common_steps))) in
    ok_as c.tell_holding.result c.args.keys.now.items c.tell_holding.new.keys.items (holding_keys (Some c.in-Some.holding.now)) (holding_keys (option_copied c.args.held)) c.tell_holding.ensures same
