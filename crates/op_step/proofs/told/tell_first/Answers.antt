use Rattle.std.proofs.Common.{◌≡◌, ◌∷◌, [], map, ap, arith, rules}
use Rattle.std.specs.Prelude.{Option, option_to_list}
use Rattle.std.proofs.lemmas.Grind.{common_steps}
use Rattle.ownership_model.specs.declared.key.Key.TheVariants.{Object}
use Rattle.object_heap.proofs.CoverLemmas.{ok_as}
use Rattle.op_step.specs.Told.{first_keys}
use Rattle.op_step.proofs.told.tell_first.Goals as goal

pub returns-in-Some : goal.returns-in-Some
returns-in-Some c =
    let told = map Object (option_to_list c.named_object.result) in
    let same : first_keys c.args.heap.now c.args.kind.now ≡ told = first_of (search rules, grind (arith, common_steps)) in
    ok_as c.tell_named.result c.args.keys.now.items c.tell_named.new.keys.items told (first_keys c.args.heap.now c.args.kind.now) c.tell_named.ensures same
