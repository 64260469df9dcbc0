use Rattle.std.proofs.Common.{◌≡◌, ◌∷◌, [], map, ap}
use Rattle.std.specs.Prelude.{Option, option_to_list}
use Rattle.ownership_model.specs.declared.key.Key.TheVariants.{Object}
use Rattle.object_heap.proofs.CoverLemmas.{ok_as}
use Rattle.op_step.proofs.told.tell_named.Goals as goal

pub returns-in-Some : goal.returns-in-Some
returns-in-Some c =
    let same : map Object (option_to_list c.args.object) ≡ Object c.in-Some.object ∷ [] = ap (λ o. map Object (option_to_list o)) c.in-Some.is in
    ok_as c.tell_once.result c.args.keys.now.items c.tell_once.new.keys.items (Object c.in-Some.object ∷ []) (map Object (option_to_list c.args.object)) c.tell_once.ensures same
