use Rattle.std.proofs.Common.{◌∙◌, ap}
use Rattle.std.specs.Prelude.{◌||◌}
use Rattle.ownership_model.specs.declared.key.Key.{Key}
use Rattle.heap_difference.specs.declared.key_set.KeySet.{KeySet}
use Rattle.heap_difference.specs.KeySets.{is_among, set_of}
use Rattle.heap_difference.proofs.KeyLemmas.{Has-same, beside_nothing}
use Rattle.heap_difference.proofs.key_set.KeySet.of.Goals as goal

pub returns : goal.returns
returns c = Has-same c.into_set.result c.args.keys.now (λ (x : Key).
    c.into_set.ensures x ∙ c.in_ok-add.ensures x
    ∙ ap (λ (d : KeySet). is_among d x || is_among (set_of c.args.keys.now) x) c.none-lists.ensures
    ∙ beside_nothing (set_of c.args.keys.now) x)
