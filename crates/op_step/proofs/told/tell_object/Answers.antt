use Rattle.std.proofs.Common.{◌∷◌, []}
use Rattle.ownership_model.specs.declared.key.Key.TheVariants.{Object}
use Rattle.ownership_model.proofs.AlikeLemmas.{within_front}
use Rattle.object_heap.proofs.GainLemmas.{on_ok}
use Rattle.op_step.proofs.told.tell_object.Goals as goal

pub returns-in-Some : goal.returns-in-Some
returns-in-Some c = on_ok c.tell_once.result c.tell_once.ensures (λ told. λ k here. within_front k c.args.keys.now.items (Object c.in-Some.object ∷ []) (told k here))
