use Rattle.std.proofs.Common.{[], sym, subst}
use Rattle.ownership_model.specs.State.{State, IsSound}
use Rattle.agreement_tests.proofs.exchanges.made.Goals as goal

pub under-checkpoint-requires : goal.under-checkpoint-requires
under-checkpoint-requires c = subst (λ (m : State). IsSound m []) (sym c.requires) c.show_sound.ensures.sound
