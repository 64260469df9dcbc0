use Rattle.std.proofs.Common.{sym, subst}
use Rattle.ownership_model.specs.State.{State}
use Rattle.ownership_model.specs.Step.{AreNew}
use Rattle.ownership_model.proofs.LawsHold.{soundness}
use Rattle.command_serve.proofs.replay.report_on_ops.Goals as goal

pub replay_from-requires : goal.replay_from-requires
replay_from-requires c = subst (λ (m : State). AreNew m c.args.ops.now) (sym c.empty.ensures) (soundness.are_new c.args.ops.now c.requires.distinct)
