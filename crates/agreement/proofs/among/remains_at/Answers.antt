use Rattle.std.specs.Prelude.{not}
use Rattle.ownership_model.specs.Reach.{has}
use Rattle.agreement.proofs.AgreeLemmas.{rest_within}
use Rattle.agreement.proofs.among.remains_at.Goals as goal

pub new-requires : goal.new-requires
new-requires c = rest_within (λ o. not (has o c.args.objects.now)) c.args.new.now c.in_ok-added.added c.show_sound.ensures.bounded c.in_ok-added.ensures
