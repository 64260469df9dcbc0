use Rattle.ownership_model.specs.declared.link.Link.TheVariants.{StrongOrWeak}
use Rattle.ownership_model.specs.Reach.{is_reached}
use Rattle.std.proofs.Common.{refl}
use Rattle.agreement.proofs.MeetingLemmas.{agree_but}
use Rattle.agreement.proofs.search.meet_rooted.Goals as goal

pub returns-in-Some-2-clause-meets : goal.returns-in-Some-2-clause-meets
returns-in-Some-2-clause-meets c =
    agree_but (λ o. is_reached StrongOrWeak c.args.new.now o) c.args.new.now c.args.old.now c.in-Some-2.remains
    (rw c.in-Some-2.is at c.in_ok-remains.ensures.remains)
    ((rw c.in-Some-2.is at c.in_ok-remains.ensures.answer).0 refl)
    (rw c.in-Some-2.is at c.in_ok-remains.ensures.law)
