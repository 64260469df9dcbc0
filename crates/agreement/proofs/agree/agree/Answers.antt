use Rattle.std.proofs.Common.{refl}
use Rattle.std.specs.Ordering.{nat_cmp}
use Rattle.std.specs.BTreeSet.{contains}
use Rattle.agreement.proofs.AgreeLemmas.{neither, agree_from, agree_on_from, remains_from, rest_within, replay_alike}
use Rattle.agreement.proofs.agree.agree.Goals as goal

pub returns-then-not-agree_on-clause-answer : goal.returns-then-not-agree_on-clause-answer
returns-then-not-agree_on-clause-answer c =
    (λ t. absurd cc, λ a. neither c.agree_on.result c.if-not-agree_on.true (c.agree_on.ensures.1 (agree_on_from (λ o. contains nat_cmp c.in_ok-reached.reached o) c.args.new.now c.args.old.now c.in_ok-reached.ensures a)))

pub new-requires : goal.new-requires
new-requires c = rest_within (λ o. contains nat_cmp c.in_ok-reached.reached o) c.args.new.now c.in_ok-added.added c.same_roots.ensures.bounded.0 c.in_ok-added.ensures

pub returns-clause-answer : goal.returns-clause-answer
returns-clause-answer c = (
  λ t. agree_from (λ o. contains nat_cmp c.in_ok-reached.reached o) c.args.new.now c.args.old.now c.in_ok-reached.ensures
      (c.same_roots.ensures.answer.0 c.if-not-same_roots.false) (c.agree_on.ensures.0 c.if-not-agree_on.false),
  λ a. refl,
)

pub returns-clause-remains : goal.returns-clause-remains
returns-clause-remains c =
    remains_from (λ o. contains nat_cmp c.in_ok-reached.reached o) c.args.new.now c.args.old.now c.in_ok-reached.ensures c.in_ok-remains.remains
    (rw c.in_ok-remains.ensures (record { removed = c.in_ok-removed.ensures; added = c.in_ok-added.ensures }))

pub returns-clause-law : goal.returns-clause-law
returns-clause-law c =
    replay_alike c.args.new.now c.args.old.now c.in_ok-remains.remains c.same_roots.ensures.sound.0 c.same_roots.ensures.sound.1 ((returns-clause-answer c).0 refl) (returns-clause-remains c)
