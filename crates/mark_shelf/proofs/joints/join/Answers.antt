use Rattle.std.proofs.Common.{◌≡◌, ap, subst, inr, rules, ℕ}
use Rattle.std.specs.Prelude.{IsOk}
use Rattle.lru.specs.LruCache.{LruCache}
use Rattle.mark_shelf.proofs.MarkLemmas.{has_entry}
use Rattle.mark_shelf.proofs.JointLemmas.{joint-refused}
use Rattle.mark_shelf.proofs.joints.join.Goals as goal

pub returns-in_default-push-clause-noted : goal.returns-in_default-push-clause-noted
returns-in_default-push-clause-noted c =
    let stays : c.push.new.self ≡ c.args.joints.now = search rules in
    inr (
      joint-refused c.args.joints.now.entries c.args.below c.args.number c.in-Some.last c.args.before c.in-Some.is c.if-last-below.true
          (λ there. absurd (let t = subst IsOk c.in_default-push.is (c.push.ensures.succeeds (has_entry c.args.number c.args.joints.now.entries there)) in cc)),
      ap (λ (m : LruCache ℕ ℕ). m.entries) stays,
    )
