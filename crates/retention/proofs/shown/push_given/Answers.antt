use Rattle.std.proofs.Common.{◌≡◌, ◌<◌, ◌+◌, ℕ, length, get_or, take, refl, sym, ◌∙◌, subst, arith}
use Rattle.std.specs.Prelude.{Some}
use Rattle.ownership_model.specs.Reach.{has}
use Rattle.retention.specs.Paths.{marked, with_member}
use Rattle.retention.specs.Pictured.{AreTheMarked}
use Rattle.retention.proofs.ShownSteps.{shows, given_more}
use Rattle.retention.proofs.shown.push_given.Goals as goal

pub loop-index-preserved : goal.loop-index-preserved
loop-index-preserved c =
    let below : get_or c.args.given.now c.loop-index.index-index 0 < length c.args.shown.now.items = c.requires.within c.loop-index.index-index 0 c.loop-index-test.true in
    let inside : get_or c.args.given.now c.loop-index.index-index 0 < length c.loop-index.shown.items = omega (arith, below, c.loop-index.invariant.1) in
    let it = shows (get_or c.args.given.now c.loop-index.index-index 0) c.loop-index.near.items c.loop-index.shown.items inside c.loop-index.invariant.0 in
    subst (λ ns. AreTheMarked ns c.join.new.marks.items × (length c.join.new.marks.items ≡ length c.args.shown.now.items) × ((i : ℕ) → marked c.join.new.marks.items i ≡ has i (take (c.loop-index.index-index + 1) c.args.given.now))) (sym c.in_ok-join.ensures.members)
    (subst (λ bs. AreTheMarked (with_member (Some (get_or c.args.given.now c.loop-index.index-index 0)) c.loop-index.shown.items c.loop-index.near.items) bs × (length bs ≡ length c.args.shown.now.items)
    × ((i : ℕ) → marked bs i ≡ has i (take (c.loop-index.index-index + 1) c.args.given.now))) (sym c.in_ok-join.ensures.marks) (
      it.listed,
      it.long ∙ c.loop-index.invariant.1,
      given_more c.args.given.now c.loop-index.near.items c.loop-index.shown.items c.loop-index.index-index (get_or c.args.given.now c.loop-index.index-index 0) c.loop-index-test.true refl inside c.loop-index.invariant.0 c.loop-index.invariant.2,
    ))
