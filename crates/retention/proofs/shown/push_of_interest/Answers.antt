use Rattle.std.proofs.Common.{◌≡◌, ◌<◌, ◌+◌, ◌⊎◌, ℕ, length, sym, ◌∙◌, subst, arith, true, false}
use Rattle.std.specs.Prelude.{◌↔◌}
use Rattle.retention.specs.Graph.{size, alive_at}
use Rattle.retention.specs.Paths.{marked, with_member}
use Rattle.retention.specs.Pictured.{AreTheMarked}
use Rattle.retention.proofs.ShownSteps.{interest_more}
use Rattle.retention.proofs.shown.push_of_interest.Goals as goal

pub loop-index-preserved : goal.loop-index-preserved
loop-index-preserved c =
    let inside : c.loop-index.index < length c.loop-index.shown.items = omega (arith, c.loop-index-test.true, c.len-index-end.ensures, c.loop-index.invariant.1) in
    let it = interest_more (λ i. (marked c.args.leaked.now i ≡ true) ⊎ (alive_at c.args.graph.now i ≡ false)) c.loop-index.near.items c.loop-index.shown.items c.loop-index.index c.if_of_interest-one.result c.if_of_interest-one.ensures inside
    c.loop-index.invariant.0 c.loop-index.invariant.2 in
    subst (λ ns. AreTheMarked ns c.join.new.marks.items × (length c.join.new.marks.items ≡ size c.args.graph.now)
    × ((i : ℕ) → (marked c.join.new.marks.items i ≡ true) ↔ ((i < c.loop-index.index + 1) × ((marked c.args.leaked.now i ≡ true) ⊎ (alive_at c.args.graph.now i ≡ false))))) (sym c.in_ok-join.ensures.members)
    (subst (λ bs. AreTheMarked (with_member c.if_of_interest-one.result c.loop-index.shown.items c.loop-index.near.items) bs × (length bs ≡ size c.args.graph.now)
    × ((i : ℕ) → (marked bs i ≡ true) ↔ ((i < c.loop-index.index + 1) × ((marked c.args.leaked.now i ≡ true) ⊎ (alive_at c.args.graph.now i ≡ false))))) (sym c.in_ok-join.ensures.marks)
    (it.0, it.1 ∙ c.loop-index.invariant.1, it.2))

pub returns-clause-each : goal.returns-clause-each
returns-clause-each c =
    subst (λ n. (i : ℕ) → (marked c.loop-index.shown.items i ≡ true) ↔ ((i < n) × ((marked c.args.leaked.now i ≡ true) ⊎ (alive_at c.args.graph.now i ≡ false))))
    (let end : c.loop-index.index ≡ size c.args.graph.now = omega (arith, c.loop-index-test.false, c.loop-index.auto.index-end, c.len-index-end.ensures) in end) c.loop-index.invariant.2
