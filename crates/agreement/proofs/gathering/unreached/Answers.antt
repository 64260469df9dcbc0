use Rattle.std.proofs.Common.{◌∙◌, sym, ap, subst, List, ℕ}
use Rattle.std.specs.Ordering.{nat_cmp}
use Rattle.std.proofs.lemmas.List.{take_all}
use Rattle.std.specs.FinMap.{get, get-empty}
use Rattle.std.specs.BTreeSet.{contains}
use Rattle.agreement.proofs.GatheringLemmas.{IsRest, rest_skips, rest_joins, rest_whole}
use Rattle.agreement.proofs.gathering.unreached.Goals.{then-not-contains+in_ok-push_remaining, else-not-contains}
use Rattle.agreement.proofs.gathering.unreached.Goals as goal

pub loop-object-init : goal.loop-object-init
loop-object-init c = λ q. ap (λ n. get n q) c.empty-rest.ensures ∙ get-empty nat_cmp q

pub loop-object-preserved : goal.loop-object-preserved
loop-object-preserved c = elim c.if-not-contains.branch [
  | then-not-contains+in_ok-push_remaining w ↦ λ q. ap (λ n. get n q) w.rest-is
      ∙ rest_joins c.args.heap.now (λ o. contains nat_cmp c.args.reached.now o) c.deref-object-items.result.now c.loop-object.object-index 0 c.loop-object-test.true c.loop-object.rest w.push_remaining.new.rest
      (sym c.contains.ensures ∙ w.if-not-contains.true) w.in_ok-push_remaining.ensures c.loop-object.invariant q
  | else-not-contains w ↦ λ q. ap (λ n. get n q) w.rest-is
      ∙ rest_skips c.args.heap.now (λ o. contains nat_cmp c.args.reached.now o) c.deref-object-items.result.now c.loop-object.object-index 0 c.loop-object-test.true c.loop-object.rest
      (sym c.contains.ensures ∙ w.if-not-contains.false) c.loop-object.invariant q
]

pub returns : goal.returns
returns c =
    rest_whole c.args.heap.now (λ o. contains nat_cmp c.args.reached.now o) c.loop-object.rest
    (subst (λ (xs : List ℕ). IsRest c.args.heap.now (λ o. contains nat_cmp c.args.reached.now o) xs c.loop-object.rest) (take_all c.loop-object.object-index c.deref-object-items.result.now c.loop-object-test.false ∙ c.deref-object-items.ensures.value ∙ c.in_ok-objects.ensures) c.loop-object.invariant)
