use Rattle.std.proofs.Common.{◌∙◌, ap, subst, List, ℕ, refl, false}
use Rattle.std.specs.Ordering.{nat_cmp}
use Rattle.std.proofs.lemmas.List.{take_all}
use Rattle.std.specs.FinMap.{get, get-empty}
use Rattle.agreement.proofs.GatheringLemmas.{IsRest, rest_joins, rest_listed}
use Rattle.agreement.proofs.gathering.standing.Goals as goal

pub loop-object-init : goal.loop-object-init
loop-object-init c = λ q. ap (λ n. get n q) c.empty-rest.ensures ∙ get-empty nat_cmp q

pub loop-object-preserved : goal.loop-object-preserved
loop-object-preserved c =
    rest_joins c.args.heap.now (λ o. false) c.args.objects.now c.loop-object.object-index 0 c.loop-object-test.true c.loop-object.rest c.push_remaining.new.rest
    refl c.in_ok-push_remaining.ensures c.loop-object.invariant

pub returns : goal.returns
returns c =
    rest_listed c.args.heap.now c.args.objects.now c.loop-object.rest
    (subst (λ (xs : List ℕ). IsRest c.args.heap.now (λ o. false) xs c.loop-object.rest) (take_all c.loop-object.object-index c.args.objects.now c.loop-object-test.false) c.loop-object.invariant)
