use Rattle.std.proofs.Common.{◌≡◌, ◌<◌, ◌≤◌, ℕ, sym, ap, ◌∙◌, subst, arith, Bool}
use Rattle.std.specs.List.{All}
use Rattle.std.proofs.lemmas.Result.{IfOk-weaker}
use Rattle.ownership_model.specs.Reach.{has}
use Rattle.retention.specs.declared.walk.Walk.{Walk}
use Rattle.retention.specs.Layout.{upto, IsRising}
use Rattle.retention.specs.Graph.{places, start_at, is_root_at}
use Rattle.retention.specs.Walked.{IsWalkFrom}
use Rattle.retention.proofs.JoinSteps.{upto_has}
use Rattle.retention.proofs.BeginLemmas.{upto_rising, all_below, in_upto}
use Rattle.retention.proofs.walk.Walk.from_roots.Goals as goal

pub from_places-requires-clause-rising : goal.from_places-requires-clause-rising
from_places-requires-clause-rising c = subst (λ xs. IsRising xs) (sym (c.deref.ensures.value ∙ c.in_ok-begins.ensures)) (upto_rising (start_at c.args.graph.now 0))

pub from_places-requires-clause-within : goal.from_places-requires-clause-within
from_places-requires-clause-within c =
    subst (λ xs. All (λ p. p < places c.args.graph.now) xs) (sym (c.deref.ensures.value ∙ c.in_ok-begins.ensures))
    (all_below (upto (start_at c.args.graph.now 0)) (places c.args.graph.now)
    (λ x h. let l : x < start_at c.args.graph.now 0 = upto_has (start_at c.args.graph.now 0) x h in
    let end : start_at c.args.graph.now 0 ≤ places c.args.graph.now = c.args.graph.now.laid.are_starts.within 0 (omega arith) in omega (arith, l, end)))

pub returns : goal.returns
returns c =
    IfOk-weaker c.from_places.result (λ (w : Walk). (from : ℕ → Bool) → ((p : ℕ) → p < places c.args.graph.now → from p ≡ has p c.deref.result.now) → IsWalkFrom c.args.graph.now from w) (λ w. IsWalkFrom c.args.graph.now (is_root_at c.args.graph.now) w)
    (λ w so. so (is_root_at c.args.graph.now) (λ p h. in_upto (start_at c.args.graph.now 0) p ∙ ap (λ xs. has p xs) (sym (c.deref.ensures.value ∙ c.in_ok-begins.ensures)))) c.from_places.ensures
