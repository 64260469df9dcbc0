use Rattle.std.proofs.Common.{◌≡◌, ◌<◌, ℕ, sym, ap, ◌∙◌, subst, Bool}
use Rattle.std.specs.Prelude.{filter}
use Rattle.std.specs.List.{All}
use Rattle.std.proofs.lemmas.Result.{IfOk-weaker}
use Rattle.ownership_model.specs.Reach.{has}
use Rattle.retention.specs.declared.walk.Walk.{Walk}
use Rattle.retention.specs.Layout.{upto, IsRising}
use Rattle.retention.specs.Graph.{places, is_field_of}
use Rattle.retention.specs.Walked.{IsWalkFrom}
use Rattle.retention.proofs.JoinSteps.{upto_has, kept_has}
use Rattle.retention.proofs.BeginLemmas.{kept_rising, all_below, in_kept}
use Rattle.retention.proofs.walk.Walk.from_fields.Goals as goal

pub from_places-requires-clause-rising : goal.from_places-requires-clause-rising
from_places-requires-clause-rising c =
    subst (λ xs. IsRising xs) (sym (c.deref.ensures.value ∙ c.in_ok-begins.ensures)) (kept_rising (is_field_of c.args.graph.now c.args.marks.now) (places c.args.graph.now))

pub from_places-requires-clause-within : goal.from_places-requires-clause-within
from_places-requires-clause-within c =
    subst (λ xs. All (λ p. p < places c.args.graph.now) xs) (sym (c.deref.ensures.value ∙ c.in_ok-begins.ensures))
    (all_below (filter (is_field_of c.args.graph.now c.args.marks.now) (upto (places c.args.graph.now))) (places c.args.graph.now)
    (λ x h. upto_has (places c.args.graph.now) x (kept_has (is_field_of c.args.graph.now c.args.marks.now) (upto (places c.args.graph.now)) x h).1))

pub returns : goal.returns
returns c =
    IfOk-weaker c.from_places.result (λ (w : Walk). (from : ℕ → Bool) → ((p : ℕ) → p < places c.args.graph.now → from p ≡ has p c.deref.result.now) → IsWalkFrom c.args.graph.now from w) (λ w. IsWalkFrom c.args.graph.now (is_field_of c.args.graph.now c.args.marks.now) w)
    (λ w so. so (is_field_of c.args.graph.now c.args.marks.now) (λ p h. in_kept (is_field_of c.args.graph.now c.args.marks.now) (places c.args.graph.now) p h ∙ ap (λ xs. has p xs) (sym (c.deref.ensures.value ∙ c.in_ok-begins.ensures)))) c.from_places.ensures
