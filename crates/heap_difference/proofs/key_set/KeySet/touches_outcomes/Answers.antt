use Rattle.std.proofs.Common.{◌≡◌, ◌∙◌, sym, subst, true, false, List}
use Rattle.std.specs.List.{list_any}
use Rattle.std.proofs.lemmas.List.{take_all}
use Rattle.std.proofs.lemmas.List.Folds.{list_any_at}
use Rattle.trace_types.specs.declared.outcomes.Outcome.{Outcome}
use Rattle.heap_difference.specs.KeySets.{is_among}
use Rattle.heap_difference.specs.Naming.{outcome_keys}
use Rattle.heap_difference.proofs.NamingLemmas.{any_part}
use Rattle.heap_difference.proofs.key_set.KeySet.touches_outcomes.Goals as goal

pub returns-then-touches_outcome : goal.returns-then-touches_outcome
returns-then-touches_outcome c =
    let p = is_among c.args.self.now in
    let here : list_any p (outcome_keys c.outcome-item.result) ≡ true = sym c.touches_outcome.ensures ∙ c.if-touches_outcome.true in
    sym (any_part p outcome_keys c.args.outcomes.now
    ∙ list_any_at (λ x. list_any p (outcome_keys x)) c.args.outcomes.now c.loop-outcome.outcome-index c.outcome-item.result c.loop-outcome-test.true
    (subst (λ x. list_any p (outcome_keys x) ≡ true) c.outcome-item.is here))

pub returns : goal.returns
returns c =
    let p = is_among c.args.self.now in
    sym (any_part p outcome_keys c.args.outcomes.now
    ∙ subst (λ (xs : List Outcome). list_any (λ x. list_any p (outcome_keys x)) xs ≡ false) (take_all c.loop-outcome.outcome-index c.args.outcomes.now c.loop-outcome-test.false) c.loop-outcome.invariant)
