use Rattle.std.proofs.Common.{◌∙◌, ap, map, List}
use Rattle.std.specs.Prelude.{flat_map}
use Rattle.std.proofs.lemmas.List.{take_all}
use Rattle.trace_types.specs.declared.outcomes.Outcome.{Outcome}
use Rattle.heap_difference.specs.Alikes.{shifted_outcome}
use Rattle.heap_difference.specs.Naming.{outcome_keys}
use Rattle.heap_difference.proofs.AlikeLemmas.{same_names}
use Rattle.heap_difference.proofs.recounted.recounted.Goals as goal

pub returns-clause-names : goal.returns-clause-names
returns-clause-names c =
    ap (flat_map outcome_keys)
    (c.from_vec.ensures ∙ c.loop-outcome.invariant ∙ ap (λ (xs : List Outcome). map (shifted_outcome c.args.shifts.now) xs) (take_all c.loop-outcome.outcome-index c.args.outcomes.now c.loop-outcome-test.false))
    ∙ same_names c.args.shifts.now c.args.outcomes.now
