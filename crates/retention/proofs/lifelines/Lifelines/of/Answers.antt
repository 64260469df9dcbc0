use Rattle.std.proofs.Common.{rules}
use Rattle.std.specs.Prelude.{◌≡◌}
use Rattle.std.proofs.lemmas.Fn.{always_returns_same}
use Rattle.std.proofs.lemmas.List.Sorted.{IsNonDecreasingBy-from_sort_by_key}
use Rattle.trace_types.specs.declared.outcomes.Event.TheVariants.{Destroyed}
use Rattle.retention_model.specs.declared.mark.Mark.TheVariants.{Ended}
use Rattle.retention_model.specs.declared.mark.Marked.{Marked}
use Rattle.retention.proofs.LifeLemmas.{marks_sorted}
use Rattle.retention.proofs.lifelines.Lifelines.of.Goals as goal

pub invariant_of-result : goal.invariant_of-result
invariant_of-result c = record { rising = IsNonDecreasingBy-from_sort_by_key (λ (x : Marked). x.object) _ c.in_ok-sort_by_key.ensures.sorted (λ a r q k. search rules) }

pub returns : goal.returns
returns c = λ o. marks_sorted _ _ (c.in_ok-sort_by_key.ensures.stable (λ (x : Marked). x.object) (always_returns_same _ (λ a r. r ≡ a.0.now.object) _ (λ a r q k. search rules)))
    (record { object = o; position = 0; strong = 0; weak = 0; mark = Ended (Destroyed 0) })
