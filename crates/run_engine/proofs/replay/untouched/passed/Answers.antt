use Rattle.std.proofs.Common.{◌≡◌, subst, List}
use Rattle.std.specs.Prelude.{flat_map}
use Rattle.trace_types.specs.Operation.{Operation}
use Rattle.trace_types.specs.declared.outcomes.Outcome.{Outcome}
use Rattle.ownership_model.specs.declared.key.Key.{Key}
use Rattle.heap_difference.specs.KeySets.{set_of}
use Rattle.heap_difference.specs.Naming.{outcome_keys, with_names}
use Rattle.heap_difference.specs.Passing.{MayBePassed}
use Rattle.heap_difference.specs.Recounted.{told_or}
use Rattle.run_engine.specs.inner.Untouched.{IsClear}
use Rattle.run_engine.proofs.UntouchedLemmas.{both-told}
use Rattle.run_engine.proofs.replay.untouched.passed.Goals as goal

pub returns : goal.returns
returns c =
    let s = c.args.segment.now in
    let l = c.args.layer.now in
    let told : List Key = c.in-Some.touched.now in
    both-told c.passed.result
    (λ others. MayBePassed l c.args.holders.now c.passed.new.holders (set_of (with_names told c.ops.result.now c.outcomes.result.now)) c.ops.result.now c.outcomes.result.now (told_or c.outcomes.result.now others))
    (λ others. flat_map outcome_keys (told_or c.outcomes.result.now others) ≡ flat_map outcome_keys c.outcomes.result.now)
    (λ others. IsClear s l c.args.holders.now c.passed.new.holders (told_or s.outcomes others))
    (λ others may names. record {
      told = told;
      known = rw c.in-Some.is at c.keys.ensures;
      passed = subst (λ (ops : List Operation). MayBePassed l c.args.holders.now c.passed.new.holders (set_of (with_names told ops s.outcomes)) ops s.outcomes (told_or s.outcomes others)) c.ops.ensures
          (subst (λ (xs : List Outcome). MayBePassed l c.args.holders.now c.passed.new.holders (set_of (with_names told c.ops.result.now xs)) c.ops.result.now xs (told_or xs others)) c.outcomes.ensures may);
      names = subst (λ (xs : List Outcome). flat_map outcome_keys (told_or xs others) ≡ flat_map outcome_keys xs) c.outcomes.ensures names;
    })
    c.passed.ensures.passed c.passed.ensures.names
