use Rattle.std.proofs.Common.{◌≡◌, ◌++◌, ◌∙◌, ap, subst, List}
use Rattle.std.specs.Arc.{arc_value}
use Rattle.trace_types.specs.declared.outcomes.Outcome.{Outcome}
use Rattle.trace_types.specs.Operation.{Operation}
use Rattle.ownership_model.specs.declared.key.Key.{Key}
use Rattle.ownership_model.specs.State.{State}
use Rattle.ownership_model.specs.Step.{outcomes_from, end_from}
use Rattle.ownership_model.specs.Alike.{Covers}
use Rattle.ownership_model.proofs.LawsHold.{soundness}
use Rattle.heap_difference.specs.Naming.{with_names}
use Rattle.op_step.specs.Told.{replay_keys}
use Rattle.op_step.proofs.ToldLemmas.{has_touched}
use Rattle.op_step.proofs.chunk_run.run_of.Goals as goal

pub replay_told-requires : goal.replay_told-requires
replay_told-requires c =
    let ops_are : c.as_slice.result.now ≡ (arc_value c.args.ops).items = rw c.deref-2.ensures at c.as_slice.ensures.value in
    rw (c.in_ok-share.ensures, ops_are)
    (soundness.replays c.args.start.now (arc_value c.args.ops).items c.show_sound.ensures.sound c.requires.distinct c.requires.unused).0

pub invariant_of-result : goal.invariant_of-result
invariant_of-result c =
    let m : State = c.args.start.now in
    let ops : List Operation = (arc_value c.args.ops).items in
    let before : List Key = c.in_ok-told.told.items in
    let told : List Key = c.replay_told.new.keys.items in
    let outs : List Outcome = c.in_ok-outcomes.outcomes in
    let ops_are : c.as_slice.result.now ≡ ops = rw c.deref-2.ensures at c.as_slice.ensures.value in
    rw (c.in_ok-share-2.ensures, c.in_ok-new.ensures.ok, c.in_ok-new-2.ensures.ok) (
      record {
        distinct = c.requires.distinct;
        unused = c.requires.unused;
        outcomes_are =
            c.in_ok-outcomes.ensures.outcomes ∙ ap (λ (s : State). outcomes_from s c.as_slice.result.now) c.in_ok-share.ensures ∙ ap (λ (os : List Operation). outcomes_from m os) ops_are;
        end_is = c.in_ok-outcomes.ensures.end ∙ ap (λ (s : State). end_from s c.as_slice.result.now) c.in_ok-share.ensures ∙ ap (λ (os : List Operation). end_from m os) ops_are;
      },
      has_touched told before m ops outs
          (subst (λ (s : State). Covers (with_names told ops outs) (before ++ replay_keys s ops)) c.in_ok-share.ensures
          (subst (λ (os : List Operation). Covers (with_names told os outs) (before ++ replay_keys c.in_ok-share.field-0 os)) ops_are c.in_ok-outcomes.ensures.told)),
    )
