use Rattle.std.proofs.Common.{◌≡◌, List, [], ◌∷◌, ◌++◌, ap, subst, ◌∙◌}
use Rattle.std.specs.Prelude.{Some, None}
use Rattle.std.specs.Arc.{arc_value}
use Rattle.trace_types.specs.declared.outcomes.Outcome.{Outcome}
use Rattle.trace_types.specs.Operation.{Operation}
use Rattle.ownership_model.specs.declared.key.Key.{Key}
use Rattle.ownership_model.specs.State.{State}
use Rattle.ownership_model.specs.Step.{outcomes_from}
use Rattle.ownership_model.specs.Alike.{Covers}
use Rattle.ownership_model.proofs.LawsHold.{soundness}
use Rattle.heap_difference.specs.Naming.{with_names}
use Rattle.op_step.specs.Told.{replay_keys}
use Rattle.run_engine.specs.SegmentView.{SegmentView}
use Rattle.run_engine.specs.Segments.{AreKeysFrom}
use Rattle.run_engine.proofs.DifferenceLemmas.{told-touched}
use Rattle.run_engine.proofs.replay.prefix.replayed_on.Goals as goal

pub replay_told-requires : goal.replay_told-requires
replay_told-requires c =
    let ops-are : c.as_slice.result.now ≡ (arc_value c.args.ops).items = rw c.deref-2.ensures at c.as_slice.ensures.value in
    rw ops-are (soundness.replays c.args.prefix.end (arc_value c.args.ops).items c.show_sound.ensures.sound c.requires.distinct c.requires.unused).0

pub returns-clause-segments : goal.returns-clause-segments
returns-clause-segments c =
    let m : State = c.args.prefix.end in
    let ops : List Operation = (arc_value c.args.ops).items in
    let ops-are : c.as_slice.result.now ≡ ops = rw c.deref-2.ensures at c.as_slice.ensures.value in
    let told : List Key = c.replay_told.new.keys.items in
    let outs : List Outcome = c.in_ok-outcomes.outcomes in
    let outs-are : outs ≡ outcomes_from m ops = c.in_ok-outcomes.ensures.outcomes ∙ ap (λ (os : List Operation). outcomes_from m os) ops-are in
    record {
      keys = told;
      touched = subst (AreKeysFrom m (Some told) ops) outs-are
          (told-touched told c.new-told.result.items m ops outs (subst (λ (os : List Operation). Covers (with_names told os outs) (c.new-told.result.items ++ replay_keys m os)) ops-are c.in_ok-outcomes.ensures.told));
      segments_are = c.in_ok-segments.ensures ∙ ap (λ (s : SegmentView). c.args.prefix.segments ++ s ∷ [])
          (c.in_ok-filtered.ensures ∙ c.in_ok-bare.ensures ∙ ap (λ (os : List Outcome). record { mark = None; anchor = c.args.anchor; keys = Some told; ops = ops; outcomes = os }) outs-are);
    }
