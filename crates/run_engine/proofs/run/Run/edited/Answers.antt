use Rattle.std.proofs.Common.{◌≡◌, ◌∙◌, Ok, ap, sym, subst}
use Rattle.std.specs.Ordering.{nat_cmp}
use Rattle.std.specs.BTreeSet.{contains}
use Rattle.run_engine.specs.Edited.{edited_by}
use Rattle.run_engine.specs.Bounds.{StepsAtMostFrom}
use Rattle.run_engine.specs.Segments.{trace_of, all_marks}
use Rattle.run_engine.specs.inner.Onward.{AreMarksDue}
use Rattle.run_engine.specs.RunView.{RunView}
use Rattle.run_engine.proofs.HeadAndTailLemmas.{bound-as}
use Rattle.run_engine.proofs.LeftLemmas.{AreMarksKept-due}
use Rattle.run_engine.proofs.run.Run.edited.Goals as goal

pub returns-in_err-replay-clause-bound : goal.returns-in_err-replay-clause-bound
returns-in_err-replay-clause-bound c ops e =
    let trace : c.in_ok-listed.listed.ops ≡ c.args.self.now.trace = c.in_ok-listed.ensures.ops ∙ c.of_segments-original.ensures ∙ ap (λ (s : RunView). s.trace) c.self.view_is in
    let base : c.in_ok-ops.ops.base ≡ c.args.self.now.trace = c.in_ok-ops.ensures.base ∙ c.in_ok-listed.ensures.base ∙ c.of_segments-original.ensures ∙ ap (λ (s : RunView). s.trace) c.self.view_is in
    let ok : edited_by c.args.self.now.trace c.args.batch.now ≡ Ok c.in_ok-ops.ops.ops = rw (trace, c.as_slice.ensures) at c.in_ok-ops.ensures.ok in
    let same : c.in_ok-ops.ops.ops ≡ ops = cc in
    subst (λ os. StepsAtMostFrom c.args.self.now.trace os c.args.self.now.marks c.args.meter.now c.resumed.new.meter) same
    (bound-as _ _ _ _ _ _ _ base (ap (λ (s : RunView). s.marks) c.self.view_is) c.resumed.ensures.bound)

pub returns-in_err-run-clause-bound : goal.returns-in_err-run-clause-bound
returns-in_err-run-clause-bound c ops e =
    let trace : c.in_ok-listed.listed.ops ≡ c.args.self.now.trace = c.in_ok-listed.ensures.ops ∙ c.of_segments-original.ensures ∙ ap (λ (s : RunView). s.trace) c.self.view_is in
    let base : c.in_ok-ops.ops.base ≡ c.args.self.now.trace = c.in_ok-ops.ensures.base ∙ c.in_ok-listed.ensures.base ∙ c.of_segments-original.ensures ∙ ap (λ (s : RunView). s.trace) c.self.view_is in
    let ok : edited_by c.args.self.now.trace c.args.batch.now ≡ Ok c.in_ok-ops.ops.ops = rw (trace, c.as_slice.ensures) at c.in_ok-ops.ensures.ok in
    let same : c.in_ok-ops.ops.ops ≡ ops = cc in
    subst (λ os. StepsAtMostFrom c.args.self.now.trace os c.args.self.now.marks c.args.meter.now c.resumed.new.meter) same
    (bound-as _ _ _ _ _ _ _ base (ap (λ (s : RunView). s.marks) c.self.view_is) c.resumed.ensures.bound)

pub returns-clause-bound : goal.returns-clause-bound
returns-clause-bound c ops e =
    let trace : c.in_ok-listed.listed.ops ≡ c.args.self.now.trace = c.in_ok-listed.ensures.ops ∙ c.of_segments-original.ensures ∙ ap (λ (s : RunView). s.trace) c.self.view_is in
    let base : c.in_ok-ops.ops.base ≡ c.args.self.now.trace = c.in_ok-ops.ensures.base ∙ c.in_ok-listed.ensures.base ∙ c.of_segments-original.ensures ∙ ap (λ (s : RunView). s.trace) c.self.view_is in
    let ok : edited_by c.args.self.now.trace c.args.batch.now ≡ Ok c.in_ok-ops.ops.ops = rw (trace, c.as_slice.ensures) at c.in_ok-ops.ensures.ok in
    let same : c.in_ok-ops.ops.ops ≡ ops = cc in
    subst (λ os. StepsAtMostFrom c.args.self.now.trace os c.args.self.now.marks c.args.meter.now c.resumed.new.meter) same
    (bound-as _ _ _ _ _ _ _ base (ap (λ (s : RunView). s.marks) c.self.view_is) c.resumed.ensures.bound)

pub returns-clause-marks : goal.returns-clause-marks
returns-clause-marks c =
    let base : c.in_ok-ops.ops.base ≡ c.args.self.now.trace = c.in_ok-ops.ensures.base ∙ c.in_ok-listed.ensures.base ∙ c.of_segments-original.ensures ∙ ap (λ (s : RunView). s.trace) c.self.view_is in
    let marks : all_marks c.self.inside.segments ≡ c.args.self.now.marks = ap (λ (s : RunView). s.marks) c.self.view_is in
    let due : AreMarksDue c.args.guesses.items c.args.self.now (record { trace = trace_of c.in_ok-replay.replay.segments; marks = all_marks c.in_ok-replay.replay.segments }) c.args.shelf.now c.resumed.new.shelf (contains nat_cmp c.in_ok-replay.replay.answered) =
    subst (λ (s : RunView). AreMarksDue c.args.guesses.items s (record { trace = trace_of c.in_ok-replay.replay.segments; marks = all_marks c.in_ok-replay.replay.segments }) c.args.shelf.now c.resumed.new.shelf (contains nat_cmp c.in_ok-replay.replay.answered)) (λ i. record { trace = base i; marks = marks i })
    (subst (λ ops. AreMarksDue c.args.guesses.items (record { trace = c.in_ok-ops.ops.base; marks = all_marks c.self.inside.segments }) (record { trace = ops; marks = all_marks c.in_ok-replay.replay.segments }) c.args.shelf.now c.resumed.new.shelf (contains nat_cmp c.in_ok-replay.replay.answered))
    (sym c.in_ok-replay.ensures.trace) (rw c.deref.ensures.value at c.in_ok-replay.ensures.marks)) in
    rw c.in_ok-run.ensures
    (AreMarksKept-due c.args.guesses.items c.args.self.now (record { trace = trace_of c.in_ok-replay.replay.segments; marks = all_marks c.in_ok-replay.replay.segments }) c.give_up_named.new.self c.args.shelf.now c.resumed.new.shelf c.remember_all.new.shelf (contains nat_cmp c.in_ok-replay.replay.answered) due c.remember_all.ensures c.give_up_named.ensures.trace c.give_up_named.ensures.marks)
