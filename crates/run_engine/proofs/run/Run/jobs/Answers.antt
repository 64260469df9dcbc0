use Rattle.std.proofs.Common.{◌≡◌, ℕ, Ok, ap, subst, ◌∙◌}
use Rattle.std.specs.Prelude.{fold}
use Rattle.run_engine.specs.Edited.{edited_by}
use Rattle.run_engine.specs.Jobs.{begin_by, AreJobsAt}
use Rattle.run_engine.specs.RunView.{RunView}
use Rattle.run_engine.specs.Segments.{trace_of, all_marks}
use Rattle.run_engine.specs.inner.Shifts.{shifted}
use Rattle.run_engine.proofs.run.Run.jobs.Goals as goal

pub returns-clause-jobs : goal.returns-clause-jobs
returns-clause-jobs c =
    let trace : c.in_ok-listed.listed.ops ≡ c.args.self.now.trace = c.in_ok-listed.ensures.ops ∙ c.of_segments-original.ensures ∙ ap (λ (s : RunView). s.trace) c.self.view_is in
    let ok : edited_by c.args.self.now.trace c.args.batch.now ≡ Ok c.in_ok-ops.ops.ops = rw (trace, c.as_slice.ensures) at c.in_ok-ops.ensures.ok in
    let moved : (begin : ℕ) → fold shifted begin c.in_ok-ops.shifts.items ≡ begin_by 0 c.args.self.now.trace c.args.batch.now begin = rw (trace, c.as_slice.ensures) at c.in_ok-ops.ensures.shifts in
    let jobs : AreJobsAt (λ begin. fold shifted begin c.in_ok-ops.shifts.items) (trace_of c.self.inside.segments) c.in_ok-ops.ops.ops (all_marks c.self.inside.segments) c.in_ok-jobs.jobs.items = rw c.deref.ensures.value at c.in_ok-jobs.ensures in
    let here : AreJobsAt (λ begin. fold shifted begin c.in_ok-ops.shifts.items) c.args.self.now.trace c.in_ok-ops.ops.ops c.args.self.now.marks c.in_ok-jobs.jobs.items =
    subst (λ (s : RunView). AreJobsAt (λ begin. fold shifted begin c.in_ok-ops.shifts.items) s.trace c.in_ok-ops.ops.ops s.marks c.in_ok-jobs.jobs.items) c.self.view_is jobs in
    (c.in_ok-ops.ops.ops, ok, subst (λ begin. AreJobsAt begin c.args.self.now.trace c.in_ok-ops.ops.ops c.args.self.now.marks c.in_ok-jobs.jobs.items) (λ i begin. moved begin i) here)
