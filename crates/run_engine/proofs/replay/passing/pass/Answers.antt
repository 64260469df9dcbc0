use Rattle.std.proofs.Common.{◌+◌, ◌<◌, length, take, subst, arith}
use Rattle.std.proofs.lemmas.Result.{IfOk-weaker}
use Rattle.run_engine.specs.Segments.{trace_of, all_marks}
use Rattle.run_engine.proofs.ConvergeLemmas.{IsPastMarks-none, trace_of-rises}
use Rattle.run_engine.proofs.UntouchedLemmas.{full-few}
use Rattle.run_engine.proofs.replay.passing.pass.Goals as goal

pub overflow_add-old : goal.overflow_add-old
overflow_add-old c = omega (arith, c.requires.within, full-few c.args.revision.now.segments.now c.args.revision.now.holds.kept.run.full, c.args.revision.now.holds.kept.trace.few)

pub returns-then-is_followed-clause-past : goal.returns-then-is_followed-clause-past
returns-then-is_followed-clause-past c = IfOk-weaker c.go_past.result _ _ (λ next past. λ p mark later passed agrees. past p later passed agrees) c.go_past.ensures.past

-- a part of an old stretch
pub returns-clause-past : goal.returns-clause-past
returns-clause-past c =
    let behind = length (trace_of (take (c.args.old.now.index + 1) c.args.revision.now.segments.now)) in
    let rises : c.args.old.now.at < behind = subst (λ n. n < behind) c.requires.place (trace_of-rises c.args.revision.now.segments.now c.args.old.now.index c.args.revision.now.holds.kept.run.full c.requires.within) in
    IfOk-weaker c.pass_part.result _ _
    (λ next none. IsPastMarks-none (trace_of c.args.revision.now.segments.now) c.args.revision.now.ops.now.ops (all_marks c.args.revision.now.segments.now) c.args.old.now.at behind c.args.progress.prefix.len next.prefix.len rises none)
    c.pass_part.ensures.past

pub returns-clause-divergence : goal.returns-clause-divergence
returns-clause-divergence c = IfOk-weaker c.pass_part.result _ _ (λ next there. c.requires.divergence) c.pass_part.ensures.no_less
