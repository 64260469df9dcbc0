use Rattle.std.proofs.Common.{◌+◌, ◌<◌, ◌≤◌, List, [], ◌∷◌, ◌++◌, length, drop, get_or, refl, ap, sym, subst, arith}
use Rattle.std.specs.Prelude.{fold}
use Rattle.std.proofs.lemmas.List.{append-nil, drop_all}
use Rattle.op_step.specs.Chunk.{Chunk}
use Rattle.run_engine.specs.Segments.{trace_of, all_marks}
use Rattle.run_engine.specs.Jobs.{AreJobsAt}
use Rattle.run_engine.specs.inner.Shifts.{shifted, IsPlace, GivesJob}
use Rattle.run_engine.proofs.PlaceLemmas.{all-within}
use Rattle.run_engine.proofs.JobLemmas.{from-there, gives-stretch, AreJobsAt-next}
use Rattle.run_engine.proofs.jobs.changed.changed.Goals as goal

pub place_of-place-requires-clause-small : goal.place_of-place-requires-clause-small
place_of-place-requires-clause-small c = rw (c.as_slice-in-loop-i.ensures, c.in_ok-marks.ensures) (λ mark there. all-within c.args.segments.now mark _ there c.requires.kept.trace.few)

pub job_at-requires-clause-base_order : goal.job_at-requires-clause-base_order
job_at-requires-clause-base_order c =
    let lt : c.loop-i.i < length c.as_slice-in-loop-i.result.now = omega (arith, c.loop-i-test.true, c.len-i-end.ensures, ap length c.as_slice-in-loop-i.ensures) in
    (c.place_of-place.ensures _ _ (from-there c.as_slice-in-loop-i.result.now c.loop-i.i lt)).base_order

pub job_at-requires-clause-base_within : goal.job_at-requires-clause-base_within
job_at-requires-clause-base_within c =
    let lt : c.loop-i.i < length c.as_slice-in-loop-i.result.now = omega (arith, c.loop-i-test.true, c.len-i-end.ensures, ap length c.as_slice-in-loop-i.ensures) in
    omega (arith, (c.place_of-place.ensures _ _ (from-there c.as_slice-in-loop-i.result.now c.loop-i.i lt)).base_within, ap length c.requires.base)

pub job_at-requires-clause-order : goal.job_at-requires-clause-order
job_at-requires-clause-order c =
    let lt : c.loop-i.i < length c.as_slice-in-loop-i.result.now = omega (arith, c.loop-i-test.true, c.len-i-end.ensures, ap length c.as_slice-in-loop-i.ensures) in
    (c.place_of-place.ensures _ _ (from-there c.as_slice-in-loop-i.result.now c.loop-i.i lt)).order

pub job_at-requires-clause-within : goal.job_at-requires-clause-within
job_at-requires-clause-within c =
    let lt : c.loop-i.i < length c.as_slice-in-loop-i.result.now = omega (arith, c.loop-i-test.true, c.len-i-end.ensures, ap length c.as_slice-in-loop-i.ensures) in
    (c.place_of-place.ensures _ _ (from-there c.as_slice-in-loop-i.result.now c.loop-i.i lt)).within

pub loop-i-preserved : goal.loop-i-preserved
loop-i-preserved c =
    let old = c.args.segments.now in
    let lt : c.loop-i.i < length (all_marks c.args.segments.now) = omega (arith, c.loop-i-test.true, c.len-i-end.ensures, ap length c.in_ok-marks.ensures) in
    let is : IsPlace (trace_of c.args.segments.now) c.args.ops.now.ops (λ begin. fold shifted begin c.args.shifts.now) (get_or (all_marks c.args.segments.now) c.loop-i.i 0) (drop (c.loop-i.i + 1) (all_marks c.args.segments.now)) c.place_of-place.result =
    (rw (c.as_slice-in-loop-i.ensures, c.in_ok-marks.ensures, c.requires.base) at c.place_of-place.ensures) _ _ (from-there (all_marks c.args.segments.now) c.loop-i.i lt) in
    let gives : GivesJob (trace_of c.args.segments.now) c.args.ops.now.ops (get_or (all_marks c.args.segments.now) c.loop-i.i 0) c.place_of-place.result c.in_ok-job.job = rw (c.as_slice.ensures, c.in_ok-marks.ensures) at c.in_ok-job.ensures in
    let before : (others : List Chunk) → AreJobsAt (λ begin. fold shifted begin c.args.shifts.now) (trace_of c.args.segments.now) c.args.ops.now.ops (get_or (all_marks c.args.segments.now) c.loop-i.i 0 ∷ drop (c.loop-i.i + 1) (all_marks c.args.segments.now)) others
    → AreJobsAt (λ begin. fold shifted begin c.args.shifts.now) (trace_of c.args.segments.now) c.args.ops.now.ops (all_marks c.args.segments.now) (c.loop-i.jobs.items ++ others) =
    subst (λ marks. (others : List Chunk) → AreJobsAt (λ begin. fold shifted begin c.args.shifts.now) (trace_of c.args.segments.now) c.args.ops.now.ops marks others
    → AreJobsAt (λ begin. fold shifted begin c.args.shifts.now) (trace_of c.args.segments.now) c.args.ops.now.ops (all_marks c.args.segments.now) (c.loop-i.jobs.items ++ others)) (from-there (all_marks c.args.segments.now) c.loop-i.i lt) c.loop-i.invariant in
    rw c.in_ok-push_job.ensures
    (λ more rest. AreJobsAt-next (λ begin. fold shifted begin c.args.shifts.now) (trace_of c.args.segments.now) c.args.ops.now.ops (all_marks c.args.segments.now) (drop (c.loop-i.i + 1) (all_marks c.args.segments.now)) (get_or (all_marks c.args.segments.now) c.loop-i.i 0) c.in_ok-job.job c.loop-i.jobs.items more
    (gives-stretch (trace_of c.args.segments.now) c.args.ops.now.ops (λ begin. fold shifted begin c.args.shifts.now) (get_or (all_marks c.args.segments.now) c.loop-i.i 0) (drop (c.loop-i.i + 1) (all_marks c.args.segments.now)) c.place_of-place.result c.in_ok-job.job more is gives)
    before rest)

pub returns : goal.returns
returns c =
    let past : length (all_marks c.args.segments.now) ≤ c.loop-i.i = omega (arith, c.loop-i-test.false, c.len-i-end.ensures, ap length c.in_ok-marks.ensures) in
    subst (AreJobsAt (λ begin. fold shifted begin c.args.shifts.now) (trace_of c.args.segments.now) c.args.ops.now.ops (all_marks c.args.segments.now)) (append-nil c.loop-i.jobs.items)
    (c.loop-i.invariant [] (subst (λ marks. AreJobsAt (λ begin. fold shifted begin c.args.shifts.now) (trace_of c.args.segments.now) c.args.ops.now.ops marks []) (sym (drop_all c.loop-i.i (all_marks c.args.segments.now) past)) refl))
