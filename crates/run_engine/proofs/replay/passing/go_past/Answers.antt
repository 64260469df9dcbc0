use Rattle.std.proofs.Common.{◌+◌, arith, length, take, sym, subst}
use Rattle.std.proofs.lemmas.Result.{IfOk-weaker}
use Rattle.run_engine.specs.Segments.{trace_of}
use Rattle.run_engine.specs.inner.OldRun.{reusable}
use Rattle.run_engine.specs.inner.Untouched.{IsPast}
use Rattle.run_engine.proofs.GoesOnLemmas.{GoesOn-none}
use Rattle.run_engine.proofs.OverLemmas.{IsPast-next}
use Rattle.run_engine.proofs.replay.passing.go_past.Goals as goal

-- the replay stays where it stands
pub returns-in-None-clause-beside : goal.returns-in-None-clause-beside
returns-in-None-clause-beside c = λ count.
    GoesOn-none (trace_of c.args.revision.now.segments.now) c.args.revision.now.ops.now.ops (reusable c.args.revision.now) c.args.progress.prefix c.args.shelf.now count c.requires.prefix

pub returns-in-None-clause-past : goal.returns-in-None-clause-past
returns-in-None-clause-past c = λ p there passed agrees. absurd (omega arith)

-- it goes on
pub returns-in-Some-clause-no_less : goal.returns-in-Some-clause-no_less
returns-in-Some-clause-no_less c = IfOk-weaker c.taken.result _ _ (λ p there. omega (arith, there)) c.taken.ensures.len

pub returns-in-Some-clause-past : goal.returns-in-Some-clause-past
returns-in-Some-clause-past c =
    let next = rw c.in-Some.is at c.in_ok-next.ensures.next in
    let past = IsPast-next c.args.revision.now.segments.now c.args.revision.now.end.now c.args.revision.now.ops.now.ops c.args.old.now.index c.args.old.now.at c.args.progress.prefix.len c.args.progress.prefix.end c.in-Some.piece
    c.args.revision.now.holds.kept c.args.revision.now.holds.trace.distinct c.requires.place c.requires.prefix.state c.requires.shared next in
    IfOk-weaker c.taken.result _ _
    (λ p there. subst (IsPast (trace_of c.args.revision.now.segments.now) c.args.revision.now.ops.now.ops c.args.old.now.at (length (trace_of (take (c.args.old.now.index + 1) c.args.revision.now.segments.now))) c.args.progress.prefix.len) (sym there) past)
    c.taken.ensures.len

pub returns-in-Some-clause-known : goal.returns-in-Some-clause-known
returns-in-Some-clause-known c = IfOk-weaker c.taken.result _ _ (λ p there. c.in_ok-next.ensures.known) c.taken.ensures.len

pub returns-in-Some-clause-divergence : goal.returns-in-Some-clause-divergence
returns-in-Some-clause-divergence c = IfOk-weaker c.taken.result _ _ (λ p there. c.in_ok-next.ensures.divergence) c.taken.ensures.len

pub taken-requires-clause-origin : goal.taken-requires-clause-origin
taken-requires-clause-origin c = λ chunks. rw c.in-Some.is at (c.in_ok-next.ensures.origin chunks)
