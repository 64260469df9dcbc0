use Rattle.std.proofs.Common.{◌<◌, length, ap, ◌∙◌, subst, arith, IsTrue}
use Rattle.std.specs.Prelude.{if◌then◌else◌}
use Rattle.run_engine.specs.RunView.{RunView}
use Rattle.run_engine.specs.Segments.{trace_of, without, IsInner}
use Rattle.run_engine.proofs.SegmentLemmas.{trace_of-without_mark}
use Rattle.run_engine.proofs.GiveUpLemmas.{IsKept-without_mark, given-up, IsInner-answer}
use Rattle.run_engine.proofs.run.Run.give_up.Goals as goal

pub invariant_of-self : goal.invariant_of-self
invariant_of-self c = let pos : 0 < c.in-Some.i = omega (arith, c.if-i-eq0.false) in rw c.clear_mark.ensures.kept (IsKept-without_mark c.self.inside.segments c.self.inside.end c.in-Some.i pos c.self.invariant)

pub returns-else-i-eq0-clause-trace : goal.returns-else-i-eq0-clause-trace
returns-else-i-eq0-clause-trace c = ap trace_of c.clear_mark.ensures.kept ∙ trace_of-without_mark c.self.inside.segments c.in-Some.i ∙ ap (λ (s : RunView). s.trace) c.self.view_is

pub returns-else-i-eq0-clause-answer : goal.returns-else-i-eq0-clause-answer
returns-else-i-eq0-clause-answer c =
    let pos : 0 < c.in-Some.i = omega (arith, c.if-i-eq0.false) in
    let lt = c.in-Some.ensures.within in
    let place = c.in-Some.ensures.place in
    let both = IsInner-answer c.self.inside.segments c.in-Some.i c.args.position c.self.invariant.run.full lt pos place in
    subst (λ (s : RunView). (IsTrue c.clear_mark.result → IsInner s.marks (length s.trace) c.args.position) × (IsInner s.marks (length s.trace) c.args.position → IsTrue c.clear_mark.result)) c.self.view_is
    (rw c.clear_mark.ensures.answer both)

pub returns-else-i-eq0-clause-marks : goal.returns-else-i-eq0-clause-marks
returns-else-i-eq0-clause-marks c =
    let lt = c.in-Some.ensures.within in
    let place = c.in-Some.ensures.place in
    rw c.clear_mark.ensures.kept
    (given-up c.self.inside.segments c.in-Some.i c.args.position c.clear_mark.result c.self.invariant.run.full lt place c.clear_mark.ensures.answer
    ∙ ap (λ (s : RunView). if c.clear_mark.result then without c.args.position s.marks else s.marks) c.self.view_is)
