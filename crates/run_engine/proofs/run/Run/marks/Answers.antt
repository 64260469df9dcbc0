use Rattle.std.proofs.Common.{◌+◌, length, subst, arith}
use Rattle.std.specs.Prelude.{Contains}
use Rattle.run_engine.specs.RunView.{RunView}
use Rattle.run_engine.specs.Segments.{trace_of}
use Rattle.run_engine.specs.Steps.{AreRising}
use Rattle.run_engine.proofs.PlaceLemmas.{first-mark-there, end-mark}
use Rattle.run_engine.proofs.MarksLemmas.{rising-marks}
use Rattle.run_engine.proofs.run.Run.marks.Goals as goal

pub returns-clause-rising : goal.returns-clause-rising
returns-clause-rising c =
    subst (λ (s : RunView). AreRising 0 (length s.trace + 1) s.marks) c.self.view_is
    (rising-marks 0 (length (trace_of c.self.inside.segments)) c.self.inside.segments (omega arith) c.self.invariant.run.full)

pub returns-clause-first : goal.returns-clause-first
returns-clause-first c = subst (λ (s : RunView). Contains s.marks 0) c.self.view_is (first-mark-there c.self.inside.segments c.self.invariant.run.begins)

pub returns-clause-last : goal.returns-clause-last
returns-clause-last c = subst (λ (s : RunView). Contains s.marks (length s.trace)) c.self.view_is (end-mark c.self.inside.segments)
