use Rattle.std.proofs.Common.{◌≡◌, true, false, ap, sym, ◌∙◌}
use Rattle.std.specs.Prelude.{is_some}
use Rattle.ownership_model.specs.State.{nothing_held}
use Rattle.ownership_model.specs.Step.{end_from}
use Rattle.run_engine.proofs.PieceLemmas.{mark-is}
use Rattle.run_engine.proofs.PlaceLemmas.{trace_of-prefix}
use Rattle.run_engine.proofs.JobLemmas.{mark-kept}
use Rattle.run_engine.proofs.jobs.start.heap_of.Goals as goal

pub returns-in_ok-heap-in-Some-mark : goal.returns-in_ok-heap-in-Some-mark
returns-in_ok-heap-in-Some-mark c =
    c.in_ok-heap-in-Some-mark.ensures
    ∙ mark-is c.args.segments.now c.in-Some.i c.at.result c.in-Some-mark.checkpoint c.requires.run.replay c.in-Some.ensures.within c.at.ensures c.in-Some-mark.ensures
    ∙ ap (end_from nothing_held) (trace_of-prefix c.args.segments.now c.in-Some.i c.args.mark c.in-Some.ensures.place)

-- a segment that begins at a checkpoint has it
pub returns-in-None : goal.returns-in-None
returns-in-None c =
    let kept : is_some c.at.result.mark ≡ true = mark-kept c.args.segments.now c.in-Some.i c.args.mark c.at.result c.requires.run.full c.in-Some.ensures.within c.at.ensures c.in-Some.ensures.place c.requires.mark in
    let none : is_some c.at.result.mark ≡ false = ap is_some (sym c.in-None.ensures) in
    absurd cc
