use Rattle.std.proofs.Common.{◌≡◌, List, sym, subst, inr}
use Rattle.trace_types.specs.Operation.{Operation}
use Rattle.run_engine.specs.Guesses.{with_guesses}
use Rattle.run_engine.specs.Steps.{AreSteppedFrom}
use Rattle.run_engine.specs.GivenUp.{AreMarksKept}
use Rattle.edit_desk.specs.Versions.{Version, StepsAtLeast}
use Rattle.edit_desk.proofs.desk.settle.Goals as goal

pub returns-in_ok-next-in-Ok-clause-stepped : goal.returns-in_ok-next-in-Ok-clause-stepped
unfolding StepsAtLeast
returns-in_ok-next-in-Ok-clause-stepped c = λ _ ops e.
    let ok = c.in-Ok.ensures.trace in
    let same : c.in-Ok.run'.trace ≡ ops = cc in
    subst (λ (os : List Operation). AreSteppedFrom c.args.published.now.run.trace os c.args.published.now.run.marks (with_guesses c.args.guesses.items c.args.shelf.now.chunks) c.args.meter.now c.revised.new.meter) same c.in-Ok.ensures.stepped

pub returns-in_ok-share-in-Some-clause-stepped : goal.returns-in_ok-share-in-Some-clause-stepped
unfolding StepsAtLeast
returns-in_ok-share-in-Some-clause-stepped c = λ _ ops e.
    let told = rw (sym c.refusal.ensures, c.in-Some.is) at c.in-Err.ensures.fault in
    absurd cc

pub returns-in_ok-next-in-Ok-clause-run : goal.returns-in_ok-next-in-Ok-clause-run
returns-in_ok-next-in-Ok-clause-run c =
    inr (subst (λ (v : Version). AreMarksKept c.args.guesses.items c.args.published.now.run v.run c.args.shelf.now c.revised.new.shelf) (sym c.in_ok-next-in-Ok.ensures) c.in-Ok.ensures.marks)
