use Rattle.run_engine.specs.inner.Origins.{shelf_number}
use Rattle.run_engine.proofs.OnwardLemmas.{IsOnward-ahead}
use Rattle.run_engine.proofs.FreshLemmas.{EndsWith-fewer}
use Rattle.run_engine.proofs.GuessLemmas.{AreSome-chunks}
use Rattle.run_engine.proofs.replay.ahead.go_ahead.Goals as goal

pub step_ahead-requires-clause-placed : goal.step_ahead-requires-clause-placed
step_ahead-requires-clause-placed c = record {
  fresh = c.requires.placed.fresh;
  kept = EndsWith-fewer c.args.shelf.now.chunks c.touch_ahead.new.shelf.chunks (shelf_number c.args.prefix.behind) c.args.prefix.end c.in_ok-touch_ahead.ensures.answered.touched.fewer c.requires.placed.kept;
}

pub returns-clause-goes_on : goal.returns-clause-goes_on
returns-clause-goes_on c = λ old known.
    let ahead = c.in_ok-prefix.ensures.goes_ahead in
    let answered = c.in_ok-touch_ahead.ensures.answered in
    record {
      reached = ahead.reached;
      onward = rw (ahead.answered, c.in_ok-prefix.ensures.there) (IsOnward-ahead _ known _ _ _ _ _ _ _ _ _ answered c.in_ok-prefix.ensures.searched (rw c.in_ok-prefix.ensures.there at ahead.way known));
      stepped = λ r start chunks before all.
          c.in_ok-prefix.ensures.stepped old known.marks r start chunks before (λ e there. all e (AreSome-chunks known.guesses c.touch_ahead.new.shelf.chunks c.args.shelf.now.chunks answered.touched.fewer e there));
    }
