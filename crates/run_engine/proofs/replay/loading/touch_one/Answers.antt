use Rattle.std.proofs.Common.{refl, [], ◌∷◌, Some}
use Rattle.run_engine.proofs.replay.loading.touch_one.Goals as goal

pub returns-in-Some-clause-touched : goal.returns-in-Some-clause-touched
returns-in-Some-clause-touched c = record {
  gone = c.in-Some.answer ∷ [];
  touches = (Some c.in-Some.answer, c.touch.new.self, [], c.in-Some.ensures, (refl, refl), refl);
  trace = refl;
  marks = c.give_up.ensures.marks;
}
