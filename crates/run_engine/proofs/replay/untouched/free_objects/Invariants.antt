use Rattle.std.proofs.Common.{◌≡◌, ℕ, true, take}
use Rattle.ownership_model.specs.Reach.{has}
use Rattle.run_engine.proofs.replay.untouched.free_objects.Given as goal

abbrev pub invariant-loop-object : goal.invariant-loop-object
invariant-loop-object l = (o : ℕ) → has o l.free.items ≡ true → has o (take l.object-index l.objects) ≡ true
