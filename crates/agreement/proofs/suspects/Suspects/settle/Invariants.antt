use Rattle.std.proofs.Common.{ℕ, ◌≡◌, true, false, take}
use Rattle.std.specs.FinMap.{get}
use Rattle.ownership_model.specs.Reach.{has}
use Rattle.agreement.proofs.suspects.Suspects.settle.Given as goal

abbrev pub invariant-loop-object : goal.invariant-loop-object
invariant-loop-object l = (q : ℕ) → has q (take l.object-index l.object-items) ≡ true → has q l.left ≡ false → get l.new.objects q ≡ get l.old.objects q
