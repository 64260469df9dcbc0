use Rattle.std.proofs.Common.{ℕ, ◌≡◌, true, take}
use Rattle.ownership_model.specs.Reach.{has}
use Rattle.agreement.proofs.JoiningLemmas.{IsJoining}
use Rattle.agreement.proofs.joining.joined.Given as goal

abbrev pub invariant-loop-object : goal.invariant-loop-object
invariant-loop-object l = (q : ℕ) → has q (take l.object-index l.objects) ≡ true → has q l.listed ≡ true

abbrev pub invariant-loop-at : goal.invariant-loop-at
invariant-loop-at l = IsJoining l.new l.old l.objects l.at l.listed
