use Rattle.std.proofs.Common.{◌≡◌, ◌++◌, take}
use Rattle.ownership_model.specs.Touched.{touched_in}
use Rattle.agreement.proofs.suspects.Suspects.add.Given as goal

abbrev pub invariant-loop-outcome : goal.invariant-loop-outcome
invariant-loop-outcome l = l.self ≡ l.initial.self ++ touched_in (take l.outcome-index l.outcomes)
