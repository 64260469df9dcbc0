use Rattle.std.proofs.Common.{◌≡◌, take, ℕ, true}
use Rattle.ownership_model.specs.Reach.{has}
use Rattle.heap_difference.proofs.numbers.Numbers.has_all.Given as goal

abbrev pub invariant-loop-number : goal.invariant-loop-number
invariant-loop-number l = (q : ℕ) → has q (take l.number-index l.number-items) ≡ true → has q l.self ≡ true
