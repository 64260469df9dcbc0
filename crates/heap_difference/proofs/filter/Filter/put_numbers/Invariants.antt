use Rattle.std.proofs.Common.{◌≡◌, ◌+◌, ◌%◌, take, ℕ, true}
use Rattle.ownership_model.specs.Reach.{has}
use Rattle.heap_difference.specs.Filters.{class_bit}
use Rattle.heap_difference.proofs.filter.Filter.put_numbers.Given as goal

abbrev pub invariant-loop-number : goal.invariant-loop-number
invariant-loop-number l = ((q : ℕ) → has q (take l.number-index l.number-items) ≡ true → class_bit l.self (l.fn.first + q % l.fn.count) ≡ 1) × ((c : ℕ) → class_bit l.fn.self c ≡ 1 → class_bit l.self c ≡ 1)
