use Rattle.std.proofs.Common.{◌≡◌, ◌<◌, ℕ, get_or, bit_and}
use Rattle.heap_difference.proofs.filter.Filter.may_meet.Given as goal

abbrev pub invariant-loop-i : goal.invariant-loop-i
invariant-loop-i l = (j : ℕ) → j < l.i → bit_and (get_or l.self-inside.words j 0) (get_or l.other-inside.words j 0) ≡ 0
