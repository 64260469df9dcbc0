use Rattle.std.proofs.Common.{◌≡◌, take, false}
use Rattle.heap_difference.specs.Alikes.{is_alike}
use Rattle.heap_difference.proofs.shifts.is_shifted.Given as goal

abbrev pub invariant-loop-shift : goal.invariant-loop-shift
invariant-loop-shift l = is_alike (take l.shift-index l.shifts) l.object ≡ false
