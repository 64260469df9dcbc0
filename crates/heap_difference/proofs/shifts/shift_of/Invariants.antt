use Rattle.std.proofs.Common.{◌≡◌, drop}
use Rattle.heap_difference.specs.Alikes.{shift_of}
use Rattle.heap_difference.proofs.shifts.shift_of.Given as goal

abbrev pub invariant-loop-shift : goal.invariant-loop-shift
invariant-loop-shift l = shift_of l.shifts l.object ≡ shift_of (drop l.shift-index l.shifts) l.object
