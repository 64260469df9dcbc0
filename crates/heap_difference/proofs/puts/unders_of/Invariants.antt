use Rattle.std.proofs.Common.{◌≡◌, take}
use Rattle.heap_difference.specs.Puts.{unders}
use Rattle.heap_difference.proofs.puts.unders_of.Given as goal

abbrev pub invariant-loop-put : goal.invariant-loop-put
invariant-loop-put l = l.handles.items ≡ unders (take l.put-index l.puts)
