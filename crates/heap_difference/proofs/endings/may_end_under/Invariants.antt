use Rattle.std.proofs.Common.{◌≡◌, take, false}
use Rattle.std.specs.List.{list_any}
use Rattle.heap_difference.specs.Endings.{may_end}
use Rattle.heap_difference.specs.Puts.{unders}
use Rattle.heap_difference.proofs.endings.may_end_under.Given as goal

abbrev pub invariant-loop-op : goal.invariant-loop-op
invariant-loop-op l = list_any (λ op. list_any (may_end op.kind) (unders l.puts)) (take l.op-index l.ops) ≡ false
