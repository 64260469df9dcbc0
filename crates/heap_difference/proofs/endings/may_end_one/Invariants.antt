use Rattle.std.proofs.Common.{◌≡◌, take, false}
use Rattle.std.specs.Prelude.{option_to_list}
use Rattle.std.specs.List.{list_any}
use Rattle.heap_difference.specs.Endings.{may_end}
use Rattle.heap_difference.proofs.endings.may_end_one.Given as goal

abbrev pub invariant-loop-put : goal.invariant-loop-put
invariant-loop-put l = list_any (λ p. list_any (may_end l.kind) (option_to_list p.under)) (take l.put-index l.puts) ≡ false
