use Rattle.std.proofs.Common.{◌≡◌, take, false}
use Rattle.std.specs.List.{list_any}
use Rattle.heap_difference.specs.Holders.{are_named_by}
use Rattle.heap_difference.proofs.holders.are_named.Given as goal

abbrev pub invariant-loop-holder : goal.invariant-loop-holder
invariant-loop-holder l = list_any (are_named_by l.slots) (take l.holder-index l.items) ≡ false
