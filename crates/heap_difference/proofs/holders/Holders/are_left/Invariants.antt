use Rattle.std.proofs.Common.{◌<◌, take}
use Rattle.std.specs.List.{AllByRecursion}
use Rattle.heap_difference.proofs.holders.Holders.are_left.Given as goal

abbrev pub invariant-loop-holder : goal.invariant-loop-holder
invariant-loop-holder l = AllByRecursion (λ it. 0 < it.left) (take l.holder-index l.holder-items)
