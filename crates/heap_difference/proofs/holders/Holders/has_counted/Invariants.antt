use Rattle.std.proofs.Common.{take}
use Rattle.std.specs.List.{Contains}
use Rattle.heap_difference.proofs.holders.Holders.has_counted.Given as goal

abbrev pub invariant-loop-counted : goal.invariant-loop-counted
invariant-loop-counted l = Contains (take l.counted-index l.counted-items) l.key → ⊥
