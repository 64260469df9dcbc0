use Rattle.std.proofs.Common.{take}
use Rattle.heap_difference.proofs.HolderLemmas.{AreCounted}
use Rattle.heap_difference.proofs.holders.Holders.pass.Given as goal

abbrev pub invariant-loop-key : goal.invariant-loop-key
invariant-loop-key l = AreCounted (take l.key-index l.key-items) l.from l.fn.self l.self
