use Rattle.std.proofs.Common.{take}
use Rattle.heap_difference.proofs.HolderLemmas.{AreFirstHolders}
use Rattle.heap_difference.proofs.holders.Holders.of.Given as goal

abbrev pub invariant-loop-shift : goal.invariant-loop-shift
invariant-loop-shift l = AreFirstHolders l.from (take l.shift-index l.shifts) l.objects.items l.items.items
