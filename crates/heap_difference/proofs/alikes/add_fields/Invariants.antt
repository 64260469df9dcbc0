use Rattle.std.proofs.Common.{take}
use Rattle.heap_difference.specs.Alikes.{AreAdded}
use Rattle.heap_difference.proofs.alikes.add_fields.Given as goal

abbrev pub invariant-loop-index : goal.invariant-loop-index
invariant-loop-index l = AreAdded l.object (take l.index l.before) (take l.index l.fields) l.fn.list.items l.list.items
