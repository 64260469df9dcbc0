use Rattle.std.proofs.Common.{◌≤◌, take}
use Rattle.ownership_model.specs.declared.link.Link.TheVariants.{StrongOrWeak}
use Rattle.ownership_model.specs.Reach.{slots_names}
use Rattle.object_heap.specs.Descent.{NameLower}
use Rattle.object_heap.proofs.ranks.slots_lower_from.Given as goal

abbrev pub invariant-loop-slot : goal.invariant-loop-slot
invariant-loop-slot l = record { no_less : l.from ≤ l.past; lower : NameLower l.ranks l.past l.rank (slots_names StrongOrWeak (take l.slot-index l.slots)) }
