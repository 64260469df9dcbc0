use Rattle.std.proofs.Common.{take}
use Rattle.ownership_model.specs.declared.link.Link.TheVariants.{StrongOrWeak}
use Rattle.ownership_model.specs.Reach.{slots_names}
use Rattle.agreement.specs.Joining.{Compares}
use Rattle.agreement.proofs.joining.join_slots.Given as goal

abbrev pub invariant-loop-slot : goal.invariant-loop-slot
invariant-loop-slot l = Compares l.new l.old (slots_names StrongOrWeak (take l.slot-index l.slots)) l.initial.listed l.listed
