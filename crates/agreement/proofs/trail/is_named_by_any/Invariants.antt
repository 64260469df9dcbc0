use Rattle.std.proofs.Common.{◌≡◌, drop}
use Rattle.ownership_model.specs.declared.link.Link.TheVariants.{StrongOrWeak}
use Rattle.ownership_model.specs.Reach.{has, slots_names}
use Rattle.agreement.proofs.trail.is_named_by_any.Given as goal

abbrev pub invariant-loop-slot : goal.invariant-loop-slot
invariant-loop-slot l = has l.object (slots_names StrongOrWeak l.slots) ≡ has l.object (slots_names StrongOrWeak (drop l.slot-index l.slots))
