use Rattle.std.proofs.Common.{◌≡◌, ◌++◌, drop}
use Rattle.ownership_model.specs.Release.{drops}
use Rattle.ownership_model.proofs.effects.drops.Given as goal

-- the items so far and those of the slots that are left are those of all
abbrev pub invariant-loop-slot : goal.invariant-loop-slot
invariant-loop-slot l = l.items.items ++ drops (drop l.slot-index l.slots) l.rest ≡ drops l.fn.slots l.fn.rest
