use Rattle.std.proofs.Common.{◌≡◌, drop}
use Rattle.ownership_model.specs.State.{ends}
use Rattle.ownership_model.proofs.plain.release.has_no_end.Given as goal

-- those before were no ends of the object
abbrev pub invariant-loop-item : goal.invariant-loop-item
invariant-loop-item l = ends l.object (drop l.item-index l.items) ≡ ends l.fn.object l.fn.items
