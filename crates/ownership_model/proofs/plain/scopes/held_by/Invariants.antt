use Rattle.std.proofs.Common.{◌≡◌, ◌++◌, drop}
use Rattle.ownership_model.specs.View.{elements_of}
use Rattle.ownership_model.specs.Table.{held_drops}
use Rattle.ownership_model.specs.Plain.{state_of}
use Rattle.ownership_model.proofs.plain.scopes.held_by.Given as goal

-- the items so far and those that are left are all
abbrev pub invariant-loop-field : goal.invariant-loop-field
invariant-loop-field l = l.pending.items ++ held_drops (elements_of (state_of l.state) (drop l.field-index l.fields)) ≡ held_drops (elements_of (state_of l.fn.state) l.fn.fields)
