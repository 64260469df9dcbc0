use Rattle.std.proofs.Common.{◌≡◌, drop}
use Rattle.ownership_model.specs.Changes.{changed}
use Rattle.ownership_model.specs.Plain.{state_of}
use Rattle.ownership_model.proofs.plain.state.PlainState.apply.Given as goal

-- the changes that are left lead where all do
abbrev pub invariant-loop-change : goal.invariant-loop-change
invariant-loop-change l = changed (state_of l.self) (drop l.change-index l.changes) ≡ changed (state_of l.fn.self) l.fn.changes
