use Rattle.std.proofs.Common.{◌≡◌}
use Rattle.ownership_model.specs.Release.{release, after, work}
use Rattle.ownership_model.specs.Bounds.{IsBounded}
use Rattle.ownership_model.specs.Plain.{state_of}
use Rattle.ownership_model.proofs.plain.state.PlainState.release.Given as goal

-- what was told so far and what the rest will tell is what the whole tells
abbrev pub invariant-loop-alloc : goal.invariant-loop-alloc
invariant-loop-alloc l = record {
  bounded : IsBounded (state_of l.self);
  rest : after l.events.items (release (state_of l.self) l.pending.items) ≡ release (state_of l.fn.self) l.fn.items;
}

abbrev pub decreases-loop-alloc : goal.decreases-loop-alloc
decreases-loop-alloc l = work (state_of l.self) l.pending.items
