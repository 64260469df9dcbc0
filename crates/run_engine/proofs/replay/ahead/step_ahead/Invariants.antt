use Rattle.std.proofs.Common.{◌+◌, ◌-◌, ◌%◌, ◌<◌, ◌≤◌, ◌≡◌, ℕ, List}
use Rattle.trace_types.specs.Operation.{Operation}
use Rattle.run_engine.specs.Memo.{IsSearched}
use Rattle.run_engine.specs.inner.Onward.{cuts}
use Rattle.run_engine.specs.Steps.{HaveSteppedOn}
use Rattle.run_engine.specs.inner.GoesOn.{GoesAhead}
use Rattle.run_engine.specs.inner.Placed.{IsPlaced}
use Rattle.run_engine.proofs.replay.ahead.step_ahead.Given as goal

abbrev pub invariant-loop-prefix : goal.invariant-loop-prefix
invariant-loop-prefix l = record {
  ahead : GoesAhead l.ops.ops l.initial.prefix l.prefix (cuts l.initial.prefix.len l.prefix.len);
  placed : IsPlaced l.shelf.chunks l.prefix;
  behind : l.initial.prefix.len ≤ l.prefix.len;
  before : l.prefix.len ≤ l.to;
  aligned : l.prefix.len < l.to → (l.prefix.len - l.initial.prefix.len) % 64 ≡ 0;
  searched : IsSearched l.initial.shelf l.shelf;
  never_less : l.initial.meter ≤ l.meter;
  rise : l.meter + l.initial.prefix.len ≤ l.initial.meter + l.prefix.len;
  stepped : (old : List Operation) (marks : List ℕ) → HaveSteppedOn old l.ops.ops marks l.initial.shelf.chunks l.initial.prefix.len l.prefix.len l.initial.meter l.meter;
}

abbrev pub decreases-loop-prefix : goal.decreases-loop-prefix
decreases-loop-prefix l = l.to - l.prefix.len
