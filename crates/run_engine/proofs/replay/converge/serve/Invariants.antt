use Rattle.std.proofs.Common.{◌≤◌, ◌+◌, ◌-◌}
use Rattle.run_engine.specs.inner.Divergence.{IsFork}
use Rattle.run_engine.specs.inner.GoesOn.{GoesOnBeside}
use Rattle.run_engine.specs.inner.Placed.{IsPlaced}
use Rattle.run_engine.proofs.replay.converge.serve.Given as goal

abbrev pub invariant-loop-progress : goal.invariant-loop-progress
invariant-loop-progress l = record {
  beside : GoesOnBeside l.revision l.initial.progress.prefix l.progress.prefix l.initial.shelf l.shelf l.initial.meter l.meter;
  fork : IsFork l.revision l.progress.fork;
  placed : IsPlaced l.shelf.chunks l.progress.prefix;
  order : l.progress.prefix.len ≤ l.limits.to;
  never_less : l.initial.meter ≤ l.meter;
  steps : l.meter + l.initial.progress.prefix.len ≤ l.initial.meter + l.progress.prefix.len;
}

abbrev pub decreases-loop-progress : goal.decreases-loop-progress
decreases-loop-progress l = l.limits.to - l.progress.prefix.len
