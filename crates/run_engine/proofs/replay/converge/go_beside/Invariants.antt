use Rattle.std.proofs.Common.{◌≤◌}
use Rattle.run_engine.specs.inner.Divergence.{IsFork, IsDivergence}
use Rattle.run_engine.specs.inner.Difference.{AreDiffering}
use Rattle.run_engine.specs.inner.Replaced.{AreReplaced}
use Rattle.run_engine.specs.inner.GoesOn.{GoesOnBeside}
use Rattle.run_engine.specs.inner.Placed.{IsPlaced}
use Rattle.run_engine.proofs.ConvergeLemmas.{IsBeside}
use Rattle.run_engine.proofs.replay.converge.go_beside.Given as goal

abbrev pub invariant-loop-i : goal.invariant-loop-i
invariant-loop-i l = record {
  place : IsBeside l.revision.segments.now l.revision.ops.now.ops l.seam.base l.seam.edited l.fn.progress.prefix.len l.initial.meter l.i l.at l.progress.prefix.len l.progress.prefix.segments l.progress.prefix.end l.meter;
  beside : GoesOnBeside l.revision l.fn.progress.prefix l.progress.prefix l.initial.shelf l.shelf l.initial.meter l.meter;
  fork : IsFork l.revision l.progress.fork;
  placed : IsPlaced l.shelf.chunks l.progress.prefix;
  known : IsDivergence l.revision l.divergence;
  different : AreDiffering l.revision l.difference;
  replaced : AreReplaced l.revision l.replaced;
  never_less : l.initial.meter ≤ l.meter;
}
