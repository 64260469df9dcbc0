use Rattle.std.proofs.Common.{subst, sym}
use Rattle.run_engine.specs.inner.Layered.{AreLaid}
use Rattle.run_engine.proofs.segments.kept.Kept.heap.Goals as goal

pub laid-requires : goal.laid-requires
laid-requires c = subst (AreLaid c.self.inside.cover.now) (sym c.in_ok-heap.ensures) c.self.invariant
