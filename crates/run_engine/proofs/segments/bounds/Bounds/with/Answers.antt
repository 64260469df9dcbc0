use Rattle.std.proofs.Common.{arith}
use Rattle.run_engine.proofs.MeasureLemmas.{between-both}
use Rattle.run_engine.proofs.segments.bounds.Bounds.with.Goals as goal

pub returns : goal.returns
returns c ops more h k =
    between-both c.args.self.now.least c.args.self.now.greatest c.args.other.now.least c.args.other.now.greatest c.min.result c.max.result ops more
    (omega (arith, c.min.ensures)) (omega (arith, c.max.ensures)) (omega (arith, c.min.ensures)) (omega (arith, c.max.ensures)) h k
