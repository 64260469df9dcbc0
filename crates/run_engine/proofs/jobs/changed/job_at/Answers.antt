use Rattle.std.proofs.Common.{length, ap, arith}
use Rattle.run_engine.proofs.PieceLemmas.{distinct-slice_range}
use Rattle.run_engine.proofs.jobs.changed.job_at.Goals as goal

pub stays-requires-clause-few : goal.stays-requires-clause-few
stays-requires-clause-few c = omega (arith, c.requires.kept.trace.few, ap length c.requires.base)

pub new-requires-clause-distinct : goal.new-requires-clause-distinct
new-requires-clause-distinct c = rw c.in_ok-next.ensures (distinct-slice_range c.args.ops.now.ops c.args.place.at c.args.place.end c.requires.trace.distinct)
