use Rattle.std.proofs.Common.{arith}
use Rattle.run_engine.proofs.UntouchedLemmas.{full-few}
use Rattle.run_engine.proofs.replay.untouched.next_of.Goals as goal

pub overflow_add-index : goal.overflow_add-index
overflow_add-index c = omega (arith, c.requires, c.len.ensures, full-few c.args.revision.now.segments.now c.args.revision.now.holds.kept.run.full, c.args.revision.now.holds.kept.trace.few)
