use Rattle.std.proofs.Common.{arith}
use Rattle.run_engine.proofs.editing.edits.place_after.Goals as goal

pub overflow_add-result : goal.overflow_add-result
overflow_add-result c = omega (arith, c.in-Some.ensures.within, c.requires.trace.few)
