use Rattle.std.proofs.Common.{sym, subst}
use Rattle.trace_types.specs.Trace.{IsTrace}
use Rattle.run_engine.proofs.EditLemmas.{trace-remove}
use Rattle.run_engine.proofs.editing.edits.remove.Goals as goal

pub returns-clause-trace : goal.returns-clause-trace
returns-clause-trace c = subst IsTrace (sym c.in_ok-remove.ensures.ops) (trace-remove c.args.ops.now.ops c.in-Some.place c.in-Some.ensures.within c.requires.trace)
