use Rattle.std.proofs.Common.{sym, subst}
use mathlib.Core.Logic.{⊎_elim}
use Rattle.trace_types.specs.Trace.{IsTrace}
use Rattle.run_engine.proofs.EditLemmas.{trace-set, trace-set_same}
use Rattle.run_engine.proofs.NumberLemmas.{place_within}
use Rattle.run_engine.proofs.editing.edits.exchange.Goals as goal

pub set-requires-clause-within : goal.set-requires-clause-within
set-requires-clause-within c = place_within c.args.id c.args.place c.args.ops.now.ops c.requires.place

pub returns-clause-trace : goal.returns-clause-trace
returns-clause-trace c =
    subst IsTrace (sym c.in_ok-set.ensures.ops)
    (⊎_elim (λ own. trace-set_same c.args.ops.now.ops c.args.place c.args.id c.args.op.now (sym c.requires.place) own c.requires.trace)
    (λ free. trace-set c.args.ops.now.ops c.args.place c.args.op.now free c.requires.trace) c.requires.new)
