use Rattle.std.proofs.Common.{◌≡◌, false, sym, subst, ◌∙◌, arith}
use Rattle.trace_types.specs.Trace.{IsTrace, is_taken}
use Rattle.run_engine.proofs.EditLemmas.{trace-insert}
use Rattle.run_engine.proofs.editing.edits.insert.Goals as goal

pub returns-clause-trace : goal.returns-clause-trace
returns-clause-trace c =
    let new : is_taken c.args.op.now.id c.args.ops.now.ops ≡ false = rw c.id.ensures.value at (sym c.is_taken.ensures ∙ c.if-is_taken.false) in
    subst IsTrace (sym c.in_ok-insert.ensures.ops) (trace-insert c.args.ops.now.ops c.in-Some.place c.args.op.now c.in-Some.ensures.within new (omega arith) c.requires.trace)
