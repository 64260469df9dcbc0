use Rattle.std.proofs.Common.{subst}
use Rattle.trace_reader.specs.Reading.{lines_of, IsReadUpTo}
use Rattle.trace_reader.proofs.LineNumbers.{IsReadUpTo-script_from}
use Rattle.trace_reader.proofs.script.read_script.Goals as goal

pub returns-in-Err-clause-memory : goal.returns-in-Err-clause-memory
returns-in-Err-clause-memory c =
    subst (IsReadUpTo c.lines.number) c.lines.invariant.reads (IsReadUpTo-script_from c.args.lone c.lines.trace c.lines.number (lines_of c.lines.rest.now))
