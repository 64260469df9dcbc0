use Rattle.std.proofs.Common.{subst}
use Rattle.trace_reader.specs.Reading.{lines_of, IsReadUpTo}
use Rattle.trace_reader.proofs.LineNumbers.{IsReadUpTo-after_lines}
use Rattle.trace_reader.proofs.trace.read_lines.Goals as goal

pub returns-in-Err-clause-memory : goal.returns-in-Err-clause-memory
returns-in-Err-clause-memory c =
    subst (IsReadUpTo c.lines.number) c.lines.invariant.reads (IsReadUpTo-after_lines c.lines.trace c.lines.number (lines_of c.lines.rest.now))
