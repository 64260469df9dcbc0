use Rattle.std.proofs.Common.{subst}
use Rattle.trace_reader.specs.Reading.{lines_of, IsReadUpTo}
use Rattle.trace_reader.proofs.LineNumbers.{IsReadUpTo-after_requests}
use Rattle.trace_reader.proofs.script.read_requests.Goals as goal

pub returns-in-Err-clause-memory : goal.returns-in-Err-clause-memory
returns-in-Err-clause-memory c =
    subst (IsReadUpTo c.lines.number) c.lines.invariant.reads (IsReadUpTo-after_requests c.args.lone c.lines.requests c.lines.number (lines_of c.lines.rest.now))
