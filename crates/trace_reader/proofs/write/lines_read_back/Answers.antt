use Rattle.trace_reader.proofs.RoundTrip.{read_trace-lines_text}
use Rattle.trace_reader.proofs.Traces.{GoesOn-from_trace}
use Rattle.trace_reader.proofs.write.lines_read_back.Goals as goal

pub returns : goal.returns
returns c = λ ops t within. read_trace-lines_text ops (GoesOn-from_trace ops t within)
