use Rattle.std.proofs.Common.{ap, ◌∙◌}
use Rattle.std.proofs.lemmas.Result.{IfOk-weaker}
use Rattle.trace_reader.specs.Reading.{read_trace}
use Rattle.trace_reader.proofs.RoundTrip.{read_trace-lines_text-is}
use Rattle.trace_reader.proofs.write.write_trace.Goals as goal

pub returns-clause-reads_back : goal.returns-clause-reads_back
returns-clause-reads_back c =
    IfOk-weaker c.lines.result _ _ (λ text facts. ap read_trace facts.0 ∙ read_trace-lines_text-is c.as_slice.result.now c.args.trace.now c.as_slice.ensures.value c.as_slice.ensures.is_trace facts.1) c.lines.ensures
