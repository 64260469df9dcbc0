use Rattle.std.proofs.Common.{ap, ◌∙◌}
use Rattle.std.proofs.lemmas.Result.{IfOk-weaker}
use Rattle.trace_reader.specs.Writing.{op_of_line}
use Rattle.trace_reader.proofs.RoundTrip.{op_of_line-line_of}
use Rattle.trace_reader.proofs.write.write_line.Goals as goal

pub returns-clause-reads_back : goal.returns-clause-reads_back
returns-clause-reads_back c =
    IfOk-weaker c.line.result _ _ (λ line facts. ap op_of_line facts.0 ∙ op_of_line-line_of c.args.op.now facts.1) c.line.ensures
