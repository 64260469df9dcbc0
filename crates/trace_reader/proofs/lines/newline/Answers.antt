use Rattle.std.proofs.Common.{◌==◌}
use Rattle.trace_reader.proofs.Cuts.{first_byte}
use Rattle.trace_reader.proofs.lines.newline.Goals as goal

pub returns : goal.returns
returns c = first_byte (λ b. b == 10) c.args.bytes.now c.memchr.result c.memchr.ensures
