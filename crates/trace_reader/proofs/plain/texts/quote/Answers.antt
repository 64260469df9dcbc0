use Rattle.trace_reader.proofs.Cuts.{byte_found}
use Rattle.trace_reader.proofs.plain.texts.quote.Goals as goal

pub returns : goal.returns
returns c = byte_found 34 c.args.text.now c.memchr.result c.memchr.ensures
