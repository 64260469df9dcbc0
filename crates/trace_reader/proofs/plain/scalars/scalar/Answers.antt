use Rattle.trace_reader.proofs.PlainLemmas.{scalar_number}
use Rattle.trace_reader.proofs.plain.scalars.scalar.Goals as goal

pub returns-in-Some : goal.returns-in-Some
returns-in-Some c = scalar_number c.args.text.now _ c.in-Some.n c.in-Some.ensures.number.0 c.in-Some.ensures.number.1 c.in-Some.ensures.ended
