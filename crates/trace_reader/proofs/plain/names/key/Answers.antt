use Rattle.std.proofs.Common.{refl}
use Rattle.trace_reader.specs.Looks.{name_text}
use Rattle.trace_reader.proofs.PlainLemmas.{key_named}
use Rattle.trace_reader.proofs.plain.names.key.Goals as goal

pub returns-in-Some : goal.returns-in-Some
returns-in-Some c = (name_text c.in-Some.name, refl, key_named c.args.text.now c.in-Some.rest.now c.in-Some.name c.in-Some.ensures)
