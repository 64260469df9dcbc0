use Rattle.std.proofs.Common.{◌≡◌, take}
use Rattle.std.specs.List.{list_all}
use Rattle.trace_reader.specs.Plain.{is_unescaped_byte}
use Rattle.trace_reader.proofs.plain.texts.is_unescaped.Given as goal

abbrev pub invariant-bytes : goal.invariant-bytes
invariant-bytes l = l.is_unescaped ≡ list_all is_unescaped_byte (take l.byte-index l.text)
