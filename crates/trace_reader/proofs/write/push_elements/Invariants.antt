use Rattle.std.proofs.Common.{◌≡◌, ◌++◌, drop, false, string_bytes}
use Rattle.trace_reader.specs.LineText.{elements_text}
use Rattle.trace_reader.proofs.write.push_elements.Given as goal

abbrev pub invariant-loop-field : goal.invariant-loop-field
invariant-loop-field l = string_bytes l.text ++ elements_text l.later (drop l.field-index l.fields) ≡ string_bytes l.initial.text ++ elements_text false l.fields
