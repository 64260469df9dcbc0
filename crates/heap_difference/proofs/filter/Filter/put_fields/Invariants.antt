use Rattle.std.proofs.Common.{take}
use Rattle.std.specs.Prelude.{flat_map}
use Rattle.heap_difference.specs.Filters.{HasPutIn}
use Rattle.heap_difference.proofs.FilterLemmas.{field_keys}
use Rattle.heap_difference.proofs.filter.Filter.put_fields.Given as goal

abbrev pub invariant-loop-field : goal.invariant-loop-field
invariant-loop-field l = HasPutIn l.fn.self l.self (flat_map field_keys (take l.field-index l.fields))
