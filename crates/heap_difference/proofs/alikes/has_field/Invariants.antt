use Rattle.std.proofs.Common.{◌≡◌, take, false}
use Rattle.heap_difference.specs.Alikes.{is_loose}
use Rattle.heap_difference.proofs.alikes.has_field.Given as goal

abbrev pub invariant-loop-field : goal.invariant-loop-field
invariant-loop-field l = is_loose (take l.field-index l.fields) l.object l.index ≡ false
