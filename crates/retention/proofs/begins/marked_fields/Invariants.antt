use Rattle.std.proofs.Common.{◌≡◌}
use Rattle.std.specs.Prelude.{filter}
use Rattle.retention.specs.Graph.{is_field_of}
use Rattle.retention.specs.Layout.{upto}
use Rattle.retention.proofs.begins.marked_fields.Given as goal

abbrev pub invariant-loop-place : goal.invariant-loop-place
invariant-loop-place l = l.begins.items ≡ filter (is_field_of l.graph l.marks) (upto l.place)
