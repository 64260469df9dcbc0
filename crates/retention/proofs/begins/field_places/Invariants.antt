use Rattle.std.proofs.Common.{◌≡◌, ◌-◌}
use Rattle.std.specs.List.{range_with_len}
use Rattle.retention.specs.Graph.{start_at}
use Rattle.retention.proofs.begins.field_places.Given as goal

abbrev pub invariant-loop-place : goal.invariant-loop-place
invariant-loop-place l = l.begins.items ≡ range_with_len (start_at l.graph l.index) (l.place - start_at l.graph l.index)
