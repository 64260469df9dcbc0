use Rattle.std.proofs.Common.{◌≡◌, take}
use Rattle.std.specs.Prelude.{flat_map}
use Rattle.heap_difference.specs.Differences.{labels_of}
use Rattle.heap_difference.proofs.scopes.labels.Given as goal

abbrev pub invariant-loop-handle : goal.invariant-loop-handle
invariant-loop-handle l = l.labels.items ≡ flat_map (labels_of l.old l.new) (take l.handle-index l.handle-items)
