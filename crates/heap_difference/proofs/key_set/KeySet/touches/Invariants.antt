use Rattle.std.proofs.Common.{◌≡◌, take, false}
use Rattle.std.specs.List.{list_any}
use Rattle.heap_difference.specs.KeySets.{is_among}
use Rattle.heap_difference.proofs.key_set.KeySet.touches.Given as goal

abbrev pub invariant-loop-key : goal.invariant-loop-key
invariant-loop-key l = list_any (is_among l.self) (take l.key-index l.keys) ≡ false
