use Rattle.std.proofs.Common.{◌≡◌, take}
use Rattle.std.specs.Prelude.{◌||◌}
use Rattle.ownership_model.specs.declared.key.Key.{Key}
use Rattle.heap_difference.specs.KeySets.{is_among, set_of, set_of_lists}
use Rattle.heap_difference.proofs.key_set.Lists.add.Given as goal

abbrev pub invariant-loop-key : goal.invariant-loop-key
invariant-loop-key l = (x : Key) → is_among (set_of_lists l.self) x ≡ (is_among (set_of_lists l.fn.self) x || is_among (set_of (take l.key-index l.keys)) x)
