use Rattle.std.proofs.Common.{◌≡◌, true}
use Rattle.ownership_model.specs.declared.key.Key.{Key}
use Rattle.heap_difference.specs.KeySets.{is_among}
use Rattle.run_engine.proofs.segments.layers.Layers.with_keys.Given as goal

abbrev pub invariant-loop-layer : goal.invariant-loop-layer
invariant-loop-layer l = (x : Key) → is_among l.fn.keys x ≡ true → is_among l.all x ≡ true
