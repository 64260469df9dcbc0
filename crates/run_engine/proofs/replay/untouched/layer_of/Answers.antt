use Rattle.std.proofs.Common.{◌≡◌, true, ap, sym, subst, ◌∙◌}
use Rattle.ownership_model.specs.declared.key.Key.{Key}
use Rattle.ownership_model.specs.declared.key.Key.TheVariants.{Object}
use Rattle.heap_difference.specs.KeySets.{is_among}
use Rattle.heap_difference.specs.Alikes.{AreAlikes}
use Rattle.heap_difference.specs.Layers.{LayerView, IsLaidBy}
use Rattle.run_engine.proofs.LayeredLemmas.{layer-laid}
use Rattle.run_engine.proofs.replay.untouched.layer_of.Goals.{In_ok-new}
use Rattle.run_engine.proofs.replay.untouched.layer_of.Goals as goal

pub of-requires-clause-inside : goal.of-requires-clause-inside
of-requires-clause-inside c = λ o here. c.in_ok-all.ensures (Object o) (c.in_ok-alikes.ensures.within o here)

-- the layer has the keys
within : (c : In_ok-new) → (x : Key) → is_among c.args.keys.now x ≡ true → is_among c.in_ok-layer.layer.keys x ≡ true
within c x t = ap (λ d. is_among d x) c.in_ok-layer.ensures.keys ∙ c.in_ok-all.ensures x t

-- its objects with shifts are alike in both heaps
alike : (c : In_ok-new) → AreAlikes c.in_ok-layer.layer.shifts c.in_ok-layer.layer.fields c.args.old.now c.args.heap.now
alike c =
    let made = c.in_ok-layer.ensures in
    rw (made.shifts, made.fields) c.in_ok-alikes.ensures.alikes

pub returns-clause-within : goal.returns-clause-within
returns-clause-within c = λ x t. subst (λ (l : LayerView). is_among l.keys x ≡ true) (sym c.in_ok-new.ensures.ok) (within c x t)

pub returns-clause-laid : goal.returns-clause-laid
returns-clause-laid c = λ differ.
    let made = c.in_ok-layer.ensures in
    let are : AreAlikes c.in_ok-layer.layer.shifts c.in_ok-layer.layer.fields c.args.old.now c.args.heap.now = alike c in
    subst (λ (l : LayerView). IsLaidBy l c.args.old.now c.args.heap.now) (sym c.in_ok-new.ensures.ok)
    (layer-laid c.in_ok-layer.layer c.args.keys.now c.args.old.now c.args.heap.now made.from made.layer (within c) are.near are.holds c.show_sound.ensures.sound made.puts differ)
