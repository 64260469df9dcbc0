use mathlib.Core.Logic.{inl}
use Rattle.std.proofs.Common.{◌∙◌, subst}
use Rattle.heap_difference.specs.KeySets.{set_of}
use Rattle.heap_difference.specs.Filters.{HasKeys}
use Rattle.heap_difference.specs.Layers.{LayerView}
use Rattle.heap_difference.specs.Passing.{IsFirmlyApart}
use Rattle.heap_difference.proofs.Tests.{is_false}
use Rattle.heap_difference.proofs.LayerLemmas.{apart_by}
use Rattle.heap_difference.proofs.PassingLemmas.{firmly_apart}
use Rattle.heap_difference.proofs.layer.Layer.is_firmly_apart_by.Goals as goal

pub returns-in-Some : goal.returns-in-Some
returns-in-Some c told keys ops has =
    let inside = c.self.inside in
    let there : HasKeys c.in-Some.filter.now keys = rw c.in-Some.is at has in
    let apart = apart_by inside.firm inside.puts.items keys c.in-Some.filter.now inside.avoided_filter (c.may_meet.ensures (is_false c.may_meet.result told)) (λ x here. c.self.invariant.5 x (c.self.invariant.4 x ∙ here)) there in
    subst (λ (l : LayerView). IsFirmlyApart l (set_of keys) ops) c.self.view_is
    (record { firm = firmly_apart inside.keys inside.firm (set_of keys) inside.alikes.shifts.items c.self.invariant.2 apart.0; unders = inl apart.1 })
