use Rattle.std.proofs.Common.{◌≡◌, subst, false}
use Rattle.heap_difference.specs.KeySets.{set_of, meet}
use Rattle.heap_difference.specs.Filters.{HasKeys}
use Rattle.heap_difference.specs.Puts.{AreUndersApart}
use Rattle.heap_difference.specs.Layers.{LayerView}
use Rattle.heap_difference.proofs.Tests.{is_false}
use Rattle.heap_difference.proofs.LayerLemmas.{apart_by}
use Rattle.heap_difference.proofs.layer.Layer.is_apart_by.Goals as goal

pub returns-in-Some : goal.returns-in-Some
returns-in-Some c told keys has =
    let inside = c.self.inside in
    let there : HasKeys c.in-Some.filter.now keys = rw c.in-Some.is at has in
    let IsApart : LayerView → Type 0 = λ l. (meet l.keys (set_of keys) ≡ false) × AreUndersApart (set_of keys) l.puts in
    subst IsApart c.self.view_is
    (apart_by inside.keys inside.puts.items keys c.in-Some.filter.now inside.filter (c.may_meet.ensures (is_false c.may_meet.result told)) c.self.invariant.3 there)
