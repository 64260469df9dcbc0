use Rattle.std.proofs.Common.{◌≡◌, ◌<◌, ◌∷◌, ◌∙◌, [], length, arith}
use Rattle.std.proofs.lemmas.Grind.{common_steps}
use Rattle.ownership_model.specs.Release.{release}
use Rattle.ownership_model.specs.Plain.{state_of}
use Rattle.ownership_model.proofs.PlainLemmas.{first_and_rest, bounded_next, work_next, release_next, release_end}
use Rattle.ownership_model.proofs.plain.state.PlainState.release.Goals as goal

pub loop-alloc-smaller : goal.loop-alloc-smaller
loop-alloc-smaller c =
    let whole = c.loop-alloc.pending.items in
    let rest = c.remove-item.new.self.items in
    let some : 0 < length whole = grind (arith, common_steps) in
    let first : whole ≡ c.remove-item.result ∷ rest = first_and_rest whole c.remove-item.result rest some c.remove-item.ensures.value c.remove-item.ensures.items in
    work_next (state_of c.loop-alloc.self) (state_of c.drop_item.new.self) c.remove-item.result rest whole c.drop_item.new.rest.items c.loop-alloc.events.items c.drop_item.new.events.items first c.in_ok-drop_item.ensures

pub loop-alloc-preserved : goal.loop-alloc-preserved
loop-alloc-preserved c =
    let whole = c.loop-alloc.pending.items in
    let rest = c.remove-item.new.self.items in
    let some : 0 < length whole = grind (arith, common_steps) in
    let first : whole ≡ c.remove-item.result ∷ rest = first_and_rest whole c.remove-item.result rest some c.remove-item.ensures.value c.remove-item.ensures.items in
    record {
      bounded = bounded_next (state_of c.loop-alloc.self) (state_of c.drop_item.new.self) c.remove-item.result rest whole c.drop_item.new.rest.items c.loop-alloc.events.items c.drop_item.new.events.items first c.in_ok-drop_item.ensures c.loop-alloc.invariant.bounded;
      rest = release_next (state_of c.loop-alloc.self) (state_of c.drop_item.new.self) c.remove-item.result rest whole c.drop_item.new.rest.items c.loop-alloc.events.items c.drop_item.new.events.items first c.in_ok-drop_item.ensures ∙ c.loop-alloc.invariant.rest;
    }

pub returns-clause-state : goal.returns-clause-state
returns-clause-state c =
    let none : c.loop-alloc.pending.items ≡ [] = grind (arith, common_steps) in
    (release_end (state_of c.loop-alloc.self) c.loop-alloc.events.items c.loop-alloc.pending.items (release (state_of c.args.self.now) c.args.items.now) c.loop-alloc.invariant.rest none).0

pub returns-clause-events : goal.returns-clause-events
returns-clause-events c =
    let none : c.loop-alloc.pending.items ≡ [] = grind (arith, common_steps) in
    (release_end (state_of c.loop-alloc.self) c.loop-alloc.events.items c.loop-alloc.pending.items (release (state_of c.args.self.now) c.args.items.now) c.loop-alloc.invariant.rest none).1
