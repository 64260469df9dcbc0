use Rattle.std.proofs.Common.{◌≡◌, ◌++◌, ◌∙◌, [], refl, arith}
use Rattle.std.specs.Prelude.{flat_map, nat_lt}
use Rattle.ownership_model.specs.Footprint.{item_keys, taken}
use Rattle.std.proofs.lemmas.Grind.{common_steps}
use Rattle.std.proofs.lemmas.Bool.Decides.{nat_tests}
use Rattle.ownership_model.specs.Release.{release}
use Rattle.object_heap.specs.Counted.{drafted}
use Rattle.object_heap.proofs.ReleaseLemmas.{sound_next, work_next, release_next, taken_next, release_end}
use Rattle.object_heap.proofs.ToldLemmas.{told_start, told_item, told_end}
use Rattle.object_heap.proofs.draft.Draft.release_told.Goals as goal

pub loop-item-init : goal.loop-item-init
loop-item-init c = record {
  sound = c.requires.sound;
  counted = c.requires.counted;
  rest = refl;
  told = told_start (drafted c.args.self.now) c.args.keys.now.items c.args.events.now.items c.args.pending.now.items;
}

pub loop-item-smaller : goal.loop-item-smaller
loop-item-smaller c = work_next c.loop-item.self c.drop_item.new.self c.in-Some.item c.pop_front.new.self.items c.loop-item.pending.items c.drop_item.new.pending.items c.loop-item.events.items c.drop_item.new.events.items c.in-Some.ensures.items c.in_ok-drop_item.ensures

pub loop-item-preserved : goal.loop-item-preserved
loop-item-preserved c = record {
  sound = sound_next c.loop-item.self c.drop_item.new.self c.in-Some.item c.pop_front.new.self.items c.loop-item.pending.items c.drop_item.new.pending.items c.loop-item.events.items c.drop_item.new.events.items c.in-Some.ensures.items c.in_ok-drop_item.ensures c.loop-item.invariant.sound;
  counted = c.in_ok-drop_item.ensures.counted;
  rest = release_next c.loop-item.self c.drop_item.new.self c.in-Some.item c.pop_front.new.self.items c.loop-item.pending.items c.drop_item.new.pending.items c.loop-item.events.items c.drop_item.new.events.items c.in-Some.ensures.items c.in_ok-drop_item.ensures ∙ c.loop-item.invariant.rest;
  told =
      told_item c.loop-item.self c.drop_item.new.self c.in-Some.item c.pop_front.new.self.items c.drop_item.new.pending.items c.loop-item.events.items c.drop_item.new.events.items c.in_ok-drop_item.ensures
      (nat_lt c.len-before.result c.len.result) (λ yes. grind (arith, nat_tests, c.len-before.ensures, c.len.ensures)) c.loop-item.keys.items c.tell_silent.new.keys.items
      (c.args.keys.now.items ++ flat_map item_keys (taken (drafted c.args.self.now) c.args.pending.now.items)) c.in_ok-tell_silent.ensures
      (taken (drafted c.loop-item.self) c.loop-item.pending.items) (taken (drafted c.drop_item.new.self) c.drop_item.new.pending.items)
      (taken_next c.loop-item.self c.drop_item.new.self c.in-Some.item c.pop_front.new.self.items c.loop-item.pending.items c.drop_item.new.pending.items c.loop-item.events.items c.drop_item.new.events.items c.in-Some.ensures.items c.in_ok-drop_item.ensures)
      c.loop-item.invariant.told;
}

pub returns-clause-state : goal.returns-clause-state
returns-clause-state c =
    let none : c.loop-item.pending.items ≡ [] = grind (arith, common_steps) in
    (release_end (drafted c.loop-item.self) c.args.events.now.items c.loop-item.events.items c.loop-item.pending.items (release (drafted c.args.self.now) c.args.pending.now.items) c.loop-item.invariant.rest none).0

pub returns-clause-events : goal.returns-clause-events
returns-clause-events c =
    let none : c.loop-item.pending.items ≡ [] = grind (arith, common_steps) in
    (release_end (drafted c.loop-item.self) c.args.events.now.items c.loop-item.events.items c.loop-item.pending.items (release (drafted c.args.self.now) c.args.pending.now.items) c.loop-item.invariant.rest none).1

pub returns-clause-told : goal.returns-clause-told
returns-clause-told c =
    let none : c.loop-item.pending.items ≡ [] = grind (arith, common_steps) in
    told_end (drafted c.loop-item.self) c.loop-item.pending.items c.loop-item.keys.items (c.args.keys.now.items ++ flat_map item_keys (taken (drafted c.args.self.now) c.args.pending.now.items)) c.loop-item.events.items c.loop-item.invariant.told none
