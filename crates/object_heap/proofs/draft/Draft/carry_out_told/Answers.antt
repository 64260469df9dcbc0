use Rattle.std.proofs.Common.{ap, ◌∙◌, sym, subst}
use Rattle.ownership_model.specs.State.{State}
use Rattle.ownership_model.specs.Changes.{changed}
use Rattle.ownership_model.specs.Bounds.{IsBounded}
use Rattle.ownership_model.specs.Release.{Released}
use Rattle.ownership_model.proofs.LawsHold.{bounds}
use Rattle.object_heap.specs.Counted.{drafted}
use Rattle.object_heap.specs.Told.{at_once, event_keys}
use Rattle.ownership_model.specs.Footprint.{taken, moved_by_changes}
use Rattle.object_heap.proofs.ToldLemmas.{told_whole}
use Rattle.object_heap.proofs.draft.Draft.carry_out_told.Goals as goal

pub returns-clause-kept : goal.returns-clause-kept
returns-clause-kept c = record {
  sound = c.in_ok-release_told.ensures.sound;
  bounded = subst (λ (m : State). IsBounded m) (sym (c.in_ok-release_told.ensures.state ∙ ap (λ (r : Released). r.state) c.in_ok-begin.ensures.rest))
      (bounds.releases (drafted c.apply_told.new.self) c.args.pending.now c.in_ok-apply_told.ensures.bounded);
  counted = c.in_ok-release_told.ensures.counted;
}

pub returns-clause-told : goal.returns-clause-told
returns-clause-told c =
    let old = drafted c.args.self.now in
    told_whole c.args.keys.now.items c.apply_told.new.keys.items c.tell_at_once.new.keys.items c.release_told.new.keys.items (moved_by_changes old c.args.changes.now) (event_keys c.release_told.new.events.items)
    (at_once c.args.pending.now) (taken (drafted c.begin.new.self) c.begin.new.pending.items) (taken (changed old c.args.changes.now) c.args.pending.now)
    c.in_ok-apply_told.ensures.told c.in_ok-tell_at_once.ensures c.in_ok-release_told.ensures.told
    (ap (λ (m : State). taken m c.args.pending.now) (sym c.in_ok-apply_told.ensures.state) ∙ c.in_ok-begin.ensures.taken)
