use Rattle.std.proofs.Common.{◌≡◌, ◌++◌, ◌∷◌, [], List, subst, sym, arith}
use Rattle.trace_types.specs.declared.slots.Item.{Item}
use Rattle.trace_types.specs.declared.limits.TheConstants.{MAX_FIELDS}
use Rattle.ownership_model.specs.State.{State}
use Rattle.object_heap.specs.Counted.{IsCounted, drafted}
use Rattle.object_heap.proofs.GainLemmas.{same_state, room, less_room}
use Rattle.object_heap.proofs.PendingLemmas.{counted_push}
use Rattle.object_heap.proofs.draft.Draft.add.Goals as goal

pub hold_item-requires : goal.hold_item-requires
hold_item-requires c =
    let old = c.args.self.now in
    less_room old.objects.counts 1 MAX_FIELDS (omega arith) (room old.objects.counts (drafted old) c.args.pending.now.items c.requires.bounded c.requires.counted c.requires.short)

pub returns-clause-counted : goal.returns-clause-counted
returns-clause-counted c =
    let old = c.args.self.now in
    let here : c.push_back.new.self.items ≡ c.args.pending.now.items ++ c.args.item ∷ [] = c.in_ok-push_back.ensures.items in
    subst (λ (m : State). IsCounted c.hold_item.new.objects.counts m c.push_back.new.self.items) (sym (same_state old c.hold_item.new.objects c.in_ok-hold_item.ensures.entries))
    (subst (λ (p : List Item). IsCounted c.hold_item.new.objects.counts (drafted old) p) (sym here)
    (counted_push old.objects.counts c.hold_item.new.objects.counts (drafted old) c.args.pending.now.items c.args.item c.requires.counted c.in_ok-hold_item.ensures.counts))
