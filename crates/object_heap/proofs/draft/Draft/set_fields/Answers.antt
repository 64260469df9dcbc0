use Rattle.std.proofs.Common.{◌≡◌, List, ◌∙◌, sym}
use Rattle.std.specs.Prelude.{Some}
use Rattle.std.specs.FinMap.{get}
use Rattle.trace_types.specs.declared.slots.Slot.{Slot}
use Rattle.trace_types.specs.declared.slots.Slot.TheVariants.{Nothing}
use Rattle.trace_types.specs.declared.slots.Entry.TheVariants.{Alive}
use Rattle.object_heap.specs.declared.draft.Draft.{Draft}
use Rattle.object_heap.specs.Counted.{drafted}
use Rattle.object_heap.proofs.LayLemmas.{next_alike, next_bounded, next_rest, all_alike, entry_again}
use Rattle.object_heap.proofs.draft.Draft.set_fields.Goals as goal

pub next_other-at-requires-in-loop-at : goal.next_other-at-requires-in-loop-at
next_other-at-requires-in-loop-at c =
    next_alike c.loop-at.self c.set_field.new.self c.args.object c.loop-at.at c.args.slots.now Nothing c.loop-at-test.true c.loop-at.invariant.alike c.in_ok-set_field.ensures

pub loop-at-preserved : goal.loop-at-preserved
loop-at-preserved c =
    let old : Draft = c.loop-at.self in
    let new : Draft = c.set_field.new.self in
    let slots : List Slot = c.args.slots.now in
    let so_far = c.loop-at.invariant in
    record {
      counted = c.in_ok-set_field.ensures.counted;
      bounded = next_bounded old new c.args.object c.loop-at.at slots Nothing c.loop-at-test.true so_far.alike c.in_ok-set_field.ensures so_far.bounded;
      alike = c.next_other-at-in-loop-at.ensures.alike;
      rest = next_rest old new c.args.object c.loop-at.at slots Nothing c.loop-at-test.true so_far.alike c.in_ok-set_field.ensures ∙ so_far.rest;
    }

pub returns : goal.returns
returns c =
    let now : Draft = c.loop-at.self in
    let so_far = c.loop-at.invariant in
    let whole : get now.objects.entries c.args.object ≡ Some (Alive c.args.slots.now) = all_alike _ c.args.slots.now c.loop-at.at c.loop-at-test.false so_far.alike in
    record {
      state = sym (entry_again (drafted now) c.args.object (Some (Alive c.args.slots.now)) whole) ∙ so_far.rest;
      counted = so_far.counted;
      bounded = so_far.bounded;
    }
