use Rattle.std.proofs.Common.{◌≡◌, ◌++◌, ◌∷◌, [], sym, subst, Some, List, ℕ, rules, arith}
use Rattle.std.specs.FinMap.{get}
use Rattle.trace_types.specs.declared.slots.Slot.{Slot}
use Rattle.trace_types.specs.declared.slots.Entry.TheVariants.{Alive}
use Rattle.ownership_model.specs.State.{State}
use Rattle.ownership_model.proofs.LawsHold.{bounds}
use Rattle.heap_difference.specs.declared.shifts.Shift.{Shift}
use Rattle.heap_difference.specs.Alikes.{AreAlikes}
use Rattle.heap_difference.proofs.AlikeLemmas.{alikes_more, shift_between}
use Rattle.heap_difference.proofs.alikes.Alikes.add.Goals as goal

pub returns-clause-alikes : goal.returns-clause-alikes
returns-clause-alikes c =
    let old : State = c.args.old.now in
    let new : State = c.args.new.now in
    let o : ℕ = c.args.object in
    let before : List Slot = c.as_slice.result.now in
    let now : List Slot = c.as_slice-2.result.now in
    let was : get old.objects o ≡ Some (Alive before) = search rules in
    let is : get new.objects o ≡ Some (Alive now) = search rules in
    let s : Shift = shift_between old new o in
    let pushed : c.push.new.self.items ≡ c.args.self.now.shifts.items ++ s ∷ [] = rw (c.in_ok-push.ensures.items, c.counts-told.ensures, c.counts-counts.ensures) in
    let olds = bounds.counts old [] o c.show_sound.ensures.bounded in
    let news = bounds.counts new [] o c.show_sound-2.ensures.bounded in
    subst (λ (ss : List Shift). AreAlikes ss c.add_fields.new.list.items old new) (sym pushed)
    (alikes_more c.args.self.now.shifts.items c.args.self.now.fields.items c.add_fields.new.list.items old new s before now was is
    (record { strongs = omega arith; weaks = omega arith })
    (record { old_strong = omega (arith, olds.0); new_strong = omega (arith, news.0); old_weak = omega (arith, olds.1); new_weak = omega (arith, news.1) })
    c.in_ok-add_fields.ensures c.requires)
