use Rattle.std.proofs.Common.{subst, take, arith, List, refl, get_or}
use Rattle.std.proofs.lemmas.List.{take_more, take_all}
use Rattle.heap_difference.specs.declared.holders.Holder.{Holder}
use Rattle.heap_difference.specs.declared.shifts.Shift.{Shift}
use Rattle.heap_difference.proofs.HolderLemmas.{AreFirstHolders, first_skipped, first_added, of_lessened}
use Rattle.heap_difference.proofs.holders.Holders.of.Goals.{then-shift+in_ok-push+in_ok-push-2, else-shift}
use Rattle.heap_difference.proofs.holders.Holders.of.Goals as goal

pub loop-shift-preserved : goal.loop-shift-preserved
loop-shift-preserved c =
    let none : Shift = record { object = 0; old_strong = 0; new_strong = 0; old_weak = 0; new_weak = 0 } in
    let i = c.loop-shift.shift-index in
    let s : Shift = get_or c.args.shifts.now i none in
    let before : List Shift = take i c.args.shifts.now in
    elim c.if-shift.branch [
      | then-shift+in_ok-push+in_ok-push-2 w ↦
          let it : Holder = record { object = s.object; left = w.strong.result } in
          rw (w.objects-is, w.items-is, w.in_ok-push.ensures.items, w.in_ok-push-2.ensures.items, take_more c.args.shifts.now i none c.loop-shift-test.true)
          (first_added c.args.from.now before c.loop-shift.objects.items c.loop-shift.items.items s it w.if-shift.true refl w.strong.ensures c.loop-shift.invariant)
      | else-shift w ↦
          rw (w.objects-is, w.items-is, take_more c.args.shifts.now i none c.loop-shift-test.true)
          (first_skipped c.args.from.now before c.loop-shift.objects.items c.loop-shift.items.items s (omega (arith, w.if-shift.false)) c.loop-shift.invariant)
    ]

pub returns-clause-lessened : goal.returns-clause-lessened
returns-clause-lessened c =
    of_lessened c.args.from.now c.args.shifts.now c.loop-shift.objects.items _
    (subst (λ (ss : List Shift). AreFirstHolders c.args.from.now ss c.loop-shift.objects.items c.loop-shift.items.items) (take_all c.loop-shift.shift-index c.args.shifts.now c.loop-shift-test.false) c.loop-shift.invariant)
    c.of.ensures
