use Rattle.std.proofs.Common.{◌≡◌, ℕ, ◌∙◌, ap, get_or, arith}
use Rattle.std.specs.Prelude.{if◌then◌else◌}
use Rattle.trace_types.specs.declared.slots.Slot.{Slot}
use Rattle.trace_types.specs.declared.slots.Slot.TheVariants.{Nothing, Strong}
use Rattle.ownership_model.specs.State.{names_alike}
use Rattle.heap_difference.proofs.HolderLemmas.{weight_next, weight_bound}
use Rattle.heap_difference.proofs.holders.naming.Goals.{then-is_naming, else-is_naming}
use Rattle.heap_difference.proofs.holders.naming.Goals as goal

pub overflow_add-count : goal.overflow_add-count
overflow_add-count c = omega (arith, c.loop-slot.invariant, weight_bound c.args.object c.args.slots.now c.loop-slot.slot-index, c.loop-slot.auto.slot-index-end, c.loop-slot-test.true)

pub loop-slot-preserved : goal.loop-slot-preserved
loop-slot-preserved c =
    let w : Slot → ℕ = names_alike (Strong c.args.object) in
    let s : Slot = get_or c.args.slots.now c.loop-slot.slot-index Nothing in
    let next = weight_next w c.args.slots.now c.loop-slot.slot-index Nothing c.loop-slot-test.true in
    elim c.if-is_naming.branch [
      | then-is_naming b ↦
          let one : w s ≡ 1 = c.is_naming.ensures ∙ ap (λ t. if t then 1 else 0) b.if-is_naming.true in
          omega (arith, c.loop-slot.invariant, next, one, b.count-is)
      | else-is_naming b ↦
          let none : w s ≡ 0 = c.is_naming.ensures ∙ ap (λ t. if t then 1 else 0) b.if-is_naming.false in
          omega (arith, c.loop-slot.invariant, next, none, b.count-is)
    ]
