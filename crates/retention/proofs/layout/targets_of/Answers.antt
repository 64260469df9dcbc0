use Rattle.std.proofs.Common.{◌≡◌, ◌<◌, ◌+◌, ℕ, length, get_or, sym, subst}
use Rattle.std.proofs.lemmas.List.{get_or_default}
use Rattle.trace_types.specs.declared.slots.Slot.TheVariants.{Nothing}
use Rattle.retention_model.specs.declared.place.Place.TheVariants.{Cell}
use Rattle.retention_model.specs.declared.place.Held.{Held}
use Rattle.retention.specs.Targets.{IsTarget}
use Rattle.retention.proofs.LayoutLemmas.{push_each}
use Rattle.retention.proofs.layout.targets_of.Goals as goal

pub loop-one-preserved : goal.loop-one-preserved
loop-one-preserved c =
    subst (λ xs. (length xs ≡ c.loop-one.one-index + 1) × ((p : ℕ) → p < c.loop-one.one-index + 1 → IsTarget c.args.objects.now (get_or c.args.held.now p (record { place = Cell 0; slot = Nothing; since = 0 })).slot (get_or xs p 0)))
    (sym c.in_ok-push.ensures.items)
    (push_each (λ p t. IsTarget c.args.objects.now (get_or c.args.held.now p (record { place = Cell 0; slot = Nothing; since = 0 })).slot t) c.loop-one.targets.items c.loop-one.one-index c.target_of.result
    c.loop-one.invariant.0 c.loop-one.invariant.1
    (subst (λ (x : Held). IsTarget c.args.objects.now x.slot c.target_of.result) (get_or_default c.args.held.now c.loop-one.one-index _ (record { place = Cell 0; slot = Nothing; since = 0 }) c.loop-one-test.true) c.target_of.ensures))
