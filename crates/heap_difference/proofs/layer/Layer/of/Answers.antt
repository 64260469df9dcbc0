use Rattle.std.proofs.Common.{◌≡◌, ◌∙◌, sym, subst, true, List}
use Rattle.std.specs.Prelude.{◌||◌}
use Rattle.ownership_model.specs.declared.key.Key.{Key}
use Rattle.ownership_model.specs.declared.key.Key.TheVariants.{Object}
use Rattle.ownership_model.specs.Reach.{has}
use Rattle.ownership_model.specs.State.{State}
use Rattle.object_heap.specs.declared.put.Put.{Put}
use Rattle.heap_difference.specs.KeySets.{handles_alone, is_among}
use Rattle.heap_difference.specs.Filters.{may_have}
use Rattle.heap_difference.specs.Puts.{ArePuts, unders}
use Rattle.heap_difference.proofs.layer.Layer.of.Goals as goal

pub invariant_of-result : goal.invariant_of-result
invariant_of-result c = (
  subst (λ (m : State). ArePuts (λ h. has h c.args.keys.handles) m c.in_ok-puts.puts.items) (sym c.in_ok-from.ensures) c.in_ok-puts.ensures,
  record { firm = λ o. c.in_ok-firm.ensures (Object o); alike = c.requires.inside; own = c.requires.own; small = c.requires.small },
  c.in_ok-firm.ensures,
  subst (λ (ps : List Put). (x : Key) → (is_among c.args.keys x || is_among (handles_alone (unders ps)) x) ≡ true → may_have c.of_set-filter.result x ≡ true) c.deref.ensures.value
      (λ x here. c.of_set-filter.ensures x (c.in_ok-all.ensures x ∙ here)),
  subst (λ (ps : List Put). (x : Key) → is_among c.in_ok-avoided.avoided x ≡ (is_among c.in_ok-firm.firm x || is_among (handles_alone (unders ps)) x)) c.deref-2.ensures.value c.in_ok-avoided.ensures,
  c.of_set-avoided_filter.ensures,
)

pub returns-clause-layer : goal.returns-clause-layer
returns-clause-layer c = record { firm = λ o. c.in_ok-firm.ensures (Object o); alike = c.requires.inside; own = c.requires.own; small = c.requires.small }
