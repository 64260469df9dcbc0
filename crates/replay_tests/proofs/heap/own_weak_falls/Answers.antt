use Rattle.std.proofs.Common.{List, [], ◌∷◌, ◌∙◌, sym, subst}
use Rattle.trace_types.specs.declared.slots.Change.{Change}
use Rattle.trace_types.specs.declared.slots.Slot.TheVariants.{Strong}
use Rattle.trace_types.specs.declared.slots.Item.TheVariants as item
use Rattle.ownership_model.specs.State.{nothing_held, IsSound}
use Rattle.ownership_model.specs.Changes.{changed, CanChange}
use Rattle.ownership_model.proofs.WorkedReleases.{own_weak_can, own_weak_is_sound}
use Rattle.replay_tests.proofs.heap.own_weak_falls.Goals as goal

pub made-requires-clause-can : goal.made-requires-clause-can
made-requires-clause-can g c = subst (λ (x : List Change). CanChange nothing_held x) (sym (c.as_slice.ensures.value ∙ c.in_ok-changes.ensures)) own_weak_can

pub made-requires-clause-sound : goal.made-requires-clause-sound
made-requires-clause-sound g c = subst (λ (x : List Change). IsSound (changed nothing_held x) (item.Slot (Strong 1) ∷ [])) (sym (c.as_slice.ensures.value ∙ c.in_ok-changes.ensures)) own_weak_is_sound
