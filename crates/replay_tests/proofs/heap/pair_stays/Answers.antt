use Rattle.std.proofs.Common.{List, [], ◌∙◌, sym, subst}
use Rattle.trace_types.specs.declared.slots.Change.{Change}
use Rattle.ownership_model.specs.State.{nothing_held, IsSound}
use Rattle.ownership_model.specs.Changes.{changed, CanChange}
use Rattle.ownership_model.proofs.WorkedReleases.{pair_can, pair_is_sound}
use Rattle.replay_tests.proofs.heap.pair_stays.Goals as goal

pub made-requires-clause-can : goal.made-requires-clause-can
made-requires-clause-can g c = subst (λ (x : List Change). CanChange nothing_held x) (sym (c.as_slice.ensures.value ∙ c.in_ok-changes.ensures)) pair_can

pub made-requires-clause-sound : goal.made-requires-clause-sound
made-requires-clause-sound g c = subst (λ (x : List Change). IsSound (changed nothing_held x) []) (sym (c.as_slice.ensures.value ∙ c.in_ok-changes.ensures)) pair_is_sound
