use Rattle.std.proofs.Common.{◌≡◌, ℕ, List, subst, ap, ◌∙◌}
use Rattle.std.specs.Prelude.{IfOk}
use Rattle.std.specs.FinMap.{keys}
use Rattle.object_heap.specs.HandlesView.{HandlesView}
use Rattle.object_heap.proofs.HandleLemmas.{keys_seen}
use Rattle.object_heap.proofs.handles.Handles.keys.Goals as goal

pub returns : goal.returns
returns c = subst (λ (ks : List ℕ). IfOk c.keys.result (λ v. v.items ≡ ks)) (keys_seen c.self.inside.kept ∙ ap (λ (v : HandlesView). keys v.holdings) c.self.view_is) c.keys.ensures
