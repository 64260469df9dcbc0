use Rattle.std.proofs.Common.{◌≡◌, subst}
use Rattle.std.specs.Arc.{arc_value}
use Rattle.ownership_model.specs.State.{State}
use Rattle.ownership_model.specs.Patch.{Remains, patched, AreThere}
use Rattle.agreement.proofs.TrimmingLemmas.{patched_trimmed}
use Rattle.agreement.proofs.remains.Remains.differing.Goals as goal

pub returns-clause-patch : goal.returns-clause-patch
returns-clause-patch c =
    subst (λ (x : Remains). (m : State) → AreThere m x → patched m (arc_value c.self.inside.differing) ≡ patched m x) c.self.view_is
    (λ m there. patched_trimmed c.self.inside.all (arc_value c.self.inside.differing) m c.self.invariant there)
