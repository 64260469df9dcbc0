use Rattle.std.proofs.Common.{◌≡◌, ◌∙◌, sym, subst}
use Rattle.std.specs.Arc.{arc_value}
use Rattle.ownership_model.specs.Patch.{Remains, patched, AreThere}
use Rattle.agreement.specs.Trimmed.{AreTheSame}
use Rattle.agreement.proofs.TrimmingLemmas.{same_of_nothing, nothing_of_same, patch_is_idle}
use Rattle.agreement.proofs.remains.Remains.changes_nothing.Goals as goal

pub returns-clause-answer : goal.returns-clause-answer
returns-clause-answer c =
    let x = c.self.inside.all in
    let z = arc_value c.self.inside.differing in (
      λ t. subst (λ (r : Remains). AreTheSame r) c.self.view_is (same_of_nothing x z c.self.invariant (sym c.deref.ensures ∙ c.is_nothing.ensures.0 t)),
      λ same. c.is_nothing.ensures.1 (c.deref.ensures ∙ nothing_of_same x z c.self.invariant (subst (λ (r : Remains). AreTheSame r) (sym c.self.view_is) same)),
    )

pub returns-clause-patch : goal.returns-clause-patch
returns-clause-patch c = λ t m there.
    subst (λ (r : Remains). patched m r ≡ m) c.self.view_is
    (patch_is_idle c.self.inside.all (arc_value c.self.inside.differing) m c.self.invariant (sym c.deref.ensures ∙ c.is_nothing.ensures.0 t) (subst (λ (r : Remains). AreThere m r) (sym c.self.view_is) there))
