use Rattle.std.proofs.Common.{◌≡◌, sym, ◌∙◌, rules}
use Rattle.object_heap.specs.HandlesView.{handles_of}
use Rattle.object_heap.proofs.HandleLemmas.{same_seen}
use Rattle.object_heap.proofs.handles.Handles.same.Goals as goal

pub returns-then-same : goal.returns-then-same
returns-then-same c =
    let a = c.self.inside in
    let b = c.other.inside in
    let kept : a.kept ≡ b.kept = c.same.ensures.0 (search rules) in (
      λ t. sym c.self.view_is ∙ (λ i. handles_of (kept i) (c.same-then-same.ensures.0 t i)) ∙ c.other.view_is,
      λ same. c.same-then-same.ensures.1 (same_seen a.kept b.kept a.last b.last c.self.invariant c.other.invariant (c.self.view_is ∙ same ∙ sym c.other.view_is)).1,
    )

pub returns-else-same : goal.returns-else-same
returns-else-same c =
    let a = c.self.inside in
    let b = c.other.inside in (
      λ t. search rules,
      λ same. c.same.ensures.1 (same_seen a.kept b.kept a.last b.last c.self.invariant c.other.invariant (c.self.view_is ∙ same ∙ sym c.other.view_is)).0,
    )
