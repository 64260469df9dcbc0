use Rattle.std.proofs.Common.{rules, ◌≡◌, ◌<◌, length, sym, ◌∙◌}
use Rattle.share_tree.proofs.LeafLemmas.{has_leaf, no_leaf}
use Rattle.share_tree.proofs.leaf_node.LeafNodeLevel.without.Goals as goal

pub returns-then-is_empty-clause-rest : goal.returns-then-is_empty-clause-rest
returns-then-is_empty-clause-rest g c =
    λ q.
    let none : length c.copy.inside.leaves.items ≡ 0 = search rules in
    sym (no_leaf c.copy.inside.order c.copy.inside.leaves.items none q) ∙ rw (c.copy.view_is, ← c.in_ok-copy.ensures) (c.take_out.ensures q)

pub returns-clause-left : goal.returns-clause-left
returns-clause-left g c =
    λ none.
    let some : 0 < length c.copy.inside.leaves.items = search rules in
    has_leaf c.copy.inside.order c.copy.inside.leaves.items c.copy.invariant some (λ q. rw (c.copy.view_is, ← c.in_ok-new.ensures.ok) (none q))
