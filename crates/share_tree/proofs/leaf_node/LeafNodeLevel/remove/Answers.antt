use Rattle.std.proofs.Common.{rules, ◌≡◌, ◌<◌, length, sym, ◌∙◌}
use Rattle.share_tree.proofs.LeafLemmas.{has_leaf, no_leaf}
use Rattle.share_tree.proofs.leaf_node.LeafNodeLevel.remove.Goals as goal

pub returns-clause-last : goal.returns-clause-last
returns-clause-last g c =
    λ last q.
    let none : length c.self.inside.leaves.items ≡ 0 = search rules in
    sym (c.take_out.ensures q) ∙ rw (← c.self.view_is) (no_leaf c.self.inside.order c.self.inside.leaves.items none q)

pub returns-clause-left : goal.returns-clause-left
returns-clause-left g c =
    λ left none.
    let some : 0 < length c.self.inside.leaves.items = search rules in
    has_leaf c.self.inside.order c.self.inside.leaves.items c.self.invariant some (λ q. rw c.self.view_is (none q))
