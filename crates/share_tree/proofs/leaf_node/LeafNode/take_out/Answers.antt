use Rattle.std.proofs.Common.{rules, ◌≡◌, ◌<◌, ◌-◌, length, vec_len, slice_index_or, arith}
use Rattle.share_tree.proofs.LeafNodeLemmas.{IsOrder-taken}
use Rattle.share_tree.proofs.LeafLemmas.{leaf_taken}
use Rattle.share_tree.proofs.leaf_node.LeafNode.take_out.Goals as goal

pub invariant_of-self : goal.invariant_of-self
invariant_of-self g c =
    let order = c.self.inside.order in
    let leaves = c.self.inside.leaves.items in
    let long : vec_len c.self.inside.leaves ≡ length leaves = search rules in
    let there : slice_index_or order c.args.place 255 < length leaves = omega (arith, long, c.in-Some.ensures.stands, c.in-Some.ensures.within, c.len-len.ensures) in
    let less : length c.swap_remove-gone.new.self.items ≡ length leaves - 1 = search rules in
    rw less (IsOrder-taken order c.renamed-order.result (length leaves) c.self.invariant c.renamed-order.ensures.long c.args.place c.requires there (rw (← c.in-Some.ensures.stands, ← long, ← c.len-len.ensures) c.renamed-order.ensures.each))

pub returns : goal.returns
returns g c =
    let order = c.self.inside.order in
    let leaves = c.self.inside.leaves.items in
    let long : vec_len c.self.inside.leaves ≡ length leaves = search rules in
    let there : slice_index_or order c.args.place 255 < length leaves = omega (arith, long, c.in-Some.ensures.stands, c.in-Some.ensures.within, c.len-len.ensures) in
    rw (c.swap_remove-gone.ensures.items, c.in-Some.ensures.stands, ← c.self.view_is) (leaf_taken order leaves c.self.invariant c.args.place c.requires c.renamed-order.result c.swap_remove-gone.result c.renamed-order.ensures.long there (rw (← c.in-Some.ensures.stands, ← long, ← c.len-len.ensures) c.renamed-order.ensures.each))
