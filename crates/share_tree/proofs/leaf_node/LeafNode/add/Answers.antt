use Rattle.std.proofs.Common.{rules, ◌≡◌, ◌+◌, ◌<◌, length, vec_len}
use Rattle.share_tree.proofs.LeafNodeLemmas.{IsOrder-added}
use Rattle.share_tree.proofs.LeafLemmas.{leaf_added, leaf_none, leaf_room}
use Rattle.share_tree.proofs.leaf_node.LeafNode.add.Goals as goal

pub returns-clause-ok : goal.returns-clause-ok
returns-clause-ok g c =
    let order = c.self.inside.order in
    let leaves = c.self.inside.leaves.items in
    let long : vec_len c.self.inside.leaves ≡ length leaves = search rules in
    let room : length leaves < 16 = leaf_room order leaves c.self.invariant c.args.place c.requires.within (rw c.self.view_is c.requires.none) in
    rw (c.in_ok-push.ensures.items, c.make_room.ensures, c.len-len.ensures, long, ← c.self.view_is)
    (leaf_added order leaves c.self.invariant c.args.place c.requires.within c.args.leaf room)

pub invariant_of-self-2 : goal.invariant_of-self-2
invariant_of-self-2 g c =
    let order = c.self.inside.order in
    let leaves = c.self.inside.leaves.items in
    let long : vec_len c.self.inside.leaves ≡ length leaves = search rules in
    let none = leaf_none order leaves c.self.invariant c.args.place c.requires.within (rw c.self.view_is c.requires.none) in
    let room = leaf_room order leaves c.self.invariant c.args.place c.requires.within (rw c.self.view_is c.requires.none) in
    let more : length c.push.new.self.items ≡ length leaves + 1 = search rules in
    rw (c.len-len.ensures, long, more) (IsOrder-added order (length leaves) c.self.invariant c.args.place c.requires.within none room)
