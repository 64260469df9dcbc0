use Rattle.std.proofs.Common.{rules, ◌≡◌, ◌<◌, ◌+◌, ◌∷◌, [], length, vec_len, slice_index_or, arith, refl}
use Rattle.std.proofs.lemmas.List.{map-append, take_rest}
use Rattle.share_tree.proofs.LeafLemmas.{leaf_between, leaf_between-length, value}
use Rattle.share_tree.proofs.leaf_node.LeafNode.copied_with.Goals as goal

pub returns : goal.returns
returns g c =
    let order = c.self.inside.order in
    let leaves = c.self.inside.leaves.items in
    let long : vec_len c.self.inside.leaves ≡ length leaves = search rules in
    let at = c.in-Some.ensures.stands in
    let there : slice_index_or order c.args.place 255 < length leaves = omega (arith, long, at, c.in-Some.ensures.within, c.len-len.ensures) in
    rw (← c.self.view_is) (leaf_between order leaves c.self.invariant c.args.place c.requires c.args.leaf there c.push_shares-2.new.leaves.items
    (rw (c.in_ok-push_shares-2.ensures, c.in_ok-push.ensures.items, map-append value c.push_shares.new.leaves.items (c.args.leaf ∷ []), c.in_ok-push_shares.ensures, c.in_ok-leaves.ensures.items, c.deref.ensures.value, c.deref-2.ensures.value, at, take_rest leaves (slice_index_or order c.args.place 255 + 1)) refl))

pub invariant_of-result : goal.invariant_of-result
invariant_of-result g c =
    let order = c.self.inside.order in
    let leaves = c.self.inside.leaves.items in
    let long : vec_len c.self.inside.leaves ≡ length leaves = search rules in
    let at = c.in-Some.ensures.stands in
    let there : slice_index_or order c.args.place 255 < length leaves = omega (arith, long, at, c.in-Some.ensures.within, c.len-len.ensures) in
    let same : length c.push_shares-2.new.leaves.items ≡ length leaves = leaf_between-length order leaves c.self.invariant c.args.place c.requires c.args.leaf there c.push_shares-2.new.leaves.items
    (rw (c.in_ok-push_shares-2.ensures, c.in_ok-push.ensures.items, map-append value c.push_shares.new.leaves.items (c.args.leaf ∷ []), c.in_ok-push_shares.ensures, c.in_ok-leaves.ensures.items, c.deref.ensures.value, c.deref-2.ensures.value, at, take_rest leaves (slice_index_or order c.args.place 255 + 1)) refl) in
    rw same c.self.invariant
