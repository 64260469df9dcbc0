use Rattle.std.proofs.Common.{rules, ◌≡◌, ◌<◌, length, vec_len, slice_index_or, arith}
use Rattle.std.proofs.lemmas.Result.{err_from_is_err_and}
use Rattle.share_tree.proofs.LeafLemmas.{leaf_replaced, leaf_rewritten}
use Rattle.share_tree.proofs.leaf_node.LeafNodeLevel.insert.Goals as goal

pub returns-in_err-put_in-clause-err : goal.returns-in_err-put_in-clause-err
returns-in_err-put_in-clause-err g c =
    let order = c.self.inside.order in
    let leaves = c.self.inside.leaves.items in
    let long : vec_len c.self.inside.leaves ≡ length leaves = search rules in
    let there : slice_index_or order c.args.key 255 < length leaves = omega (arith, long, c.in-Some.ensures.stands, c.in-Some.ensures.within, c.len.ensures) in
    let p = err_from_is_err_and c.from_residual.result c.from_residual.ensures.1 in
    rw (p.1, c.in-Some.ensures.stands, ← c.self.view_is)
    (leaf_rewritten order leaves c.self.invariant c.args.key c.requires.within c.index_mut.result.now c.put_in.new.leaf there (rw (← c.in-Some.ensures.stands) c.index_mut.ensures.value) c.in_err-put_in.ensures.err)

pub returns-in-Some-clause-ok : goal.returns-in-Some-clause-ok
returns-in-Some-clause-ok g c =
    let order = c.self.inside.order in
    let leaves = c.self.inside.leaves.items in
    let long : vec_len c.self.inside.leaves ≡ length leaves = search rules in
    let there : slice_index_or order c.args.key 255 < length leaves = omega (arith, long, c.in-Some.ensures.stands, c.in-Some.ensures.within, c.len.ensures) in
    rw (c.in-Some.ensures.stands, ← c.self.view_is, ← c.in_ok-put_in.ensures.ok) (leaf_replaced order leaves c.self.invariant c.args.key c.requires.within c.put_in.new.leaf there)
