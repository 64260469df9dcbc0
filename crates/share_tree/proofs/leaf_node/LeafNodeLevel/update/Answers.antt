use Rattle.std.proofs.Common.{rules, ◌≡◌, ◌<◌, length, vec_len, slice_index_or, arith}
use Rattle.std.proofs.lemmas.Result.{err_from_is_err_and}
use Rattle.share_tree.proofs.LeafLemmas.{leaf_replaced, leaf_rewritten, leaf_there}
use Rattle.share_tree.proofs.leaf_node.LeafNodeLevel.update.Goals as goal

pub returns-in_err-answer-clause-err : goal.returns-in_err-answer-clause-err
returns-in_err-answer-clause-err g c =
    let order = c.self.inside.order in
    let leaves = c.self.inside.leaves.items in
    let long : vec_len c.self.inside.leaves ≡ length leaves = search rules in
    let there : slice_index_or order c.args.key 255 < length leaves = omega (arith, long, c.in-Some.ensures.stands, c.in-Some.ensures.within, c.len.ensures) in
    let p = err_from_is_err_and c.from_residual.result c.from_residual.ensures.1 in
    rw (p.1, c.in-Some.ensures.stands, ← c.self.view_is)
    (leaf_rewritten order leaves c.self.invariant c.args.key c.requires.within c.index_mut.result.now c.update_in.new.leaf there (rw (← c.in-Some.ensures.stands) c.index_mut.ensures.value) c.in_err-answer.ensures.err)

pub returns-clause-ok : goal.returns-clause-ok
returns-clause-ok g c =
    let order = c.self.inside.order in
    let leaves = c.self.inside.leaves.items in
    let long : vec_len c.self.inside.leaves ≡ length leaves = search rules in
    let there : slice_index_or order c.args.key 255 < length leaves = omega (arith, long, c.in-Some.ensures.stands, c.in-Some.ensures.within, c.len.ensures) in
    let was = leaf_there order leaves c.self.invariant c.args.key c.requires.within c.index_mut.result.now there (rw (← c.in-Some.ensures.stands) c.index_mut.ensures.value) in
    rw (c.in-Some.ensures.stands, ← c.self.view_is, was, ← c.in_ok-answer.ensures.ok) (leaf_replaced order leaves c.self.invariant c.args.key c.requires.within c.update_in.new.leaf there)
