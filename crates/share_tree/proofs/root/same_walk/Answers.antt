use Rattle.std.proofs.Common.{◌≡◌, ◌+◌}
use Rattle.share_tree.specs.Levels.{root_at}
use Rattle.share_tree.proofs.RootLemmas.{agree-next}
use Rattle.share_tree.proofs.root.same_walk.Goals as goal

pub loop-key-preserved : goal.loop-key-preserved
loop-key-preserved g c =
    let next : c.in-Some-checked_add.next ≡ c.in-Some.key + 1 = c.in-Some-checked_add.ensures.1 in
    λ q lt.
    agree-next (root_at c.args.a.now) (root_at c.args.b.now) c.loop-key.from c.in-Some.key c.in-Some.value.now c.loop-key.invariant c.in-Some.ensures.first (c.goes_on_with.ensures.0 c.if-not-goes_on_with.false) q (rw next at lt)
