use Rattle.std.proofs.Common.{arith}
use Rattle.share_tree.specs.Digits.{child_of}
use Rattle.share_tree.proofs.FirstLemmas.{nowhere-next, first-in_child}
use Rattle.share_tree.proofs.node.NodeLevel.first_from.Goals as goal

pub returns-in-Some-clause-first : goal.returns-in-Some-clause-first
returns-in-Some-clause-first g c =
    let h = rw (c.child_in.ensures, c.saturating_sub-from.ensures, c.span-span.ensures) at c.in-Some.ensures.first in
    rw c.span-span.ensures (first-in_child g.C.Level.at g.C.Level.SPAN (child_of c.args.self.now.children) c.args.key c.loop-i.i c.in-Some.rest c.in-Some.value.now c.in-Some.ensures.within c.loop-i.invariant h)

pub loop-i-preserved : goal.loop-i-preserved
loop-i-preserved g c =
    let h = rw (c.child_in.ensures, c.saturating_sub-from.ensures, c.span-span.ensures) at c.in_default.ensures.none in
    λ q a b. nowhere-next g.C.Level.at g.C.Level.SPAN (child_of c.args.self.now.children) c.args.key c.loop-i.i g.C.Level.SPAN (omega arith) c.loop-i.invariant h q a (grind arith)
