use Rattle.std.proofs.Common.{sym}
use Rattle.share_tree.specs.Digits.{child_of}
use Rattle.share_tree.proofs.KeyLemmas.{places-start, places-some, places-none}
use Rattle.share_tree.proofs.leaf_node.LeafNodeLevel.push_keys.Goals.{in-Some+in_ok-push, in_default}
use Rattle.share_tree.proofs.leaf_node.LeafNodeLevel.push_keys.Goals as goal

pub loop-i-init : goal.loop-i-init
loop-i-init g c = places-start (child_of c.args.self.now) c.args.base c.args.keys.now.items

pub loop-i-preserved : goal.loop-i-preserved
loop-i-preserved g c = elim c.match-value.branch [
  | in-Some+in_ok-push w ↦
      rw (w.keys-is, w.in_ok-push.ensures.items, c.loop-i.invariant) (places-some (child_of c.args.self.now) c.args.base c.loop-i.i w.in-Some.field-0.now (sym w.in-Some.ensures) c.args.keys.now.items)
  | in_default w ↦
      rw (w.keys-is, c.loop-i.invariant) (places-none (child_of c.args.self.now) c.args.base c.loop-i.i (sym w.in_default.ensures) c.args.keys.now.items)
]
