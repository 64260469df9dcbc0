use Rattle.std.proofs.Common.{rules, Bool, true, false, ◌<◌, length}
use Rattle.std.specs.Prelude.{IsTrue, not}
use Rattle.share_tree.proofs.ChildLemmas.{none_written}
use Rattle.share_tree.proofs.node.take_out.Goals as goal

never_both : (b : Bool) → IsTrue b → IsTrue (not b) → ⊥
never_both true t n = cc
never_both false t n = cc

pub returns-clause-left : goal.returns-clause-left
returns-clause-left g c =
    λ there none.
    let within : c.split-place.result.0 < length c.args.node.now.children = search rules in
    never_both c.is_none.result (c.is_none.ensures.1 (none_written c.args.node.now.children c.split-place.result.0 _ within (none c.split-place.result.0))) there
