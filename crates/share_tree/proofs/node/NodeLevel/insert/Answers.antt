use Rattle.std.proofs.Common.{rules, ◌<◌, length, Some}
use Rattle.std.proofs.lemmas.Result.{err_from_is_err_and}
use Rattle.share_tree.proofs.ChildLemmas.{node_at-write, node_at-rewrite}
use Rattle.share_tree.proofs.node.NodeLevel.insert.Goals as goal

pub returns-in_err-was-clause-err : goal.returns-in_err-was-clause-err
returns-in_err-was-clause-err g c =
    let within : c.split-place.result.0 < length c.args.self.now.children = search rules in
    let p = err_from_is_err_and c.from_residual.result c.from_residual.ensures.1 in
    rw p.1 (node_at-rewrite g.C.Level.at g.C.Level.SPAN c.args.self.now.children _ c.index-self-place.result _ within c.in_err-was.ensures.err)

pub returns-clause-ok : goal.returns-clause-ok
returns-clause-ok g c =
    let within : c.split-place.result.0 < length c.args.self.now.children = search rules in
    node_at-write g.C.Level.at g.C.Level.SPAN c.args.self.now.children _ c.index-self-place.result _ c.args.key c.split-place.result.1 (Some c.args.value) c.split-place.ensures.place c.split-place.ensures.rest within c.in_ok-was.ensures.ok
