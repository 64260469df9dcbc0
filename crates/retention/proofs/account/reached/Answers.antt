use Rattle.std.proofs.Common.{◌≡◌, true, sym, ◌∙◌}
use Rattle.retention.specs.Graph.{alive_at, is_root_at}
use Rattle.retention.specs.Walked.{has_come}
use Rattle.retention.proofs.AccountLemmas.{comes_if_kept}
use Rattle.retention.proofs.account.reached.Goals as goal

pub way-requires-clause-walked : goal.way-requires-clause-walked
way-requires-clause-walked c = (is_root_at c.args.end.now.graph, c.requires.ending.roots)

pub returns : goal.returns
returns c =
    let e = c.args.end.now in
    let come : has_come e.from_roots.steps.items c.args.index ≡ true =
    comes_if_kept (alive_at e.graph c.args.index) (has_come e.from_roots.steps.items c.args.index) (sym (c.requires.ending.leaked c.args.index c.requires.there) ∙ c.requires.kept) c.requires.alive in
    λ came date. (c.requires.alive, come, c.in_ok-way.ensures (is_root_at e.graph) c.requires.ending.roots come)
