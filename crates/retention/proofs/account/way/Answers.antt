use Rattle.std.proofs.Common.{◌≡◌, true, sym, ◌∙◌}
use Rattle.retention.specs.Walked.{has_come}
use Rattle.retention.proofs.AccountLemmas.{came_by, way_told}
use Rattle.retention.proofs.account.way.Goals as goal

pub way_to-requires-clause-came : goal.way_to-requires-clause-came
way_to-requires-clause-came c =
    let come : has_come c.args.walk.now.steps.items c.args.index ≡ true = sym c.is_seen.ensures ∙ c.if-not-is_seen.false in
    came_by c.args.graph.now c.requires.walked.0 c.args.walk.now c.args.index c.requires.walked.1 come

pub returns : goal.returns
returns c = λ from walked come. way_told c.args.graph.now c.args.walk.now c.args.index c.in_ok-way.way.items c.in_ok-way.ensures from walked come
