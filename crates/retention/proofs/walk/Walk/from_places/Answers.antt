use Rattle.retention.specs.Graph.{size}
use Rattle.retention.proofs.BeginLemmas.{whole_walked}
use Rattle.retention.proofs.walk.Walk.from_places.Goals as goal

pub returns : goal.returns
returns c = λ from agree. whole_walked c.args.graph.now from (size c.args.graph.now) c.run.new.self.steps.items (c.in_ok-run.ensures.walked from agree)
