use Rattle.std.proofs.Common.{sym, subst}
use Rattle.ownership_model.specs.State.{nothing_held}
use Rattle.ownership_model.specs.Step.{end_from}
use Rattle.retention_model.specs.Since.{since_from}
use Rattle.retention.specs.Graph.{IsGraphOf}
use Rattle.retention_report.proofs.pictures.end_of.Goals as goal

pub returns-clause-of : goal.returns-clause-of
returns-clause-of c = λ ops is. (
  is.new,
  subst (λ g. IsGraphOf (end_from nothing_held ops) (λ p. since_from nothing_held ops p 0) g) (sym c.in_ok-end.ensures.graph)
      (c.in_ok-graph.ensures (end_from nothing_held ops) (λ p. since_from nothing_held ops p 0) is.named),
)
