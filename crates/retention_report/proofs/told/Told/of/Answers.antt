use Rattle.std.proofs.Common.{subst, sym, List}
use Rattle.ownership_model.specs.State.{State, nothing_held}
use Rattle.ownership_model.specs.Step.{end_from}
use Rattle.retention_model.specs.Since.{since_from}
use Rattle.retention.specs.declared.graph.Graph.{Graph}
use Rattle.retention.specs.declared.moves.Loss.{Loss}
use Rattle.retention.specs.Graph.{IsGraphOf}
use Rattle.retention.specs.Dating.{AreDated}
use Rattle.retention_report.proofs.told.Told.of.Goals as goal

pub of-requires : goal.of-requires
of-requires c = ((λ p. since_from nothing_held c.requires.0 p 0), c.requires.1.dates)

pub returns : goal.returns
returns c = λ ops s. record {
  of = (
    s.new,
    subst (λ (g : Graph). IsGraphOf (end_from nothing_held ops) (λ p. since_from nothing_held ops p 0) g) (sym c.in_ok-ending.ensures.graph)
        (subst (λ (m : State). IsGraphOf m (λ p. since_from nothing_held ops p 0) c.in_ok-graph.graph) s.end (c.in_ok-graph.ensures c.args.story.end (λ p. since_from nothing_held ops p 0) (c.in_ok-named.ensures (λ p. since_from nothing_held ops p 0) s.dates))),
  );
  ending = c.in_ok-ending.ensures.ending;
  accounts = c.in_ok-accounts.ensures.accounts;
  losses = c.args.story.losses.items;
  lost = s.losses;
  dated = subst (λ (xs : List Loss). AreDated c.in_ok-ending.ending.graph c.in_ok-ending.ending.leaked.items xs c.in_ok-accounts.accounts.since.items) c.deref.ensures.value c.in_ok-accounts.ensures.dated;
  lines = c.in_ok-lines.ensures ops s.marked;
}
