use Rattle.std.proofs.Common.{sym, subst, set, arith, true}
use Rattle.retention.specs.Graph.{size}
use Rattle.retention.specs.Paths.{Points, IsSearching}
use Rattle.retention.proofs.SearchSteps.{enters}
use Rattle.retention.proofs.search.Search.enter.Goals as goal

pub returns-clause-searching : goal.returns-clause-searching
returns-clause-searching c =
    subst (λ p. IsSearching (Points c.args.graph.now) (size c.args.graph.now) (set c.args.self.now.seen.items c.args.index true) p c.args.self.now.order.items) (sym c.in_ok-push.ensures.items)
    (enters (Points c.args.graph.now) (size c.args.graph.now) c.args.self.now.seen.items c.args.self.now.path.items c.args.self.now.order.items c.requires.searching c.args.index c.requires.within c.requires.unseen
    (λ i h. c.requires.from i (omega (arith, h, c.args.self.now.path.ok.0))))
