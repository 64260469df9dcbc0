use Rattle.std.proofs.Common.{subst, arith}
use Rattle.retention.specs.Graph.{size}
use Rattle.retention.specs.Paths.{Points, IsSearching}
use Rattle.retention.proofs.SearchSteps.{all_left}
use Rattle.retention.proofs.search.leaving_order.Goals as goal

pub returns : goal.returns
returns c =
    all_left (Points c.args.graph.now) (size c.args.graph.now) c.loop-index.search.seen.items c.loop-index.search.order.items
    (subst (λ p. IsSearching (Points c.args.graph.now) (size c.args.graph.now) c.loop-index.search.seen.items p c.loop-index.search.order.items) c.loop-index.invariant.path c.loop-index.invariant.searching)
    (λ x h. c.loop-index.invariant.seen x (omega (arith, h, c.loop-index-test.false, c.len-index-end.ensures)))
