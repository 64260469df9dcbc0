use Rattle.std.proofs.Common.{◌≡◌, ◌-◌, ◌++◌, ◌∷◌, [], length, get_or, sym, subst, arith}
use Rattle.retention.specs.Graph.{size}
use Rattle.retention.specs.Paths.{Points, IsSearching}
use Rattle.retention.proofs.SearchSteps.{leaves_last}
use Rattle.retention.proofs.LeftSteps.{all_gone, last_at, last_within}
use Rattle.retention.proofs.search.Search.leave.Goals as goal

pub returns-in_ok-push-clause-searching : goal.returns-in_ok-push-clause-searching
returns-in_ok-push-clause-searching c =
    let count : length c.args.self.now.path.items ≡ c.args.self.now.path.len = omega (arith, c.args.self.now.path.ok.0) in
    let last : get_or c.args.self.now.path.items (c.args.self.now.path.len - 1) 0 ≡ c.in-Some.last = last_at c.args.self.now.path.items c.pop.new.self.items c.in-Some.last c.args.self.now.path.len c.in-Some.ensures.items count in
    let searching : IsSearching (Points c.args.graph.now) (size c.args.graph.now) c.args.self.now.seen.items (c.pop.new.self.items ++ c.in-Some.last ∷ []) c.args.self.now.order.items =
    subst (λ p. IsSearching (Points c.args.graph.now) (size c.args.graph.now) c.args.self.now.seen.items p c.args.self.now.order.items) c.in-Some.ensures.items c.requires.searching in
    subst (λ o. IsSearching (Points c.args.graph.now) (size c.args.graph.now) c.args.self.now.seen.items c.pop.new.self.items o) (sym c.in_ok-push.ensures.items)
    (leaves_last (Points c.args.graph.now) (size c.args.graph.now) c.args.self.now.seen.items c.pop.new.self.items c.in-Some.last c.args.self.now.order.items searching
    (all_gone c.args.graph.now c.args.self.now.seen.items c.args.self.now.left.items c.requires.left c.in-Some.last
    (last_within (Points c.args.graph.now) (size c.args.graph.now) c.args.self.now.seen.items c.pop.new.self.items c.in-Some.last c.args.self.now.order.items searching)
    (subst (λ x. get_or c.args.self.now.left.items x 0 ≡ 0) last c.requires.none)))
