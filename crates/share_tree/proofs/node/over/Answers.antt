use Rattle.std.proofs.Common.{◌≡◌, ◌*◌, Some, ap, sym, ◌∙◌}
use Rattle.std.specs.Option.{option_map}
use Rattle.std.specs.Arc.{arc_value}
use Rattle.share_tree.specs.Digits.{below, child_of, child_at}
use Rattle.share_tree.specs.Levels.{branch_at}
use Rattle.share_tree.proofs.ShortLemmas.{below-over}
use Rattle.share_tree.proofs.node.over.Goals as goal

pub returns-in_ok-node_of-in-Some : goal.returns-in_ok-node_of-in-Some
returns-in_ok-node_of-in-Some g c =
    let at = g.C.Level.at in
    let s = g.C.Level.SPAN in
    let there : c.args.child ≡ Some (arc_value c.in-Some.level) = sym c.level.ensures ∙ ap (option_map arc_value) c.in-Some.is in
    λ q.
    ap (λ o. below (16 * s) (child_at (branch_at at s) o) q) c.of.ensures
    ∙ below-over at s (child_of (arc_value c.in_ok-node_of-in-Some.field-0).children) (arc_value c.in-Some.level) g.met.C.Level.positive c.in_ok-node_of-in-Some.ensures q
    ∙ ap (λ o. below s (child_at at o) q) (sym there)
