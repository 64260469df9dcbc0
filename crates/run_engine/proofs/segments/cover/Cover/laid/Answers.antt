use Rattle.std.proofs.Common.{ap, sym, subst, ◌∙◌}
use Rattle.std.specs.Prelude.{option_map, option_to_list}
use Rattle.std.specs.Arc.{arc_value}
use Rattle.run_engine.specs.inner.Layered.{with_over, with_all, stacked, covering, CanLie, AreLaid}
use Rattle.run_engine.proofs.LayeredLemmas.{lower-laid, last-laid, last-made}
use Rattle.run_engine.proofs.segments.cover.Cover.laid.Goals as goal

pub with_lower-requires : goal.with_lower-requires
with_lower-requires c =
    lower-laid (stacked (option_map arc_value c.self.inside.lower)) (option_to_list c.self.inside.top) c.args.heap
    (subst (λ os. AreLaid os c.args.heap) (sym c.self.view_is) c.requires)

pub laid-requires : goal.laid-requires
laid-requires c =
    let lower = stacked (option_map arc_value c.self.inside.lower) in
    let own = subst (λ os. AreLaid os c.args.heap) (sym c.self.view_is) c.requires in
    let lies = last-laid lower c.in-Some.layer c.args.heap (subst (λ t. AreLaid (covering (option_map arc_value c.self.inside.lower) t) c.args.heap) c.in-Some.is own) in
    subst (CanLie c.in-Some.layer) (sym c.in_ok-below.ensures) lies

pub returns-in_ok-laid-in-Some : goal.returns-in_ok-laid-in-Some
returns-in_ok-laid-in-Some c =
    let lower = stacked (option_map arc_value c.self.inside.lower) in
    c.in_ok-laid-in-Some.ensures ∙ ap (with_over c.in-Some.layer) c.in_ok-below.ensures ∙ sym (last-made lower c.in-Some.layer c.args.heap)
    ∙ ap (λ os. with_all os c.args.heap) (ap (covering (option_map arc_value c.self.inside.lower)) (sym c.in-Some.is) ∙ c.self.view_is)
