use Rattle.std.proofs.Common.{◌≡◌, ◌<◌, ◌≤◌, ◌+◌, refl, sym, subst, ◌∙◌, arith, true, false}
use Rattle.retention.specs.Graph.{start_at}
use Rattle.retention.proofs.CyclicLemmas.{cyclic_by, cyclic_edge}
use Rattle.retention.proofs.components.is_cyclic.Goals as goal

pub returns-then-parts-target : goal.returns-then-parts-target
returns-then-parts-target c = (
  λ t. cyclic_by c.args.graph.now c.args.parts.now c.requires.parts c.args.index c.requires.within c.in-Some.target (
    c.loop-place.place,
    (subst (λ x. x ≤ c.loop-place.place) c.fields-fields.ensures.start c.loop-place.auto.place, subst (λ x. c.loop-place.place < x) c.fields-fields.ensures.end c.loop-place-test.true),
    sym c.strong_target.ensures.value ∙ c.in-Some.is,
  ) c.if-parts-target.true,
  λ k. refl,
)

pub returns : goal.returns
returns c = (
  λ t. let e : false ≡ true = t in absurd cc,
  λ k. let it = cyclic_edge c.args.graph.now c.args.parts.now c.requires.parts c.args.index c.requires.within k in
      let high : it.1.0 < start_at c.args.graph.now (c.args.index + 1) = it.1.1.1 in
      absurd (c.loop-place.invariant it.1.0 it.0 it.1.1.0 (omega (arith, high, c.fields-fields.ensures.end, c.loop-place-test.false)) it.1.2 it.2),
)
