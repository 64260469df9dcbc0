use Rattle.std.proofs.Common.{map, drop, reverse, sym, ap, ◌∙◌, subst}
use Rattle.retention.specs.Graph.{held_at, IsFieldAt}
use Rattle.retention.specs.Walked.{CameBy}
use Rattle.retention.proofs.BackLemmas.{back_further, back_first, back_never, one_back, all_taken, place_within, later, map_reverse}
use Rattle.retention.proofs.walk.Walk.way_to.Goals as goal

pub held-requires : goal.held-requires
held-requires c =
    let it = c.loop.invariant c.requires.came.0 c.requires.came.1 in
    let back = back_further (IsFieldAt c.args.graph.now) c.args.self.now.steps.items it.0 c.in-Further.place (drop c.loop.counter c.requires.came.0) it.1 (sym it.2 ∙ c.in-Further.is) in
    place_within c.args.graph.now c.requires.came.0 c.loop.counter c.in-Further.place back.rest c.requires.came.2 back.is

pub step_before-step-requires-clause-within : goal.step_before-step-requires-clause-within
step_before-step-requires-clause-within c =
    let it = c.loop.invariant c.requires.came.0 c.requires.came.1 in
    let back = back_further (IsFieldAt c.args.graph.now) c.args.self.now.steps.items it.0 c.in-Further.place (drop c.loop.counter c.requires.came.0) it.1 (sym it.2 ∙ c.in-Further.is) in
    place_within c.args.graph.now c.requires.came.0 c.loop.counter c.in-Further.place back.rest c.requires.came.2 back.is

pub held-requires-in-First : goal.held-requires-in-First
held-requires-in-First c =
    let it = c.loop.invariant c.requires.came.0 c.requires.came.1 in
    place_within c.args.graph.now c.requires.came.0 c.loop.counter c.in-First.place _ c.requires.came.2 (back_first (IsFieldAt c.args.graph.now) c.args.self.now.steps.items it.0 c.in-First.place (drop c.loop.counter c.requires.came.0) it.1 (sym it.2 ∙ c.in-First.is))

pub loop-preserved : goal.loop-preserved
loop-preserved c = λ way came.
    let it = c.loop.invariant way came in
    let back = back_further (IsFieldAt c.args.graph.now) c.args.self.now.steps.items it.0 c.in-Further.place (drop c.loop.counter way) it.1 (sym it.2 ∙ c.in-Further.is) in (
      back.from,
      subst (λ ds. CameBy (IsFieldAt c.args.graph.now) c.args.self.now.steps.items back.from ds) (sym (later way c.loop.counter c.in-Further.place back.rest back.is)) back.came,
      c.step_before-step.ensures back.from back.owner,
      one_back c.args.graph.now way c.loop.counter c.in-Further.place back.rest c.loop.way.items c.push.new.self.items c.held.result back.is it.3 c.in_ok-push-in-Further.ensures.items c.held.ensures,
    )

pub returns-in-First : goal.returns-in-First
returns-in-First c = λ way came few.
    let it = c.loop.invariant way came in
    let last = back_first (IsFieldAt c.args.graph.now) c.args.self.now.steps.items it.0 c.in-First.place (drop c.loop.counter way) it.1 (sym it.2 ∙ c.in-First.is) in
    c.reversed.ensures
    ∙ ap reverse (one_back c.args.graph.now way c.loop.counter c.in-First.place _ c.loop.way.items c.push-in-First.new.self.items c.held-in-First.result last it.3 c.in_ok-push-in-First.ensures.items c.held-in-First.ensures ∙ ap (map (held_at c.args.graph.now)) (all_taken way c.loop.counter c.in-First.place last))
    ∙ map_reverse (held_at c.args.graph.now) way

pub returns-in-Never : goal.returns-in-Never
returns-in-Never c = λ way came few.
    let it = c.loop.invariant way came in
    absurd (back_never (IsFieldAt c.args.graph.now) c.args.self.now.steps.items it.0 (drop c.loop.counter way) it.1 (sym it.2 ∙ c.in-Never.is))
