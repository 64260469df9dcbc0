use Rattle.std.proofs.Common.{◌≡◌, ◌<◌, ◌≤◌, ◌+◌, ◌-◌, length, sym, ap, ◌∙◌, subst, arith}
use Rattle.std.specs.List.{All, range_with_len}
use Rattle.ownership_model.specs.Reach.{has}
use Rattle.retention.specs.Layout.{IsRising}
use Rattle.retention.specs.Graph.{size, places, start_at, is_field_at}
use Rattle.retention.specs.Walked.{IsFresh}
use Rattle.retention.proofs.BeginLemmas.{range_rising, all_below, in_range, range_has}
use Rattle.retention.proofs.OwnLemmas.{own_came_by, own_told}
use Rattle.retention.proofs.walk.Walk.own_way.Goals as goal

pub run-requires-clause-rising : goal.run-requires-clause-rising
run-requires-clause-rising c =
    subst (λ xs. IsRising xs) (sym (c.deref.ensures.value ∙ c.in_ok-begins.ensures)) (range_rising (start_at c.args.graph.now c.args.index) (start_at c.args.graph.now (c.args.index + 1) - start_at c.args.graph.now c.args.index))

pub run-requires-clause-within : goal.run-requires-clause-within
run-requires-clause-within c =
    subst (λ xs. All (λ p. p < places c.args.graph.now) xs) (sym (c.deref.ensures.value ∙ c.in_ok-begins.ensures))
    (all_below (range_with_len (start_at c.args.graph.now c.args.index) (start_at c.args.graph.now (c.args.index + 1) - start_at c.args.graph.now c.args.index)) (places c.args.graph.now)
    (λ x h.
    let it = range_has (start_at c.args.graph.now c.args.index) (start_at c.args.graph.now (c.args.index + 1) - start_at c.args.graph.now c.args.index) x h in
    let high : x < start_at c.args.graph.now c.args.index + (start_at c.args.graph.now (c.args.index + 1) - start_at c.args.graph.now c.args.index) = it.1 in
    let rise : start_at c.args.graph.now c.args.index ≤ start_at c.args.graph.now (c.args.index + 1) = c.args.graph.now.laid.are_starts.rising c.args.index c.requires.within in
    let end : start_at c.args.graph.now (c.args.index + 1) ≤ places c.args.graph.now = c.args.graph.now.laid.are_starts.within (c.args.index + 1) (omega (arith, c.requires.within)) in
    omega (arith, high, rise, end)))

pub way_to-requires-clause-came : goal.way_to-requires-clause-came
way_to-requires-clause-came c =
    own_came_by c.args.graph.now c.args.parts.now c.requires.parts c.args.index c.requires.within c.requires.cyclic c.run.new.self.steps.items
    (c.in_ok-run.ensures.walked (is_field_at c.args.graph.now c.args.index)
    (λ p h. in_range c.args.graph.now c.args.index p (c.args.graph.now.laid.are_starts.rising c.args.index c.requires.within) ∙ ap (λ xs. has p xs) (sym (c.deref.ensures.value ∙ c.in_ok-begins.ensures))))

pub returns-clause-told : goal.returns-clause-told
returns-clause-told c =
    own_told c.args.graph.now c.args.parts.now c.requires.parts c.args.index c.requires.within c.requires.cyclic c.run.new.self.steps.items
    (c.in_ok-run.ensures.walked (is_field_at c.args.graph.now c.args.index)
    (λ p h. in_range c.args.graph.now c.args.index p (c.args.graph.now.laid.are_starts.rising c.args.index c.requires.within) ∙ ap (λ xs. has p xs) (sym (c.deref.ensures.value ∙ c.in_ok-begins.ensures))))
    c.in_ok-way.way.items c.in_ok-way.ensures

pub way_to-requires-clause-long : goal.way_to-requires-clause-long
way_to-requires-clause-long c =
    let long : length c.run.new.self.steps.items ≡ size c.args.graph.now = (c.in_ok-run.ensures.walked (is_field_at c.args.graph.now c.args.index)
    (λ p h. in_range c.args.graph.now c.args.index p (c.args.graph.now.laid.are_starts.rising c.args.index c.requires.within) ∙ ap (λ xs. has p xs) (sym (c.deref.ensures.value ∙ c.in_ok-begins.ensures)))).long in
    omega (arith, long, c.run.new.self.steps.ok.0)

pub returns-clause-fresh : goal.returns-clause-fresh
returns-clause-fresh c =
    let long : length c.run.new.self.steps.items ≡ size c.args.graph.now = (c.in_ok-run.ensures.walked (is_field_at c.args.graph.now c.args.index)
    (λ p h. in_range c.args.graph.now c.args.index p (c.args.graph.now.laid.are_starts.rising c.args.index c.requires.within) ∙ ap (λ xs. has p xs) (sym (c.deref.ensures.value ∙ c.in_ok-begins.ensures)))).long in
    subst (λ n. IsFresh n c.clear.new.self.steps.items c.clear.new.self.came.items) (let same : c.run.new.self.steps.len ≡ size c.args.graph.now = omega (arith, long, c.run.new.self.steps.ok.0) in same) c.clear.ensures
