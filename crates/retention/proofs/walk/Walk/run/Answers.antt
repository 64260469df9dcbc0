use Rattle.std.proofs.Common.{◌≡◌, ◌<◌, ◌≤◌, ◌+◌, length, get_or, sym, subst, arith}
use Rattle.ownership_model.specs.Reach.{has}
use Rattle.retention.specs.Graph.{size, places, start_at, IsFieldAt}
use Rattle.retention.specs.Walked.{holds_in}
use Rattle.retention.proofs.WalkSteps.{IsBeginning, begin_start, begin_either, gone_start, going_start, going_either, gone_more, walked, next_source, next_within}
use Rattle.retention.proofs.PathLemmas.{has_at, at_has}
use Rattle.retention.proofs.GraphPaths.{in_part_holds, held_object, held_place}
use Rattle.retention.proofs.BeginLemmas.{walked_alike}
use Rattle.retention.proofs.walk.Walk.run.Goals as goal

pub begins-init : goal.begins-init
begins-init c =
    begin_start (holds_in c.args.graph.now c.args.parts.now c.args.part) (IsFieldAt c.args.graph.now) (λ p. has p c.args.begins.now) (size c.args.graph.now) c.args.begins.now
    c.args.self.now.steps.items c.args.self.now.came.items c.requires.fresh

pub begins-preserved : goal.begins-preserved
begins-preserved c =
    begin_either (holds_in c.args.graph.now c.args.parts.now c.args.part) (IsFieldAt c.args.graph.now) (λ p. has p c.args.begins.now) (size c.args.graph.now) c.args.begins.now c.begins.place-index
    c.begins.self.steps.items c.begins.self.came.items c.begins.invariant (has_at c.args.begins.now c.begins.place-index c.begins-test.true)
    (λ t e. (held_object c.args.graph.now (get_or c.args.begins.now c.begins.place-index 0) t (in_part_holds c.args.graph.now c.args.parts.now c.args.part (get_or c.args.begins.now c.begins.place-index 0) t e)).1)
    (λ j h. c.requires.rising j c.begins.place-index h c.begins-test.true)
    c.begin.new.self.steps.items c.begin.new.self.came.items c.in_ok-begin.ensures.steps c.in_ok-begin.ensures.came

pub begin-requires-clause-long : goal.begin-requires-clause-long
begin-requires-clause-long c = omega (arith, c.begins.invariant.ordered.long, c.begins.self.steps.ok.0)

pub objects-init : goal.objects-init
objects-init c =
    let end : c.begins.place-index ≡ length c.args.begins.now = (let low : length c.args.begins.now ≤ c.begins.place-index = c.begins-test.false in let high : c.begins.place-index ≤ length c.args.begins.now = c.begins.auto.place-index-end in omega (arith, low, high)) in
    gone_start (holds_in c.args.graph.now c.args.parts.now c.args.part) (IsFieldAt c.args.graph.now) (λ p. has p c.args.begins.now) (size c.args.graph.now) (places c.args.graph.now) c.args.begins.now
    c.begins.self.steps.items c.begins.self.came.items
    (subst (λ k. IsBeginning (holds_in c.args.graph.now c.args.parts.now c.args.part) (IsFieldAt c.args.graph.now) (λ p. has p c.args.begins.now) (size c.args.graph.now) c.args.begins.now k c.begins.self.steps.items c.begins.self.came.items) end c.begins.invariant)
    (λ p h. at_has c.args.begins.now p h) (λ j h. c.requires.within j 0 h)

pub fields-fields-requires : goal.fields-fields-requires
fields-fields-requires c =
    next_within (holds_in c.args.graph.now c.args.parts.now c.args.part) (IsFieldAt c.args.graph.now) (λ p. has p c.args.begins.now) (size c.args.graph.now) c.objects.at c.index-index.result.now
    c.objects.self.steps.items c.objects.self.came.items c.objects.invariant (omega (arith, c.objects-test.true, c.len.ensures, c.objects.self.came.ok.0)) c.index-index.ensures

pub fields-init : goal.fields-init
fields-init c =
    going_start (holds_in c.args.graph.now c.args.parts.now c.args.part) (IsFieldAt c.args.graph.now) (λ p. has p c.args.begins.now) (size c.args.graph.now) c.objects.at c.index-index.result.now c.fields-fields.result.start
    c.objects.self.steps.items c.objects.self.came.items c.objects.invariant (omega (arith, c.objects-test.true, c.len.ensures, c.objects.self.came.ok.0))
    (next_source (holds_in c.args.graph.now c.args.parts.now c.args.part) (IsFieldAt c.args.graph.now) (λ p. has p c.args.begins.now) c.objects.self.came.items c.objects.at c.index-index.result.now
    (omega (arith, c.objects-test.true, c.len.ensures, c.objects.self.came.ok.0)) c.index-index.ensures)
    (λ p f. subst (λ x. x ≤ p) (sym c.fields-fields.ensures.start) f.0)

pub pass-requires-clause-long : goal.pass-requires-clause-long
pass-requires-clause-long c = omega (arith, c.fields.invariant.ordered.long, c.fields.self.steps.ok.0)

pub fields-preserved : goal.fields-preserved
fields-preserved c =
    going_either (holds_in c.args.graph.now c.args.parts.now c.args.part) (IsFieldAt c.args.graph.now) (λ p. has p c.args.begins.now) (size c.args.graph.now) c.objects.at c.index-index.result.now c.fields.place
    c.fields.self.steps.items c.fields.self.came.items c.fields.invariant
    (subst (λ x. x ≤ c.fields.place) c.fields-fields.ensures.start c.fields.auto.place, subst (λ x. c.fields.place < x) c.fields-fields.ensures.end c.fields-test.true)
    (λ t e. (held_object c.args.graph.now c.fields.place t (in_part_holds c.args.graph.now c.args.parts.now c.args.part c.fields.place t e)).1)
    c.pass.new.self.steps.items c.pass.new.self.came.items c.in_ok-pass.ensures.steps c.in_ok-pass.ensures.came

pub objects-preserved : goal.objects-preserved
objects-preserved c =
    gone_more (holds_in c.args.graph.now c.args.parts.now c.args.part) (IsFieldAt c.args.graph.now) (λ p. has p c.args.begins.now) (size c.args.graph.now) c.objects.at c.index-index.result.now c.fields.place
    c.fields.self.steps.items c.fields.self.came.items c.fields.invariant
    (λ p f. let high : p < start_at c.args.graph.now (c.index-index.result.now + 1) = f.1 in omega (arith, high, c.fields-fields.ensures.end, c.fields-test.false))

pub returns-clause-walked : goal.returns-clause-walked
returns-clause-walked c = λ from agree.
    walked_alike (holds_in c.args.graph.now c.args.parts.now c.args.part) (IsFieldAt c.args.graph.now) (λ p. has p c.args.begins.now) from
    (λ p o e. sym (agree p (held_place c.args.graph.now p o (in_part_holds c.args.graph.now c.args.parts.now c.args.part p o e))))
    (size c.args.graph.now) c.objects.self.steps.items
    (walked (holds_in c.args.graph.now c.args.parts.now c.args.part) (IsFieldAt c.args.graph.now) (λ p. has p c.args.begins.now) (size c.args.graph.now) c.objects.at
    c.objects.self.steps.items c.objects.self.came.items c.objects.invariant (omega (arith, c.objects-test.false, c.len.ensures, c.objects.self.came.ok.0)))
