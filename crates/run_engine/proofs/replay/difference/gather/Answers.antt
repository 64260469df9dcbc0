use Rattle.std.proofs.Common.{◌≡◌, ◌++◌, ◌∙◌, ap, List, arith, subst}
use Rattle.trace_types.specs.Operation.{Operation}
use Rattle.trace_types.specs.declared.outcomes.Outcome.{Outcome}
use Rattle.ownership_model.specs.declared.key.Key.{Key}
use Rattle.heap_difference.specs.KeySets.{set_of}
use Rattle.heap_difference.specs.Naming.{with_names}
use Rattle.run_engine.specs.SegmentView.{SegmentView}
use Rattle.run_engine.specs.inner.Difference.{HasGathered}
use Rattle.run_engine.proofs.DifferenceLemmas.{touched-there, HasGathered-none, HasGathered-next}
use Rattle.run_engine.proofs.replay.difference.gather.Goals as goal

pub loop-i-init : goal.loop-i-init
loop-i-init c =
    HasGathered-none c.args.segments.now c.last_from-first.result.0 c.last_from-first.result.1 c.args.from c.args.keys.now.items
    c.last_from-first.ensures.last.place c.if-at-from.false

pub loop-i-preserved : goal.loop-i-preserved
loop-i-preserved c =
    let s : SegmentView = c.at-segment.result in
    let touched : List Key = c.in-Some.touched.now in
    let told : List Key = c.loop-i.keys.items in
    let all : c.add_all.new.keys.items ≡ told ++ with_names touched s.ops s.outcomes =
    c.in_ok-add_all.ensures
    ∙ ap (λ (os : List Operation). told ++ with_names touched os c.outcomes.result.now) c.ops.ensures
    ∙ ap (λ (os : List Outcome). told ++ with_names touched s.ops os) c.outcomes.ensures in
    HasGathered-next c.args.segments.now c.args.from c.loop-i.i s (set_of c.args.keys.now.items) told (with_names touched s.ops s.outcomes) c.add_all.new.keys.items
    c.requires.replay (omega (arith, c.loop-i-test.true, c.requires.within)) c.at-segment.ensures
    (touched-there c.args.segments.now c.loop-i.i s touched c.requires.replay (omega (arith, c.loop-i-test.true, c.requires.within)) c.at-segment.ensures (rw c.in-Some.is at c.keys.ensures)) all c.loop-i.invariant

pub returns : goal.returns
returns c =
    let end : c.loop-i.i ≡ c.args.index = omega (arith, c.loop-i-test.false, c.loop-i.auto.i-end (omega (arith, c.if-index-first.false))) in
    λ _. subst (λ n. HasGathered c.args.segments.now c.args.from n (set_of c.args.keys.now.items) (set_of c.loop-i.keys.items)) end c.loop-i.invariant
