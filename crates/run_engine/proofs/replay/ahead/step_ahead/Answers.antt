use Rattle.std.proofs.Common.{◌≡◌, ◌+◌, ◌-◌, ◌%◌, ◌∙◌, ◌∷◌, [], length, drop, refl, ap, sym, subst, arith}
use Rattle.std.proofs.lemmas.List.{length-take, length-drop}
use Rattle.std.specs.Ordering.{nat_cmp}
use Rattle.std.specs.BTreeSet.{contains}
use Rattle.std.specs.Arc.{arc_value}
use Rattle.run_engine.specs.Segments.{marks_from}
use Rattle.run_engine.specs.inner.Onward.{cuts, IsWay}
use Rattle.run_engine.specs.Steps.{AreTaken}
use Rattle.run_engine.specs.inner.GoesOn.{GoesAhead}
use Rattle.run_engine.proofs.MemoLemmas.{IsSearched-none, IsSearched-next}
use Rattle.run_engine.proofs.OnwardLemmas.{cuts-none, IsWay-none, IsWay-cut}
use Rattle.run_engine.proofs.SteppedLemmas.{HaveStepped-next}
use Rattle.run_engine.proofs.replay.ahead.step_ahead.Goals as goal

pub loop-prefix-init : goal.loop-prefix-init
loop-prefix-init c = record {
  ahead = record {
    reached = c.requires.may.reached;
    way = λ old. subst (λ more. IsWay c.args.ops.now.ops old c.args.prefix.len c.args.prefix.len more (marks_from 0 c.args.prefix.segments) (marks_from 0 c.args.prefix.segments) (contains nat_cmp c.args.prefix.answered)) (sym (cuts-none c.args.prefix.len))
        (IsWay-none c.args.ops.now.ops old c.args.prefix.len (marks_from 0 c.args.prefix.segments) (contains nat_cmp c.args.prefix.answered));
    answered = refl;
  };
  placed = c.requires.placed;
  behind = omega arith;
  before = c.requires.may.order;
  aligned = λ lt. omega arith;
  searched = IsSearched-none c.args.shelf.now;
  never_less = omega arith;
  rise = omega arith;
  stepped = λ old marks r start chunks h all. h;
}

pub loop-prefix-smaller : goal.loop-prefix-smaller
loop-prefix-smaller c =
    let within = c.requires.may.within in
    let long : length (arc_value c.in_ok-next.next).items ≡ c.min-len.result =
    ap length c.in_ok-next.ensures
    ∙ omega (arith, length-take (c.loop-prefix.prefix.len + c.min-len.result - c.loop-prefix.prefix.len) (drop c.loop-prefix.prefix.len c.args.ops.now.ops), length-drop c.loop-prefix.prefix.len c.args.ops.now.ops) in
    omega (arith, long, c.in_ok-prefix.ensures.len, c.loop-prefix-test.true)

pub loop-prefix-preserved : goal.loop-prefix-preserved
loop-prefix-preserved c =
    let h = c.loop-prefix.invariant in
    let on = c.in_ok-prefix.ensures in
    let within = c.requires.may.within in
    let more = c.loop-prefix-test.true in
    let long : length (arc_value c.in_ok-next.next).items ≡ c.min-len.result =
    ap length c.in_ok-next.ensures
    ∙ omega (arith, length-take (c.loop-prefix.prefix.len + c.min-len.result - c.loop-prefix.prefix.len) (drop c.loop-prefix.prefix.len c.args.ops.now.ops), length-drop c.loop-prefix.prefix.len c.args.ops.now.ops) in
    let there : c.in_ok-prefix.prefix.len ≡ c.loop-prefix.prefix.len + length (arc_value c.in_ok-next.next).items = on.len in
    let z : (c.loop-prefix.prefix.len - c.args.prefix.len) % 64 ≡ 0 = h.aligned more in
    record {
      ahead = record {
        reached = on.goes_ahead.reached;
        way = λ old. rw there
            (IsWay-cut c.args.ops.now.ops old c.args.prefix.len c.loop-prefix.prefix.len (length (arc_value c.in_ok-next.next).items) _ (marks_from 0 c.loop-prefix.prefix.segments) _ (contains nat_cmp c.args.prefix.answered) h.behind z (omega (arith, long, more)) (omega (arith, long)) (h.ahead.way old)
            (subst (λ g. IsWay c.args.ops.now.ops old c.loop-prefix.prefix.len (c.loop-prefix.prefix.len + length (arc_value c.in_ok-next.next).items) (c.loop-prefix.prefix.len ∷ []) (marks_from 0 c.loop-prefix.prefix.segments) (marks_from 0 c.in_ok-prefix.prefix.segments) (contains nat_cmp g)) h.ahead.answered (rw there at on.goes_ahead.way old)));
        answered = on.goes_ahead.answered ∙ h.ahead.answered;
      };
      placed = on.placed;
      behind = omega (arith, h.behind, there);
      before = omega (arith, long, there);
      aligned = λ lt. omega (arith, z, h.behind, long, there);
      searched = IsSearched-next c.args.shelf.now c.loop-prefix.shelf _ h.searched c.in_ok-prefix.ensures.searched;
      never_less = omega (arith, h.never_less, c.in_ok-prefix.ensures.metered.never_less);
      rise = omega (arith, h.rise, c.in_ok-prefix.ensures.metered.rise, there);
      stepped = λ old marks r start chunks k all. rw there
          (HaveStepped-next old c.args.ops.now.ops marks c.loop-prefix.shelf.chunks chunks c.loop-prefix.prefix.end r c.loop-prefix.prefix.len (c.loop-prefix.prefix.len + c.min-len.result) (length (arc_value c.in_ok-next.next).items) start c.loop-prefix.meter c.next_cut.new.meter
          h.ahead.reached.state (omega (arith, long)) (λ e m. all e (h.searched.fewer e m)) (subst (λ os. AreTaken old marks c.loop-prefix.shelf.chunks c.loop-prefix.prefix.end os (length (arc_value c.in_ok-next.next).items) c.loop-prefix.meter c.next_cut.new.meter) c.in_ok-next.ensures (on.taken old marks)) (h.stepped old marks r start chunks k all));
    }

pub returns-clause-goes_ahead : goal.returns-clause-goes_ahead
returns-clause-goes_ahead c =
    let there : c.loop-prefix.prefix.len ≡ c.args.to = omega (arith, c.loop-prefix.invariant.before, c.loop-prefix-test.false) in
    subst (λ to. GoesAhead c.args.ops.now.ops c.args.prefix c.loop-prefix.prefix (cuts c.args.prefix.len to)) there c.loop-prefix.invariant.ahead
