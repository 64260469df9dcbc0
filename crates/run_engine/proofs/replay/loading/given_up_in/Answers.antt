use Rattle.std.proofs.Common.{◌≡◌, refl, ◌+◌, ◌/◌, ◌≤◌, ◌<◌, ◌∙◌, false, ap, sym, length, arith}
use Rattle.std.proofs.lemmas.List.{length-replicate}
use Rattle.run_engine.specs.RunView.{RunView}
use Rattle.run_engine.specs.Marks.{load_marks}
use Rattle.run_engine.specs.GivenUp.{name_at}
use Rattle.run_engine.specs.inner.Loaded.{loaded_view}
use Rattle.run_engine.proofs.GoneLemmas.{IsTouched-first, IsTouched-further, IsTouched-whole}
use Rattle.run_engine.proofs.replay.loading.given_up_in.Goals as goal

pub loop-at-init : goal.loop-at-init
loop-at-init c =
    let n = ap length c.as_slice-ops.ensures.value in
    let long : length c.in_ok-flags.flags.items ≡ length c.as_slice-ops.result.now / 64 + 1 = ap length c.in_ok-flags.ensures ∙ length-replicate (length c.as_slice-ops.result.now / 64 + 1) false in
    record {
      behind = omega arith;
      aligned = refl;
      short = omega arith;
      room = omega (arith, n, long);
      touched = rw c.in_ok-flags.ensures (IsTouched-first c.args.trace.now c.args.shelf.now (length c.as_slice-ops.result.now / 64 + 1));
    }

pub loop-at-preserved : goal.loop-at-preserved
loop-at-preserved c =
    let all : RunView = record { trace = c.args.trace.now; marks = load_marks (length c.args.trace.now) } in
    let n = ap length c.as_slice-ops.ensures.value in
    let h = c.loop-at.invariant in
    let lt : c.loop-at.at < length c.args.trace.now = omega (arith, n, c.loop-at-test.true) in
    record {
      behind = omega arith;
      aligned = omega (arith, h.aligned);
      short = omega (arith, lt);
      room = omega (arith, h.room, c.touch_one.ensures.room);
      touched = IsTouched-further c.args.trace.now all (loaded_view c.args.trace.now c.loop-at.flags.items) (loaded_view c.args.trace.now c.touch_one.new.flags.items) c.args.shelf.now c.loop-at.shelf c.touch_one.new.shelf c.loop-at.at c.name_before-name.result
          lt h.aligned (ap (λ ops. name_at ops c.loop-at.at) (sym c.as_slice-ops.ensures.value) ∙ c.name_before-name.ensures) h.touched c.touch_one.ensures.touched;
    }

pub returns : goal.returns
returns c =
    let all : RunView = record { trace = c.args.trace.now; marks = load_marks (length c.args.trace.now) } in
    let n = ap length c.as_slice-ops.ensures.value in
    let le : length c.args.trace.now ≤ c.loop-at.at = omega (arith, n, c.loop-at-test.false) in
    IsTouched-whole c.args.trace.now all (loaded_view c.args.trace.now c.loop-at.flags.items) c.args.shelf.now c.loop-at.shelf c.loop-at.at le c.loop-at.invariant.touched
