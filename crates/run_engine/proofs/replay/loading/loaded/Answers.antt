use Rattle.std.proofs.Common.{◌≡◌, ◌∙◌, true, false, length, ap, sym, arith}
use Rattle.std.specs.Arc.{arc_value}
use Rattle.run_engine.specs.inner.Loaded.{is_given_up}
use Rattle.run_engine.proofs.LoadLemmas.{IsLoaded-kept, IsLoaded-gone}
use Rattle.run_engine.proofs.PieceLemmas.{distinct-slice_range, unused-slice_range}
use Rattle.run_engine.proofs.replay.loading.loaded.Goals as goal

pub stepped-requires-clause-distinct : goal.stepped-requires-clause-distinct
stepped-requires-clause-distinct c = rw (c.in_ok-copies.ensures.ok, c.in_ok-copy_ops.ensures) (distinct-slice_range c.args.ops.now c.loop-prefix.prefix.len _ c.requires.trace.distinct)

pub stepped-requires-clause-unused : goal.stepped-requires-clause-unused
stepped-requires-clause-unused c =
    rw (c.in_ok-copies.ensures.ok, c.in_ok-copy_ops.ensures) (unused-slice_range c.args.ops.now c.loop-prefix.prefix.end c.loop-prefix.prefix.len _ c.requires.trace.distinct c.loop-prefix.invariant.prefix.state)

pub replayed_on-requires-clause-distinct : goal.replayed_on-requires-clause-distinct
replayed_on-requires-clause-distinct c = rw (c.in_ok-copies.ensures.ok, c.in_ok-copy_ops.ensures) (distinct-slice_range c.args.ops.now c.loop-prefix.prefix.len _ c.requires.trace.distinct)

pub replayed_on-requires-clause-unused : goal.replayed_on-requires-clause-unused
replayed_on-requires-clause-unused c =
    rw (c.in_ok-copies.ensures.ok, c.in_ok-copy_ops.ensures) (unused-slice_range c.args.ops.now c.loop-prefix.prefix.end c.loop-prefix.prefix.len _ c.requires.trace.distinct c.loop-prefix.invariant.prefix.state)

pub loop-prefix-preserved-then-is_given_up : goal.loop-prefix-preserved-then-is_given_up
loop-prefix-preserved-then-is_given_up c =
    let on = c.in_ok-prefix.ensures in
    let goes : is_given_up c.args.flags.now c.loop-prefix.prefix.len ≡ true = sym c.is_given_up.ensures ∙ c.if-is_given_up.true in
    rw (on.end, on.len, on.count)
    (IsLoaded-gone c.args.ops.now (arc_value c.in_ok-copies.copies).items c.args.flags.now c.args.meter.now c.loop-prefix.prefix.len _ c.loop-prefix.meter c.loop-prefix.prefix.segments c.loop-prefix.prefix.end c.anchor-anchor.result
    c.loop-prefix.invariant c.loop-prefix-test.true (omega arith) c.anchor-anchor.ensures (ap (λ v. v.items) c.in_ok-copies.ensures.ok ∙ c.in_ok-copy_ops.ensures) goes _ on.segments)

pub loop-prefix-preserved : goal.loop-prefix-preserved
loop-prefix-preserved c =
    let piece = rw (c.in_ok-copies.ensures.ok, c.in_ok-copy_ops.ensures) at c.in_ok-piece.ensures.piece in
    let joined = c.in_ok-prefix-2.ensures in
    let stays : is_given_up c.args.flags.now c.loop-prefix.prefix.len ≡ false = sym c.is_given_up.ensures ∙ c.if-is_given_up.false in
    rw (joined.segments, joined.end, joined.len, c.in_ok-piece.ensures.count)
    (IsLoaded-kept c.args.ops.now c.args.flags.now c.args.meter.now c.loop-prefix.prefix.len _ c.in_ok-piece.piece.len c.loop-prefix.meter c.loop-prefix.prefix.segments c.in_ok-piece.piece.segments c.loop-prefix.prefix.end c.in_ok-piece.piece.end
    c.loop-prefix.invariant c.loop-prefix-test.true (omega arith) piece (c.in_ok-piece.ensures.whole ∙ ap (λ v. length v.items) c.in_ok-copies.ensures.ok ∙ ap length c.in_ok-copy_ops.ensures) stays)
