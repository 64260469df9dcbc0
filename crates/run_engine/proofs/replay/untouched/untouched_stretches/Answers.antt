use Rattle.std.proofs.Common.{sym, ap, ◌∙◌}
use Rattle.std.specs.Arc.{arc_value}
use Rattle.heap_difference.specs.Layers.{LayerView}
use Rattle.run_engine.proofs.PassedLemmas.{differs-at, laid-at, counts-at}
use Rattle.run_engine.proofs.replay.untouched.untouched_stretches.Goals as goal

pub stretches_under-requires-clause-laid : goal.stretches_under-requires-clause-laid
stretches_under-requires-clause-laid c =
    laid-at c.args.revision.now.segments.now c.args.old.now c.args.heap.now c.args.keys.now (arc_value c.in-Some.layer) c.requires.place c.requires.mark c.requires.difference (rw c.in-Some.is at c.in_ok-layer.ensures.from) (rw c.in-Some.is at c.in_ok-layer.ensures.laid)

pub stretches_under-requires-clause-counts : goal.stretches_under-requires-clause-counts
stretches_under-requires-clause-counts c =
    counts-at c.args.revision.now.segments.now c.args.old.now c.args.heap.now (arc_value c.in-Some.layer) c.requires.place c.requires.mark (rw c.in-Some.is at c.in_ok-layer.ensures.from) (rw c.in-Some.is at c.in_ok-layer.ensures.counts)

pub apart-requires-clause-difference : goal.apart-requires-clause-difference
apart-requires-clause-difference c =
    rw (c.deref.ensures, rw c.in-Some.is at c.in_ok-layer.ensures.from) (differs-at c.args.revision.now.segments.now c.args.old.now c.args.heap.now c.args.keys.now c.requires.place c.requires.mark c.requires.difference)

pub returns-in-Some-next-clause-origin : goal.returns-in-Some-next-clause-origin
returns-in-Some-next-clause-origin c = λ chunks.
    rw (sym (ap (λ (l : LayerView). l.from) c.deref.ensures ∙ (rw c.in-Some.is at c.in_ok-layer.ensures.from))) (rw c.in-Some-next.is at (c.in_ok-next.ensures.origin chunks))

pub returns-in-Some-next-clause-known : goal.returns-in-Some-next-clause-known
returns-in-Some-next-clause-known c = λ r h. c.in_ok-next.ensures.known r (c.loop-most.invariant.known r h)

pub loop-most-preserved : goal.loop-most-preserved
loop-most-preserved c = record { known = λ r h. c.in_ok-next.ensures.known r (c.loop-most.invariant.known r h) }
