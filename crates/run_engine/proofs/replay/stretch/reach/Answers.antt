use Rattle.std.proofs.Common.{◌+◌, ◌-◌, ◌<◌, length, sym, ◌∙◌, arith}
use Rattle.run_engine.proofs.StretchLemmas.{IsPartTo-none, no-length, bare-none, length-next, stretch-few}
use Rattle.run_engine.proofs.PieceLemmas.{marks-bare-later}
use Rattle.run_engine.proofs.replay.stretch.reach.Goals.{then-len-ge-STRIDE+then-is_anchored, else-len-ge-STRIDE}
use Rattle.run_engine.proofs.replay.stretch.reach.Goals as goal

pub loop-i-init : goal.loop-i-init
loop-i-init c = record {
  order = omega arith;
  long = no-length c.args.segments.now c.args.from;
  fits = omega arith;
  bare = λ at. bare-none c.args.segments.now (c.args.from + 1) (c.args.from + 1 - (c.args.from + 1)) at (omega arith);
  part = IsPartTo-none c.args.segments.now c.args.from c.args.most (omega (arith, c.requires.index));
}

pub overflow_add-len : goal.overflow_add-len
overflow_add-len c =
    let long = length-next c.args.segments.now c.args.from c.loop-i.i c.loop-i.len c.at.result c.ops.result.now c.loop-i.invariant.long c.loop-i.invariant.order (omega (arith, c.loop-i-test.true, c.len-i-end.ensures)) c.at.ensures c.ops.ensures in
    omega (arith, long, stretch-few c.args.segments.now c.args.from (c.loop-i.i + 1 - c.args.from), c.requires.few)

pub returns-then-next-len-clause-fits : goal.returns-then-next-len-clause-fits
returns-then-next-len-clause-fits c =
    let long = length-next c.args.segments.now c.args.from c.loop-i.i c.loop-i.len c.at.result c.ops.result.now c.loop-i.invariant.long c.loop-i.invariant.order (omega (arith, c.loop-i-test.true, c.len-i-end.ensures)) c.at.ensures c.ops.ensures in
    omega (arith, long, c.if-len-most.false)

pub loop-i-preserved : goal.loop-i-preserved
loop-i-preserved c =
    let h = c.loop-i.invariant in
    let long = length-next c.args.segments.now c.args.from c.loop-i.i c.loop-i.len c.at.result c.ops.result.now h.long h.order (omega (arith, c.loop-i-test.true, c.len-i-end.ensures)) c.at.ensures c.ops.ensures in
    let lt : c.loop-i.i + 1 < length c.args.segments.now = omega (arith, c.loop-i-test.true, c.len-i-end.ensures, c.if-next-len.false, c.len.ensures) in
    record {
      order = omega (arith, h.order);
      long = long;
      fits = c.if-len-most.false;
      bare = marks-bare-later c.args.segments.now (c.args.from + 1) (c.loop-i.i + 1) c.at-else-next-len.result (omega (arith, h.order)) lt c.at-else-next-len.ensures (sym c.is_marked.ensures ∙ c.if-is_marked.false) h.bare;
      part = elim c.if-len-ge-STRIDE.branch [
        | then-len-ge-STRIDE+then-is_anchored w ↦ rw w.last-is
            (record {
              order = omega (arith, h.order);
              within = omega (arith, lt);
              bare = h.bare;
              fits = omega (arith, long, c.if-len-most.false);
              many = λ more. omega (arith, long, w.if-len-ge-STRIDE.true);
            })
        | else-len-ge-STRIDE w ↦ rw w.last-is h.part
      ];
    }
