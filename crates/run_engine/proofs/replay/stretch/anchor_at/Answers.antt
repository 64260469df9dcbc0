use Rattle.std.proofs.Common.{◌<◌, length, arith, ◌∙◌}
use Rattle.run_engine.proofs.PieceLemmas.{anchor-is}
use Rattle.run_engine.proofs.replay.stretch.anchor_at.Goals as goal

pub returns-in_ok-heap-in-Some : goal.returns-in_ok-heap-in-Some
returns-in_ok-heap-in-Some c =
    let lt : c.args.j < length c.args.segments.now = omega (arith, c.if-j-len.false, c.len.ensures) in
    c.in_ok-heap-in-Some.ensures ∙ anchor-is c.args.segments.now c.args.j c.at.result c.in-Some.anchor c.requires lt c.at.ensures c.in-Some.ensures
