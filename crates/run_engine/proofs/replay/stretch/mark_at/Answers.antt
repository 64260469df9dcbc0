use Rattle.std.proofs.Common.{◌<◌, length, drop, subst, sym, arith, ◌∙◌}
use Rattle.std.specs.Prelude.{IfSome}
use Rattle.run_engine.specs.Segments.{BeginsMarked}
use Rattle.run_engine.proofs.PieceLemmas.{mark-is}
use Rattle.run_engine.proofs.MarksLemmas.{IfSome-begins}
use Rattle.run_engine.proofs.replay.stretch.mark_at.Goals as goal

pub returns-in_ok-heap-in-Some-clause-heap : goal.returns-in_ok-heap-in-Some-clause-heap
returns-in_ok-heap-in-Some-clause-heap c =
    let lt : c.args.j < length c.args.segments.now = omega (arith, c.requires.within, c.if-j-len.false, c.len.ensures) in
    c.in_ok-heap-in-Some.ensures ∙ mark-is c.args.segments.now c.args.j c.at.result c.in-Some.mark c.requires.run.replay lt c.at.ensures c.in-Some.ensures

pub returns-in_ok-heap-in-Some-clause-kept : goal.returns-in_ok-heap-in-Some-clause-kept
returns-in_ok-heap-in-Some-clause-kept c =
    let lt : c.args.j < length c.args.segments.now = omega (arith, c.requires.within, c.if-j-len.false, c.len.ensures) in
    subst (λ o. IfSome o (λ _. BeginsMarked (drop c.args.j c.args.segments.now))) (sym c.in-Some.ensures) (IfSome-begins c.args.segments.now c.args.j c.at.result lt c.at.ensures)
