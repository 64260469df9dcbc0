use Rattle.std.proofs.Common.{◌∙◌, sym}
use Rattle.run_engine.proofs.PieceLemmas.{IsReached-next}
use Rattle.run_engine.proofs.replay.converge.next_stretch.Goals as goal

pub returns-clause-fork : goal.returns-clause-fork
returns-clause-fork c =
    let piece = rw c.in-Some.is at c.in_ok-stretch.ensures.piece in
    sym (IsReached-next c.args.revision.now.ops.now.ops c.args.progress.now.prefix.len c.args.to c.in-Some.piece.len c.args.progress.now.prefix.segments c.in-Some.piece.segments c.args.progress.now.prefix.end c.in-Some.piece.end
    c.requires.may.reached c.requires.may.order c.requires.may.within piece).state
    ∙ rw c.in-Some.is at c.in_ok-stretch.ensures.base

pub returns-clause-next : goal.returns-clause-next
returns-clause-next c = λ chunks. rw c.in-Some.is at (c.in_ok-stretch.ensures.next chunks)
