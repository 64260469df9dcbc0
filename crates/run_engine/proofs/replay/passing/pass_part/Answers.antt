use Rattle.std.proofs.Common.{List, sym, subst}
use Rattle.trace_types.specs.Operation.{Operation}
use Rattle.run_engine.specs.Segments.{trace_of, all_marks, IsPiece}
use Rattle.run_engine.specs.Steps.{IsUntouchedStretch}
use Rattle.run_engine.specs.inner.OldRun.{reusable}
use Rattle.run_engine.specs.inner.Origins.{stepped_chunk}
use Rattle.run_engine.specs.inner.Untouched.{PassesNone}
use Rattle.run_engine.proofs.FreshLemmas.{begins-there}
use Rattle.run_engine.proofs.GoesOnLemmas.{GoesOn-none}
use Rattle.run_engine.proofs.OverLemmas.{GoesOn-part}
use Rattle.run_engine.proofs.replay.passing.pass_part.Goals as goal

-- the replay stays where it stands
pub returns-in_default-clause-beside : goal.returns-in_default-clause-beside
returns-in_default-clause-beside c = λ count.
    GoesOn-none (trace_of c.args.revision.now.segments.now) c.args.revision.now.ops.now.ops (reusable c.args.revision.now) c.args.progress.prefix c.args.shelf.now count c.requires.prefix

-- it goes on
pub joined-requires-clause-behind : goal.joined-requires-clause-behind
joined-requires-clause-behind c = λ last.
    begins-there (stepped_chunk c.in-Some.piece.origin) c.args.progress.prefix.fresh c.args.progress.prefix.end (rw c.in-Some.is at (c.in_ok-next.ensures.origin c.args.shelf.now.chunks)).start_is (c.requires.placed.fresh last)

pub returns-clause-beside : goal.returns-clause-beside
returns-clause-beside c = λ count.
    let joined = c.in_ok-prefix.ensures in
    let next = rw c.in-Some.is at c.in_ok-next.ensures.next in
    GoesOn-part (trace_of c.args.revision.now.segments.now) c.args.revision.now.ops.now.ops (reusable c.args.revision.now) c.args.progress.prefix c.in_ok-prefix.prefix c.in-Some.piece
    c.args.shelf.now c.touch_at.new.shelf count c.args.revision.now.holds.trace.distinct c.requires.prefix
    (subst (λ (ops : List Operation). IsUntouchedStretch (trace_of c.args.revision.now.segments.now) (all_marks c.args.revision.now.segments.now) c.args.progress.prefix.end ops c.in-Some.piece.len) c.requires.shared next.stretch)
    (subst (λ (ops : List Operation). IsPiece c.args.progress.prefix.end ops c.in-Some.piece.segments c.in-Some.piece.end c.in-Some.piece.len) c.requires.shared next.piece)
    (rw joined.answered c.in_ok-touch_at.ensures.answered) joined.segments joined.end joined.len

pub returns-clause-placed : goal.returns-clause-placed
returns-clause-placed c = c.in_ok-prefix.ensures.placed c.touch_at.new.shelf.chunks (rw c.in-Some.is at (c.in_ok-next.ensures.origin c.touch_at.new.shelf.chunks))

pub returns-clause-past : goal.returns-clause-past
returns-clause-past c =
    let next = rw c.in-Some.is at c.in_ok-next.ensures.next in
    subst (PassesNone (all_marks c.args.revision.now.segments.now) c.args.old.now.at c.args.progress.prefix.len) (sym c.in_ok-prefix.ensures.len) (next.none c.args.old.now.at c.args.progress.prefix.len c.requires.place)
