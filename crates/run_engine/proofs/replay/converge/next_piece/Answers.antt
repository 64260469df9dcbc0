use Rattle.std.proofs.Common.{◌≡◌, ◌+◌, ◌-◌, length, take, drop, refl, sym, subst, arith}
use Rattle.std.specs.Prelude.{slice_range}
use Rattle.std.specs.Arc.{arc_value}
use mathlib.Core.Logic.{inl, inr}
use Rattle.run_engine.specs.Memo.{IsAmong}
use Rattle.run_engine.proofs.MemoLemmas.{IsSearched-none}
use Rattle.run_engine.proofs.GuessLemmas.{IsAmong-guess, IsAmong-chunk}
use Rattle.run_engine.proofs.PieceLemmas.{IsPiece-of-more, take-next, distinct-slice_range, unused-slice_range}
use Rattle.run_engine.proofs.replay.converge.next_piece.Goals as goal

pub stepped-requires-clause-distinct : goal.stepped-requires-clause-distinct
stepped-requires-clause-distinct c = rw c.in_ok-next.ensures (distinct-slice_range c.args.revision.now.ops.now.ops c.args.progress.now.prefix.len _ c.args.revision.now.holds.trace.distinct)

pub stepped-requires-clause-unused : goal.stepped-requires-clause-unused
stepped-requires-clause-unused c = rw c.in_ok-next.ensures (unused-slice_range c.args.revision.now.ops.now.ops c.args.progress.now.prefix.end c.args.progress.now.prefix.len _ c.args.revision.now.holds.trace.distinct c.requires.may.reached.state)

pub returns-in-Some-known-clause-taken : goal.returns-in-Some-known-clause-taken
returns-in-Some-known-clause-taken c =
    let there : IsAmong c.args.shelf.now.chunks c.args.progress.now.prefix.end (arc_value c.in_ok-next.next).items = rw (c.in-Some-known.is, c.deref-2.ensures.value, c.deref.ensures) at c.in_ok-known.ensures.there in
    let whole : c.in-Some-known.piece.len ≡ length (arc_value c.in_ok-next.next).items = rw (c.in-Some-known.is, c.deref-2.ensures.value, c.deref.ensures) at c.in_ok-known.ensures.whole in
    let first : take c.in-Some-known.piece.len (slice_range c.args.revision.now.ops.now.ops c.args.progress.now.prefix.len c.args.to) ≡ (arc_value c.in_ok-next.next).items =
    take-next c.args.revision.now.ops.now.ops (arc_value c.in_ok-next.next).items c.args.progress.now.prefix.len c.min-len.result c.args.to c.in-Some-known.piece.len c.in_ok-next.ensures whole (omega arith) c.requires.may.within in
    inl (inr (IsAmong-chunk c.args.revision.now.guesses.now c.args.shelf.now.chunks c.args.progress.now.prefix.end _ (subst (IsAmong c.args.shelf.now.chunks c.args.progress.now.prefix.end) (sym first) there)), refl)

pub returns-in-Some-known-clause-piece : goal.returns-in-Some-known-clause-piece
returns-in-Some-known-clause-piece c =
    let piece = rw (c.in-Some-known.is, c.deref-2.ensures.value, c.deref.ensures, c.in_ok-next.ensures) at c.in_ok-known.ensures.piece in
    IsPiece-of-more c.args.progress.now.prefix.end _ (drop c.args.progress.now.prefix.len c.args.revision.now.ops.now.ops) (c.args.progress.now.prefix.len + c.min-len.result - c.args.progress.now.prefix.len) (c.args.to - c.args.progress.now.prefix.len) _ _ (omega arith) piece

pub returns-in-Some-stretch-clause-taken : goal.returns-in-Some-stretch-clause-taken
returns-in-Some-stretch-clause-taken c = inl (inl (inl (rw c.in-Some-stretch.is at c.in_ok-stretch.ensures.stretch)), refl)

pub returns-in-Some-stretch-clause-next : goal.returns-in-Some-stretch-clause-next
returns-in-Some-stretch-clause-next c = rw c.in-Some-stretch.is at (c.in_ok-stretch.ensures.next c.found.new.shelf.chunks)

-- an old stretch that begins where both runs have one heap
pub returns-in-Some-same-clause-taken : goal.returns-in-Some-same-clause-taken
returns-in-Some-same-clause-taken c = inl (inl (inl (rw c.in-Some-same.is at c.in_ok-same.ensures.stretch)), refl)

pub returns-in-Some-same-clause-next : goal.returns-in-Some-same-clause-next
returns-in-Some-same-clause-next c = rw c.in-Some-same.is at (c.in_ok-same.ensures.next c.args.shelf.now.chunks)

pub returns-in-Some-same-clause-searched : goal.returns-in-Some-same-clause-searched
returns-in-Some-same-clause-searched c = IsSearched-none c.args.shelf.now

pub returns-clause-taken : goal.returns-clause-taken
returns-clause-taken c = inr c.in_ok-piece.ensures.count

pub returns-clause-piece : goal.returns-clause-piece
returns-clause-piece c =
    let piece = rw c.in_ok-next.ensures at c.in_ok-piece.ensures.piece in
    IsPiece-of-more c.args.progress.now.prefix.end _ (drop c.args.progress.now.prefix.len c.args.revision.now.ops.now.ops) (c.args.progress.now.prefix.len + c.min-len.result - c.args.progress.now.prefix.len) (c.args.to - c.args.progress.now.prefix.len) _ _ (omega arith) piece

-- a guess
pub returns-in-Some-clause-taken : goal.returns-in-Some-clause-taken
returns-in-Some-clause-taken c =
    inl (inr (IsAmong-guess c.args.revision.now.guesses.now c.args.shelf.now.chunks c.args.progress.now.prefix.end _ (rw c.in-Some.is at c.in_ok-guess.ensures.there)), refl)

pub returns-in-Some-clause-next : goal.returns-in-Some-clause-next
returns-in-Some-clause-next c = rw c.in-Some.is at (c.in_ok-guess.ensures.next c.args.shelf.now.chunks)

pub returns-in-Some-clause-gap : goal.returns-in-Some-clause-gap
returns-in-Some-clause-gap c =
    let piece = rw c.in-Some.is at c.in_ok-guess.ensures.piece in
    record { some = piece.some; small = inr (inr (rw c.in-Some.is at c.in_ok-guess.ensures.gap)) }

pub returns-in-Some-clause-searched : goal.returns-in-Some-clause-searched
returns-in-Some-clause-searched c = IsSearched-none c.args.shelf.now
