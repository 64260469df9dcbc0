use Rattle.std.proofs.Common.{◌+◌, ◌<◌, length, refl, sym, subst, ◌∙◌, arith}
use Rattle.std.specs.Prelude.{IsTrue}
use Rattle.std.proofs.Math.Seq.{take-length}
use mathlib.Core.Logic.{inl, inr}
use Rattle.std.specs.Ordering.{nat_cmp}
use Rattle.std.specs.BTreeSet.{contains}
use Rattle.std.specs.Arc.{arc_value}
use Rattle.trace_types.specs.Trace.{has_distinct_numbers}
use Rattle.ownership_model.specs.Step.{AreUnused}
use Rattle.run_engine.specs.Segments.{marks_from, IsPiece}
use Rattle.run_engine.specs.Memo.{IsAmong}
use Rattle.run_engine.proofs.PieceLemmas.{distinct-slice_range, unused-slice_range, IsReached-next, IsReached-bare, marks_from-bare, marks_from-piece}
use Rattle.run_engine.proofs.OnwardLemmas.{named-behind, IsWay-bare, IsWay-marked}
use Rattle.run_engine.proofs.replay.ahead.next_cut.Goals as goal

pub returns-in-Some-clause-taken : goal.returns-in-Some-clause-taken
returns-in-Some-clause-taken c = λ old marks.
    let there : IsAmong c.args.shelf.now.chunks c.args.prefix.end (arc_value c.args.next).items = rw (c.in-Some.is, c.deref-2.ensures.value, c.deref.ensures) at c.in_ok-known.ensures.there in
    inl (inr (subst (IsAmong c.args.shelf.now.chunks c.args.prefix.end) (sym (take-length (arc_value c.args.next).items)) there), refl)

pub replayed_on-requires-clause-distinct : goal.replayed_on-requires-clause-distinct
replayed_on-requires-clause-distinct c =
    subst (λ os. IsTrue (has_distinct_numbers os)) (sym c.requires.next) (distinct-slice_range c.args.ops.now.ops c.args.prefix.len _ c.requires.trace.distinct)

pub replayed_on-requires-clause-unused : goal.replayed_on-requires-clause-unused
replayed_on-requires-clause-unused c =
    subst (AreUnused c.args.prefix.end) (sym c.requires.next) (unused-slice_range c.args.ops.now.ops c.args.prefix.end c.args.prefix.len _ c.requires.trace.distinct c.requires.may.reached.state)

pub stepped-requires-clause-distinct : goal.stepped-requires-clause-distinct
stepped-requires-clause-distinct c =
    subst (λ os. IsTrue (has_distinct_numbers os)) (sym c.requires.next) (distinct-slice_range c.args.ops.now.ops c.args.prefix.len _ c.requires.trace.distinct)

pub stepped-requires-clause-unused : goal.stepped-requires-clause-unused
stepped-requires-clause-unused c =
    subst (AreUnused c.args.prefix.end) (sym c.requires.next) (unused-slice_range c.args.ops.now.ops c.args.prefix.end c.args.prefix.len _ c.requires.trace.distinct c.requires.may.reached.state)

pub returns-in-Some-clause-goes_ahead : goal.returns-in-Some-clause-goes_ahead
returns-in-Some-clause-goes_ahead c =
    let joined = c.in_ok-prefix.ensures in
    record {
      reached = rw (joined.segments, joined.end, joined.len)
          (IsReached-next c.args.ops.now.ops c.args.prefix.len (c.args.prefix.len + length (arc_value c.args.next).items) c.in-Some.piece.len c.args.prefix.segments c.in-Some.piece.segments c.args.prefix.end c.in-Some.piece.end
          c.requires.may.reached (omega arith) c.requires.may.within (subst (λ os. IsPiece c.args.prefix.end os c.in-Some.piece.segments c.in-Some.piece.end c.in-Some.piece.len) c.requires.next (rw (c.in-Some.is, c.deref-2.ensures.value, c.deref.ensures) at c.in_ok-known.ensures).piece));
      way = λ old. rw (joined.segments, joined.len, (rw (c.in-Some.is, c.deref-2.ensures.value, c.deref.ensures) at c.in_ok-known.ensures).whole)
          (IsWay-marked c.args.ops.now.ops old c.args.prefix.len (length (arc_value c.args.next).items) (marks_from 0 c.args.prefix.segments) _ (contains nat_cmp c.args.prefix.answered) c.requires.trace.distinct
          (record { some = c.requires.some; small = inl c.requires.small })
          (marks_from-piece c.args.ops.now.ops (arc_value c.args.next).items c.args.prefix.len c.in-Some.piece.len c.args.prefix.segments c.in-Some.piece.segments c.args.prefix.end c.in-Some.piece.end c.requires.may.reached (rw (c.in-Some.is, c.deref-2.ensures.value, c.deref.ensures) at c.in_ok-known.ensures).piece));
      answered = c.in_ok-prefix.ensures.answered;
    }

pub returns-then-is_among-clause-goes_ahead : goal.returns-then-is_among-clause-goes_ahead
returns-then-is_among-clause-goes_ahead c =
    let pos : 0 < c.args.prefix.len = named-behind c.args.ops.now.ops (contains nat_cmp c.args.prefix.answered) c.args.prefix.len c.inner_name.result c.inner_name.ensures (sym c.is_among.ensures ∙ c.if-is_among.true) in
    record {
      reached = rw (c.in_ok-prefix-2.ensures.end, c.in_ok-prefix-2.ensures.len)
          (IsReached-bare c.args.ops.now.ops (arc_value c.args.next).items c.args.prefix.len c.args.prefix.segments c.args.prefix.end c.anchor-anchor.result c.requires.may.reached pos c.requires.may.within c.requires.some c.anchor-anchor.ensures c.requires.next _ c.in_ok-prefix-2.ensures.segments);
      way = λ old. rw c.in_ok-prefix-2.ensures.len
          (IsWay-bare c.args.ops.now.ops old c.args.prefix.len (length (arc_value c.args.next).items) (marks_from 0 c.args.prefix.segments) _ (contains nat_cmp c.args.prefix.answered) c.inner_name.result c.requires.trace.distinct
          (record { some = c.requires.some; small = inl c.requires.small }) c.inner_name.ensures (sym c.is_among.ensures ∙ c.if-is_among.true) (marks_from-bare 0 c.args.prefix.segments _ c.args.prefix.end c.anchor-anchor.result (arc_value c.args.next).items c.in_ok-prefix-2.ensures.segments));
      answered = c.in_ok-prefix-2.ensures.answered;
    }

pub returns-then-is_among-clause-placed : goal.returns-then-is_among-clause-placed
returns-then-is_among-clause-placed c = c.in_ok-prefix-2.ensures.placed c.found.new.shelf.chunks

pub returns-clause-goes_ahead : goal.returns-clause-goes_ahead
returns-clause-goes_ahead c =
    let joined = c.in_ok-prefix-3.ensures in
    record {
      reached = rw (joined.segments, joined.end, joined.len)
          (IsReached-next c.args.ops.now.ops c.args.prefix.len (c.args.prefix.len + length (arc_value c.args.next).items) c.in_ok-piece.piece.len c.args.prefix.segments c.in_ok-piece.piece.segments c.args.prefix.end c.in_ok-piece.piece.end
          c.requires.may.reached (omega arith) c.requires.may.within (subst (λ os. IsPiece c.args.prefix.end os c.in_ok-piece.piece.segments c.in_ok-piece.piece.end c.in_ok-piece.piece.len) c.requires.next c.in_ok-piece.ensures.piece));
      way = λ old. rw (joined.segments, joined.len, c.in_ok-piece.ensures.whole)
          (IsWay-marked c.args.ops.now.ops old c.args.prefix.len (length (arc_value c.args.next).items) (marks_from 0 c.args.prefix.segments) _ (contains nat_cmp c.args.prefix.answered) c.requires.trace.distinct
          (record { some = c.requires.some; small = inl c.requires.small })
          (marks_from-piece c.args.ops.now.ops (arc_value c.args.next).items c.args.prefix.len c.in_ok-piece.piece.len c.args.prefix.segments c.in_ok-piece.piece.segments c.args.prefix.end c.in_ok-piece.piece.end c.requires.may.reached c.in_ok-piece.ensures.piece));
      answered = c.in_ok-prefix-3.ensures.answered;
    }
