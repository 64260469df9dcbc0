-- A replay that goes on by old stretches that are taken over, one behind the other.
use Rattle.std.proofs.Common.{◌≡◌, ℕ, ◌+◌, ◌-◌, ◌≤◌, List, [], ◌∷◌, ◌++◌, length, take, drop, refl, ap, sym, subst, ◌∙◌, arith, length-append, length-drop}
use Rattle.std.specs.Prelude.{Bool, IsTrue, slice_range}
use mathlib.Core.Logic.{inl, inr}
use Rattle.std.proofs.lemmas.List.{append-nil, append_assoc, drop-drop}
use Rattle.std.specs.Ordering.{nat_cmp}
use Rattle.std.specs.BTreeSet.{contains}
use Rattle.trace_types.specs.Operation.{Operation}
use Rattle.trace_types.specs.Trace.{has_distinct_numbers}
use Rattle.ownership_model.specs.State.{State, nothing_held}
use Rattle.ownership_model.specs.Step.{end_from}
use Rattle.ownership_model.proofs.LawsHold.{appends}
use Rattle.mark_shelf.specs.Shelf.{Shelf}
use Rattle.op_step.specs.Chunk.{Chunk}
use Rattle.run_engine.specs.declared.replay.prefix.Prefix.{Prefix}
use Rattle.run_engine.specs.SegmentView.{SegmentView}
use Rattle.agreement.specs.Agreement.{Agree}
use Rattle.run_engine.specs.declared.replay.prefix.NextStretch.{NextStretch}
use Rattle.run_engine.specs.Segments.{ops_of, trace_of, marks_from, IsReached, IsKept, IsPiece}
use Rattle.run_engine.specs.GivenUp.{names_at}
use Rattle.run_engine.specs.NewMarks.{IsFirstPart, IsPart, IsGap}
use Rattle.run_engine.specs.Steps.{IsUntouchedStretch, AreTaken, HaveSteppedOn}
use Rattle.run_engine.specs.Guesses.{Reusable, with_guesses}
use Rattle.run_engine.specs.inner.GoesOn.{GoesOn}
use Rattle.run_engine.specs.inner.Onward.{begins, AreAnswered, IsWay}
use Rattle.run_engine.specs.inner.Untouched.{IsTakenOver, AreTakenOver, AreNext, IsPast}
use Rattle.run_engine.proofs.OnwardLemmas.{IsWay-none, IsWay-marked, IsWay-next}
use Rattle.run_engine.proofs.PieceLemmas.{take-rest, marks_from-piece}
use Rattle.run_engine.proofs.PlaceLemmas.{trace_of-prefix, trace_of-back}
use Rattle.run_engine.proofs.ConvergeLemmas.{IsReached-rest, trace_of-more, IsPast-apart, over-end, over-far}
use Rattle.run_engine.proofs.SteppedLemmas.{HaveStepped-next}

-- a part of an old stretch is as long as a first part of it
part-gap : (marks : List ℕ) (at len : ℕ) → IsPart marks at len → IsFirstPart marks len
part-gap marks at len h = record {
  long = h.long;
  neighbours = h.neighbours;
  within = let b = h.begins in let e = h.ends in omega arith;
  enough = h.enough;
}

-- a replay that stood behind some segments went on by others, whose names are touched: no operation is stepped
record IsOver (old ops : List Operation) (known : Reusable) (at : ℕ) (segments more : List SegmentView) (heap : State) : Type 0 where
  pub reached : IsReached ops (at + length (trace_of more)) (segments ++ more) (end_from heap (trace_of more))
  pub way : (gone : ℕ → Bool) → IsWay ops known at (at + length (trace_of more)) (begins at more) (marks_from 0 segments) (marks_from 0 (segments ++ more)) gone
  pub stepped : (chunks : List (ℕ × Chunk)) (count : ℕ) → HaveSteppedOn old ops known.marks chunks at (at + length (trace_of more)) count count

over-none : (old ops : List Operation) (known : Reusable) (at : ℕ) (segments : List SegmentView) (heap : State) → IsReached ops at segments heap → IsOver old ops known at segments [] heap
over-none old ops known at segments heap reached =
    let here : at ≡ at + 0 = omega arith in
    let same : segments ≡ segments ++ [] = sym (append-nil segments) in
    record {
      reached = subst (λ n. IsReached ops n (segments ++ []) heap) here (subst (λ ss. IsReached ops at ss heap) same reached);
      way = λ gone. subst (λ n. IsWay ops known at n [] (marks_from 0 segments) (marks_from 0 (segments ++ [])) gone) here
          (subst (λ ss. IsWay ops known at at [] (marks_from 0 segments) (marks_from 0 ss) gone) same (IsWay-none ops known at (marks_from 0 segments) gone));
      stepped = λ chunks count. subst (λ n. HaveSteppedOn old ops known.marks chunks at n count count) here (λ r start all h some. h);
    }

-- one stretch, or a part of one
over-part : (old ops : List Operation) (known : Reusable) (at len : ℕ) (heap : State) → heap ≡ end_from nothing_held (take at ops) → len ≤ length (drop at ops) → IsUntouchedStretch old known.marks heap (drop at ops) len
    → (chunks : List (ℕ × Chunk)) (count : ℕ) → HaveSteppedOn old ops known.marks chunks at (at + len) count count
over-part old ops known at len heap here fits stretch chunks count =
    let all : slice_range ops at (length ops) ≡ drop at ops = take-rest at ops in
    let long : len ≤ length ops - at = omega (arith, fits, length-drop at ops) in
    let known_so : AreTaken old known.marks chunks heap (slice_range ops at (length ops)) len count count =
    inl (inl (inr (subst (λ os. IsUntouchedStretch old known.marks heap os len) (sym all) stretch)), refl) in
    λ r start more h some. HaveStepped-next old ops known.marks chunks more heap r at (length ops) len start count count here long some known_so h

over-one : (old ops : List Operation) (known : Reusable) (at : ℕ) (segments : List SegmentView) (heap : State) (s : SegmentView) → IsReached ops at segments heap → IsTakenOver old known.marks heap (drop at ops) s
    → (chunks : List (ℕ × Chunk)) (count : ℕ) → HaveSteppedOn old ops known.marks chunks at (at + length (ops_of s)) count count
over-one old ops known at segments heap s reached taken chunks count = over-part old ops known at (length (ops_of s)) heap reached.state taken.piece.fits taken.stretch chunks count

over-next : (old ops : List Operation) (known : Reusable) (at : ℕ) (segments more : List SegmentView) (heap : State) (s : SegmentView) → IsTrue (has_distinct_numbers ops) → IsReached ops at segments heap
    → IsTakenOver old known.marks heap (drop at ops) s → IsOver old ops known (at + length (ops_of s)) (segments ++ s ∷ []) more (end_from heap (ops_of s)) → IsOver old ops known at segments (s ∷ more) heap
over-next old ops known at segments more heap s distinct reached taken rest =
    let mid : ℕ = at + length (ops_of s) in
    let there : mid + length (trace_of more) ≡ at + length (trace_of (s ∷ more)) = omega (arith, length-append (ops_of s) (trace_of more)) in
    let parts : (segments ++ s ∷ []) ++ more ≡ segments ++ s ∷ more = append_assoc segments (s ∷ []) more in
    let end : end_from (end_from heap (ops_of s)) (trace_of more) ≡ end_from heap (trace_of (s ∷ more)) = sym (appends.end heap (ops_of s) (trace_of more)) in
    let gap : IsGap known (length (ops_of s)) = record { some = taken.piece.some; small = inr (inl (part-gap known.marks taken.stretch.at (length (ops_of s)) taken.stretch.place)) } in
    let marks : marks_from 0 (segments ++ s ∷ []) ≡ marks_from 0 segments ++ at ∷ [] = marks_from-piece ops (drop at ops) at (length (ops_of s)) segments (s ∷ []) heap (end_from heap (ops_of s)) reached taken.piece in
    record {
      reached = subst (λ n. IsReached ops n (segments ++ s ∷ more) (end_from heap (trace_of (s ∷ more)))) there
          (subst (λ ss. IsReached ops (mid + length (trace_of more)) ss (end_from heap (trace_of (s ∷ more)))) parts (subst (IsReached ops (mid + length (trace_of more)) ((segments ++ s ∷ []) ++ more)) end rest.reached));
      way = λ gone. subst (λ n. IsWay ops known at n (at ∷ begins mid more) (marks_from 0 segments) (marks_from 0 (segments ++ s ∷ more)) gone) there
          (subst (λ ss. IsWay ops known at (mid + length (trace_of more)) (at ∷ begins mid more) (marks_from 0 segments) (marks_from 0 ss) gone) parts
          (IsWay-next ops known at mid (mid + length (trace_of more)) (at ∷ []) (begins mid more) (marks_from 0 segments) (marks_from 0 (segments ++ s ∷ [])) (marks_from 0 ((segments ++ s ∷ []) ++ more)) gone gone (λ id t. t)
          (IsWay-marked ops known at (length (ops_of s)) (marks_from 0 segments) (marks_from 0 (segments ++ s ∷ [])) gone distinct gap marks) (rest.way gone)));
      stepped = λ chunks count. subst (λ n. HaveSteppedOn old ops known.marks chunks at n count count) there
          (λ r start all h some. rest.stepped chunks count r start all (over-one old ops known at segments heap s reached taken chunks count r start all h some) some);
    }

over : (old ops : List Operation) (known : Reusable) (at : ℕ) (segments more : List SegmentView) (heap : State) → IsTrue (has_distinct_numbers ops) → IsReached ops at segments heap → AreTakenOver old known.marks heap (drop at ops) more
    → IsOver old ops known at segments more heap
over old ops known at segments [] heap distinct reached taken = over-none old ops known at segments heap reached
over old ops known at segments (s ∷ more) heap distinct reached taken =
    over-next old ops known at segments more heap s distinct reached taken.0
    (over old ops known (at + length (ops_of s)) (segments ++ s ∷ []) more (end_from heap (ops_of s)) distinct
    (IsReached-rest ops at (length (ops_of s)) segments (s ∷ []) heap (end_from heap (ops_of s)) reached taken.0.piece)
    (subst (λ os. AreTakenOver old known.marks (end_from heap (ops_of s)) os more) (drop-drop (length (ops_of s)) at ops) taken.1))

-- where the names are touched, too, the replay has gone on
pub GoesOn-over : (old ops : List Operation) (known : Reusable) (prefix next : Prefix) (more : List SegmentView) (shelf after : Shelf) (count : ℕ) → IsTrue (has_distinct_numbers ops)
    → IsReached ops prefix.len prefix.segments prefix.end → AreTakenOver old known.marks prefix.end (drop prefix.len ops) more
    → AreAnswered shelf after (names_at ops (begins prefix.len more)) (contains nat_cmp prefix.answered) (contains nat_cmp next.answered)
    → next.segments ≡ prefix.segments ++ more → next.end ≡ end_from prefix.end (trace_of more) → next.len ≡ prefix.len + length (trace_of more) → GoesOn old ops known prefix next shelf after count count
GoesOn-over old ops known prefix next more shelf after count distinct reached taken answered segments_are end_is len_is =
    let whole : IsOver old ops known prefix.len prefix.segments more prefix.end = over old ops known prefix.len prefix.segments more prefix.end distinct reached taken in
    record {
      reached = rw (segments_are, end_is, len_is) whole.reached;
      onward = rw (segments_are, len_is) (record { more = begins prefix.len more; way = whole.way (contains nat_cmp next.answered); answered = answered });
      stepped = rw len_is (whole.stepped (with_guesses known.guesses shelf.chunks) count);
    }

-- the same of a part of an old stretch
pub GoesOn-part : (old ops : List Operation) (known : Reusable) (prefix next : Prefix) (more : NextStretch) (shelf after : Shelf) (count : ℕ) → IsTrue (has_distinct_numbers ops)
    → IsReached ops prefix.len prefix.segments prefix.end → IsUntouchedStretch old known.marks prefix.end (drop prefix.len ops) more.len → IsPiece prefix.end (drop prefix.len ops) more.segments more.end more.len
    → AreAnswered shelf after (names_at ops (prefix.len ∷ [])) (contains nat_cmp prefix.answered) (contains nat_cmp next.answered)
    → next.segments ≡ prefix.segments ++ more.segments → next.end ≡ more.end → next.len ≡ prefix.len + more.len → GoesOn old ops known prefix next shelf after count count
GoesOn-part old ops known prefix next more shelf after count distinct reached stretch piece answered segments_are end_is len_is =
    let gap : IsGap known more.len = record { some = piece.some; small = inr (inl (part-gap known.marks stretch.at more.len stretch.place)) } in
    let marks : marks_from 0 (prefix.segments ++ more.segments) ≡ marks_from 0 prefix.segments ++ prefix.len ∷ [] = marks_from-piece ops (drop prefix.len ops) prefix.len more.len prefix.segments more.segments prefix.end more.end reached piece in
    record {
      reached = rw (segments_are, end_is, len_is) (IsReached-rest ops prefix.len more.len prefix.segments more.segments prefix.end more.end reached piece);
      onward = rw (segments_are, len_is)
          (record {
            more = prefix.len ∷ [];
            way = IsWay-marked ops known prefix.len more.len (marks_from 0 prefix.segments) (marks_from 0 (prefix.segments ++ more.segments)) (contains nat_cmp next.answered) distinct gap marks;
            answered = answered;
          });
      stepped = rw len_is (over-part old ops known prefix.len more.len prefix.end reached.state piece.fits stretch (with_guesses known.guesses shelf.chunks) count);
    }

-- it agrees with the old run at no checkpoint between
pub IsPast-next : (old : List SegmentView) (last : State) (ops : List Operation) (index at from : ℕ) (start : State) (next : NextStretch) → IsKept old last → IsTrue (has_distinct_numbers ops) → length (trace_of (take index old)) ≡ at
    → start ≡ end_from nothing_held (take from ops) → trace_of (drop index old) ≡ drop from ops → AreNext old index start next → IsPast (trace_of old) ops at (length (trace_of (take (index + 1) old))) from (from + next.len)
IsPast-next old last ops index at from start next kept distinct place here shared h = by next.segments refl
  where
    by : (segments : List SegmentView) → next.segments ≡ segments → IsPast (trace_of old) ops at (length (trace_of (take (index + 1) old))) from (from + next.len)
    by [] is = absurd (let none : length next.segments ≡ 0 = ap length is in omega (arith, none, h.some))
    by (s ∷ []) is = λ p there passed agrees.
        let one : length next.segments ≡ 1 = ap length is in
        let far : length (trace_of (take (index + length next.segments) old)) ≡ at + length (trace_of next.segments) = over-far old index (length next.segments) at (trace_of next.segments) place h.trace in
        let first : length (trace_of (take (index + 1) old)) ≡ at + length (trace_of next.segments) = ap (λ n. length (trace_of (take (index + n) old))) (sym one) ∙ far in
        absurd (omega (arith, first, there, passed, h.len_is))
    by (s ∷ t ∷ more) is =
        let many : length next.segments ≡ length (s ∷ t ∷ more) = ap length is in
        let far : length (trace_of (take (index + length next.segments) old)) ≡ at + length (trace_of next.segments) = over-far old index (length next.segments) at (trace_of next.segments) place h.trace in
        let far-len : length (trace_of (take (index + length next.segments) old)) ≡ at + next.len = far ∙ ap (λ n. at + n) (sym h.len_is) in
        let order : at ≤ length (trace_of (take (index + 1) old)) = omega (arith, place, trace_of-more old index) in
        let end : next.end ≡ end_from nothing_held (take (from + next.len) ops) = over-end ops (trace_of next.segments) (trace_of (drop (index + length next.segments) old)) from next.len start next.end here (sym shared ∙ h.trace) h.end_is h.len_is in
        let behind : end_from nothing_held (trace_of (take (index + length next.segments) old)) ≡ end_from nothing_held (take (at + next.len) (trace_of old)) =
        ap (end_from nothing_held) (trace_of-prefix old (index + length next.segments) (at + next.len) far-len) in
        IsPast-apart (trace_of old) ops at (length (trace_of (take (index + 1) old))) from next.len order kept.trace.distinct distinct (sym (trace_of-back old index at place) ∙ shared)
        (λ agree. h.apart (omega (arith, many)) (subst (λ m. Agree m (end_from nothing_held (trace_of (take (index + length next.segments) old)))) (sym end)
        (subst (Agree (end_from nothing_held (take (from + next.len) ops))) (sym behind) agree)))
