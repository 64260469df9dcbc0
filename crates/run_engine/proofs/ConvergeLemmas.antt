-- A replay that goes on beside an old one.
use Rattle.std.proofs.Common.{◌≡◌, ℕ, ◌+◌, ◌-◌, ◌<◌, ◌≤◌, suc, zero, List, [], ◌∷◌, ◌++◌, length, take, drop, get_or, true, false, refl, ap, sym, subst, ◌∙◌, arith, append_assoc, length-append, length-drop, take-append-drop}
use Rattle.std.specs.Prelude.{Some, None, Option, is_some, IsTrue, Contains}
use mathlib.Core.Logic.{⊎_elim}
use Rattle.std.proofs.lemmas.List.{drop-drop}
use Rattle.std.proofs.lemmas.List.Elements.{Contains-append_cases}
use Rattle.std.proofs.Math.Seq.{take-add, take-append_seam, take-length}
use Rattle.ownership_model.specs.State.{State, IsSound, nothing_held}
use Rattle.trace_types.specs.Operation.{Operation}
use Rattle.run_engine.specs.SegmentView.{SegmentView}
use Rattle.trace_types.specs.Trace.{has_distinct_numbers}
use Rattle.ownership_model.specs.Step.{end_from, AreUnused}
use Rattle.run_engine.specs.Segments.{ops_of, trace_of, mark_here, marks_from, AreReplayFrom, AreFull, BeginsMarked, IsRunFrom, IsRun, IsReached, IsPiece, all_marks}
use Rattle.run_engine.specs.inner.Untouched.{IsPast, IsPastMarks, PassesNone}
use Rattle.run_engine.specs.HeadAndTail.{ShareEnd}
use Rattle.run_engine.specs.Bounds.{AgreesAt, StepsAtMost}
use Rattle.ownership_model.proofs.LawsHold.{appends, soundness, agreement_stays}
use Rattle.agreement.specs.Agreement.{Agree}
use Rattle.heap_difference.specs.declared.key_set.KeySet.{KeySet}
use Rattle.heap_difference.specs.Differences.{IsDifference}
use Rattle.run_engine.specs.declared.replay.revision.Revision.{Revision}
use Rattle.run_engine.specs.inner.OldRun.{old_trace, new_trace}
use Rattle.run_engine.specs.inner.Difference.{DifferAt}
use Rattle.run_engine.proofs.SegmentLemmas.{trace_of-append, marks_from-append, AreReplayFrom-append, AreReplayFrom-back, length-trace_of-next}
use Rattle.run_engine.proofs.ListingLemmas.{around}
use Rattle.run_engine.proofs.PieceLemmas.{AreFull-append, AreFull-prefix, AreFull-back, BeginsMarked-append, IsReached-next, mark-is, take-rest, unused-behind}
use Rattle.run_engine.proofs.PlaceLemmas.{Contains-one, mark-there, mark_here-place, mark_here-some, marks_from-least, trace_of-parted, trace_of-back, place-within, marks_from-below}

pub ShareEnd-length : (old ops : List Operation) (a b : ℕ) → ShareEnd old ops a b → length old - a ≡ length ops - b
ShareEnd-length old ops a b h = sym (length-drop a old) ∙ ap length h.same ∙ length-drop b ops

-- a loop over the old segments: it stands at the one at i, which begins at `at`; the replay of the edited trace stands at x. Where it has passed
-- `at`, the states agree at no old checkpoint up to there
pub record IsBeside (old : List SegmentView) (ops : List Operation) (a b r before i at x : ℕ) (segments : List SegmentView) (heap : State) (count : ℕ) : Type 0 where
  pub place : length (trace_of (take i old)) ≡ at
  pub prefix : IsReached ops x segments heap
  pub ahead : (p : ℕ) → Contains (all_marks old) p → at ≤ p → p - a + b < x → AgreesAt (trace_of old) ops a b p → ⊥
  pub rise : count + r ≤ before + x
  pub later : (p : ℕ) → Contains (all_marks old) p → a ≤ p → AgreesAt (trace_of old) ops a b p → Contains (marks_from at (drop i old) ++ length (trace_of old) ∷ []) p

pub IsBeside-next : (old : List SegmentView) (ops : List Operation) (a b r before i at x : ℕ) (segments : List SegmentView) (heap : State) (count y : ℕ) (next : List SegmentView) (then : State) (counted : ℕ) (s : SegmentView)
    → IsBeside old ops a b r before i at x segments heap count → i < length old → s ≡ get_or old i s
    → IsReached ops y next then → ((p : ℕ) → Contains (all_marks old) p → at + length s.ops ≤ p → p - a + b < y → AgreesAt (trace_of old) ops a b p → ⊥) → counted + r ≤ before + y
    → (is_some s.mark ≡ true → a ≤ at → AgreesAt (trace_of old) ops a b at → ⊥)
    → IsBeside old ops a b r before (i + 1) (at + length s.ops) y next then counted
IsBeside-next old ops a b r before i at x segments heap count y next then counted s h lt is prefix ahead rise differs =
    let n : ℕ = length (trace_of old) in
    let rest : List ℕ = marks_from (at + length s.ops) (drop (i + 1) old) ++ n ∷ [] in
    let list : marks_from at (drop i old) ++ n ∷ [] ≡ mark_here at s.mark ++ rest =
    ap (λ ss. marks_from at ss ++ n ∷ []) (around old i s lt is) ∙ append_assoc (mark_here at s.mark) (marks_from (at + length s.ops) (drop (i + 1) old)) (n ∷ []) in
    record {
      place = length-trace_of-next old i s lt is ∙ ap (λ m. m + length s.ops) h.place;
      prefix = prefix;
      ahead = ahead;
      rise = rise;
      later = λ p mark behind agrees. ⊎_elim
          (λ here.
          let e : p ≡ at = mark_here-place at p s.mark here in
          absurd (differs (mark_here-some at p s.mark here) (subst (λ q. a ≤ q) e behind) (subst (λ q. AgreesAt (trace_of old) ops a b q) e agrees)))
          (λ later. later)
          (Contains-append_cases (mark_here at s.mark) rest p (subst (λ ps. Contains ps p) list (h.later p mark behind agrees)));
    }

-- the replay stays where it stands
pub IsBeside-stays : (old : List SegmentView) (ops : List Operation) (a b r before i at x : ℕ) (segments : List SegmentView) (heap : State) (count : ℕ) (s : SegmentView) → IsBeside old ops a b r before i at x segments heap count
    → i < length old → s ≡ get_or old i s → (is_some s.mark ≡ true → a ≤ at → AgreesAt (trace_of old) ops a b at → ⊥) → IsBeside old ops a b r before (i + 1) (at + length s.ops) x segments heap count
IsBeside-stays old ops a b r before i at x segments heap count s h lt is differs =
    IsBeside-next old ops a b r before i at x segments heap count x segments heap count s h lt is h.prefix (λ p mark later passed agrees. h.ahead p mark (omega (arith, later)) passed agrees) h.rise differs

-- no checkpoint that agrees stands before the loop
pub least-agreeing : (old : List SegmentView) (ops : List Operation) (a b r before i at x : ℕ) (segments : List SegmentView) (heap : State) (count : ℕ)
    → IsBeside old ops a b r before i at x segments heap count → (p : ℕ) → Contains (all_marks old) p → a ≤ p → AgreesAt (trace_of old) ops a b p → at ≤ p
least-agreeing old ops a b r before i at x segments heap count h p mark le agrees =
    let n : ℕ = length (trace_of old) in
    let fits : at ≤ n = place-within old i at h.place in
    ⊎_elim (λ k. marks_from-least at (drop i old) p k) (λ k. let e : n ≡ p = Contains-one n p k in omega arith) (Contains-append_cases (marks_from at (drop i old)) (n ∷ []) p (h.later p mark le agrees))

-- no more is stepped than the bound allows
pub bounded : (old : List SegmentView) (ops : List Operation) (a b r before i at x : ℕ) (segments : List SegmentView) (heap : State) (count counted : ℕ)
    → IsBeside old ops a b r before i at x segments heap count → ShareEnd (trace_of old) ops a b → a ≤ at → counted + r ≤ before + (at - a + b)
    → StepsAtMost (trace_of old) ops a b (all_marks old) r before counted
bounded old ops a b r before i at x segments heap count counted h shared behind rise =
    let n : ℕ = length (trace_of old) in
    let fits : at ≤ n = place-within old i at h.place in
    let long = ShareEnd-length (trace_of old) ops a b shared in
    record {
      whole = omega (arith, shared.old_within, shared.within);
      stop = λ p mark le agrees. let least : at ≤ p = least-agreeing old ops a b r before i at x segments heap count h p mark le agrees in omega arith;
    }

-- the rest of the old run, from the checkpoint of the segment i on
pub IsRunFrom-back : (old : List SegmentView) (end mark : State) (i : ℕ) (s : SegmentView) → IsRun old end → i < length old → s ≡ get_or old i s → Some mark ≡ s.mark → IsRunFrom mark (drop i old) end
IsRunFrom-back old end mark i s run lt is marked =
    let m : mark ≡ end_from nothing_held (trace_of (take i old)) = mark-is old i s mark run.replay lt is marked in
    let parts : take i old ++ drop i old ≡ old = take-append-drop i old in
    record {
      replay = subst (λ n. AreReplayFrom n (drop i old)) (sym m) (AreReplayFrom-back nothing_held (take i old) (drop i old) (subst (AreReplayFrom nothing_held) (sym parts) run.replay));
      full = AreFull-back (take i old) (drop i old) (subst AreFull (sym parts) run.full);
      begins = subst BeginsMarked (sym (around old i s lt is)) (ap is_some (sym marked));
      state = run.state ∙ ap (end_from nothing_held) (sym (trace_of-parted old i)) ∙ appends.end nothing_held (trace_of (take i old)) (trace_of (drop i old)) ∙ ap (λ n. end_from n (trace_of (drop i old))) (sym m);
    }

-- the edited trace ends with the operations of that rest
pub rest-shared : (old : List SegmentView) (ops : List Operation) (a b i at : ℕ) → ShareEnd (trace_of old) ops a b → length (trace_of (take i old)) ≡ at → a ≤ at → trace_of (drop i old) ≡ drop (at - a + b) ops
rest-shared old ops a b i at shared place behind =
    let over : a + (at - a) ≡ at = omega arith in
    let across : b + (at - a) ≡ at - a + b = omega arith in
    trace_of-back old i at place ∙ ap (λ n. drop n (trace_of old)) (sym over) ∙ sym (drop-drop (at - a) a (trace_of old)) ∙ ap (drop (at - a)) shared.same ∙ drop-drop (at - a) b ops ∙ ap (λ n. drop n ops) across

distinct-parted : (old : List SegmentView) (i : ℕ) → IsTrue (has_distinct_numbers (trace_of old)) → IsTrue (has_distinct_numbers (trace_of (take i old) ++ trace_of (drop i old)))
distinct-parted old i distinct = subst (λ ops. IsTrue (has_distinct_numbers ops)) (sym (trace_of-parted old i)) distinct

pub distinct-back : (old : List SegmentView) (i : ℕ) → IsTrue (has_distinct_numbers (trace_of old)) → IsTrue (has_distinct_numbers (trace_of (drop i old)))
distinct-back old i distinct = appends.distinct_rest (trace_of (take i old)) (trace_of (drop i old)) (distinct-parted old i distinct)

-- those of the rest of the old run are unused at its checkpoint, and where the new replay goes on
pub old-unused : (old : List SegmentView) (end mark : State) (i : ℕ) (s : SegmentView) → IsRun old end → IsTrue (has_distinct_numbers (trace_of old)) → i < length old → s ≡ get_or old i s → Some mark ≡ s.mark
    → AreUnused mark (trace_of (drop i old))
old-unused old end mark i s run distinct lt is marked =
    subst (λ m. AreUnused m (trace_of (drop i old))) (sym (mark-is old i s mark run.replay lt is marked)) (unused-behind (trace_of (take i old)) (trace_of (drop i old)) (distinct-parted old i distinct))

pub new-unused : (ops : List Operation) (x : ℕ) (segments rest : List SegmentView) (heap : State) → IsReached ops x segments heap → IsTrue (has_distinct_numbers ops) → trace_of rest ≡ drop x ops → AreUnused heap (trace_of rest)
new-unused ops x segments rest heap h distinct back =
    let whole : IsTrue (has_distinct_numbers (take x ops ++ drop x ops)) = subst (λ os. IsTrue (has_distinct_numbers os)) (sym (take-append-drop x ops)) distinct in
    subst (λ os. AreUnused heap os) (sym back) (subst (λ m. AreUnused m (drop x ops)) (sym h.state) (unused-behind (take x ops) (drop x ops) whole))

-- that two heaps agree, where the one is that of the edited trace and the other the old checkpoint
pub AgreesAt-here : (old ops : List Operation) (a b p : ℕ) (heap mark : State) → heap ≡ end_from nothing_held (take (p - a + b) ops) → mark ≡ end_from nothing_held (take p old) → Agree heap mark → AgreesAt old ops a b p
AgreesAt-here old ops a b p heap mark new is agree = subst (λ m. Agree m (end_from nothing_held (take p old))) new (subst (Agree heap) is agree)

pub AgreesAt-there : (old ops : List Operation) (a b p : ℕ) (heap mark : State) → heap ≡ end_from nothing_held (take (p - a + b) ops) → mark ≡ end_from nothing_held (take p old) → AgreesAt old ops a b p → Agree heap mark
AgreesAt-there old ops a b p heap mark new is agree = subst (λ m. Agree m mark) (sym new) (subst (Agree (end_from nothing_held (take (p - a + b) ops))) (sym is) agree)

-- segments that are a run of the operations
pub record IsSpliced (ops : List Operation) (segments : List SegmentView) (end : State) : Type 0 where
  pub run : IsRun segments end
  pub trace : trace_of segments ≡ ops

-- the rest of a run goes on from the prefix
pub IsSpliced-rest : (ops : List Operation) (x : ℕ) (segments rest : List SegmentView) (heap end : State) → IsReached ops x segments heap → trace_of rest ≡ drop x ops → IsRunFrom heap rest end → IsSpliced ops (segments ++ rest) end
IsSpliced-rest ops x segments rest heap end h back run =
    let here : heap ≡ end_from nothing_held (trace_of segments) = h.state ∙ ap (end_from nothing_held) (sym h.trace) in
    record {
      run = record {
        replay = AreReplayFrom-append nothing_held segments rest h.replay (subst (λ m. AreReplayFrom m rest) here run.replay);
        full = AreFull-append segments rest h.full run.full;
        begins = BeginsMarked-append segments rest h.begins run.begins;
        state = run.state ∙ ap (λ m. end_from m (trace_of rest)) here ∙ sym (appends.end nothing_held (trace_of segments) (trace_of rest)) ∙ ap (end_from nothing_held) (sym (trace_of-append segments rest));
      };
      trace = trace_of-append segments rest ∙ ap (λ xs. xs ++ trace_of rest) h.trace ∙ ap (λ xs. take x ops ++ xs) back ∙ take-append-drop x ops;
    }

pub IsSpliced-end : (ops : List Operation) (x : ℕ) (segments : List SegmentView) (heap : State) → IsReached ops x segments heap → x ≡ length ops → IsSpliced ops segments heap
IsSpliced-end ops x segments heap h e =
    let t : trace_of segments ≡ ops = h.trace ∙ ap (λ n. take n ops) e ∙ take-length ops in
    record {
      run = record { replay = h.replay; full = h.full; begins = h.begins; state = h.state ∙ ap (end_from nothing_held) (sym h.trace) };
      trace = t;
    }

-- the loop may begin at a segment that begins at or before a: the checkpoints in front of it don't count
pub IsBeside-first : (old : List SegmentView) (ops : List Operation) (a b r before i at : ℕ) (segments : List SegmentView) (heap : State)
    → AreFull old → i ≤ length old → length (trace_of (take i old)) ≡ at → at ≤ a → IsReached ops r segments heap → r ≤ b → IsBeside old ops a b r before i at r segments heap before
IsBeside-first old ops a b r before i at segments heap full within place early h le =
    let n : ℕ = length (trace_of old) in
    let parts : take i old ++ drop i old ≡ old = take-append-drop i old in
    let from : 0 + length (trace_of (take i old)) ≡ at = omega arith in
    let list : all_marks old ≡ marks_from 0 (take i old) ++ (marks_from at (drop i old) ++ n ∷ []) =
    ap (λ ss. marks_from 0 ss ++ n ∷ []) (sym parts) ∙ ap (λ ps. ps ++ n ∷ []) (marks_from-append 0 (take i old) (drop i old))
    ∙ append_assoc (marks_from 0 (take i old)) (marks_from (0 + length (trace_of (take i old))) (drop i old)) (n ∷ [])
    ∙ ap (λ p. marks_from 0 (take i old) ++ (marks_from p (drop i old) ++ n ∷ [])) from in
    record {
      place = place;
      prefix = h;
      ahead = λ p mark there passed agrees. absurd (omega arith);
      rise = omega arith;
      later = λ p mark behind agrees. ⊎_elim
          (λ prefix.
          let less : p < 0 + length (trace_of (take i old)) = marks_from-below 0 (take i old) p (AreFull-prefix (take i old) (drop i old) (subst AreFull (sym parts) full)) prefix in
          absurd (omega arith))
          (λ later. later)
          (Contains-append_cases (marks_from 0 (take i old)) (marks_from at (drop i old) ++ n ∷ []) p (subst (λ ps. Contains ps p) list mark));
    }

-- a replay goes on by a piece of all the operations that are left
pub IsReached-rest : (ops : List Operation) (at len : ℕ) (segments more : List SegmentView) (heap end : State) → IsReached ops at segments heap → IsPiece heap (drop at ops) more end len → IsReached ops (at + len) (segments ++ more) end
IsReached-rest ops at len segments more heap end h piece =
    IsReached-next ops at (length ops) len segments more heap end h h.within (omega arith) (subst (λ os. IsPiece heap os more end len) (sym (take-rest at ops)) piece)

-- ---- states that agree agree so further on
stays-behind : (old ops : List Operation) (p q n : ℕ) → IsTrue (has_distinct_numbers old) → IsTrue (has_distinct_numbers ops) → take n (drop p old) ≡ take n (drop q ops)
    → Agree (end_from nothing_held (take q ops)) (end_from nothing_held (take p old)) → Agree (end_from nothing_held (take (q + n) ops)) (end_from nothing_held (take (p + n) old))
stays-behind old ops p q n distinct distinct_too same agree =
    let os : List Operation = take n (drop p old) in
    let old_front : IsTrue (has_distinct_numbers (take p old ++ os)) = distinct-front old p n distinct in
    let new_front : IsTrue (has_distinct_numbers (take q ops ++ os)) = subst (λ (more : List Operation). IsTrue (has_distinct_numbers (take q ops ++ more))) (sym same) (distinct-front ops q n distinct_too) in
    let new_end : end_from nothing_held (take (q + n) ops) ≡ end_from (end_from nothing_held (take q ops)) os =
    ap (end_from nothing_held) (take-add q n ops) ∙ appends.end nothing_held (take q ops) (take n (drop q ops)) ∙ ap (end_from (end_from nothing_held (take q ops))) (sym same) in
    let old_end : end_from nothing_held (take (p + n) old) ≡ end_from (end_from nothing_held (take p old)) os =
    ap (end_from nothing_held) (take-add p n old) ∙ appends.end nothing_held (take p old) os in
    rw (new_end, old_end)
    (agreement_stays (end_from nothing_held (take q ops)) (end_from nothing_held (take p old)) (sound-at ops q distinct_too) (sound-at old p distinct) agree os
    (appends.distinct_rest (take p old) os old_front) (unused-behind (take q ops) os new_front) (unused-behind (take p old) os old_front))
  where
    distinct-front : (ops : List Operation) (q n : ℕ) → IsTrue (has_distinct_numbers ops) → IsTrue (has_distinct_numbers (take q ops ++ take n (drop q ops)))
    distinct-front ops q n distinct =
        let parts : (take q ops ++ take n (drop q ops)) ++ drop n (drop q ops) ≡ ops =
        append_assoc (take q ops) (take n (drop q ops)) (drop n (drop q ops)) ∙ ap (λ (more : List Operation). take q ops ++ more) (take-append-drop n (drop q ops)) ∙ take-append-drop q ops in
        appends.distinct_front (take q ops ++ take n (drop q ops)) (drop n (drop q ops)) (subst (λ (all : List Operation). IsTrue (has_distinct_numbers all)) (sym parts) distinct)

    sound-at : (ops : List Operation) (q : ℕ) → IsTrue (has_distinct_numbers ops) → IsSound (end_from nothing_held (take q ops)) []
    sound-at ops q distinct =
        let front : IsTrue (has_distinct_numbers (take q ops)) = appends.distinct_front (take q ops) (drop q ops) (subst (λ (all : List Operation). IsTrue (has_distinct_numbers all)) (sym (take-append-drop q ops)) distinct) in
        (soundness.replays nothing_held (take q ops) soundness.start front (soundness.unused (take q ops))).1

-- where a replay went on over old stretches and doesn't agree behind them, it agrees nowhere between
pub IsPast-apart : (old ops : List Operation) (at next from len : ℕ) → at ≤ next → IsTrue (has_distinct_numbers old) → IsTrue (has_distinct_numbers ops) → drop at old ≡ drop from ops
    → (Agree (end_from nothing_held (take (from + len) ops)) (end_from nothing_held (take (at + len) old)) → ⊥) → IsPast old ops at next from (from + len)
IsPast-apart old ops at next from len order distinct distinct_too shared apart p there passed agrees =
    let d : ℕ = p - at in
    let n : ℕ = len - d in
    let here : d + from ≡ from + d = omega arith in
    let old_here : at + d ≡ p = omega arith in
    let whole : from + d + n ≡ from + len = omega arith in
    let old_whole : p + n ≡ at + len = omega arith in
    let same : drop p old ≡ drop (from + d) ops = ap (λ q. drop q old) (sym old_here) ∙ sym (drop-drop d at old) ∙ ap (drop d) shared ∙ drop-drop d from ops in
    let agree : Agree (end_from nothing_held (take (from + d) ops)) (end_from nothing_held (take p old)) = subst (λ q. Agree (end_from nothing_held (take q ops)) (end_from nothing_held (take p old))) here agrees in
    let behind : Agree (end_from nothing_held (take (from + d + n) ops)) (end_from nothing_held (take (p + n) old)) = stays-behind old ops p (from + d) n distinct distinct_too (ap (take n) same) agree in
    apart (subst (λ q. Agree (end_from nothing_held (take (from + len) ops)) (end_from nothing_held (take q old))) old_whole (subst (λ q. Agree (end_from nothing_held (take q ops)) (end_from nothing_held (take (p + n) old))) whole behind))

-- the same from the seam
pub IsPast-seam : (old ops : List Operation) (marks : List ℕ) (a b at next from to p : ℕ) → a ≤ at → at ≤ next → from ≡ at - a + b → IsPastMarks old ops marks at next from to → Contains marks p → next ≤ p → p - a + b < to → AgreesAt old ops a b p → ⊥
IsPast-seam old ops marks a b at next from to p behind order there past mark le passed agrees =
    let same : p - at + from ≡ p - a + b = omega (arith, there) in
    past p mark le (omega (arith, same)) (subst (λ q. Agree (end_from nothing_held (take q ops)) (end_from nothing_held (take p old))) (sym same) agrees)

-- where no old checkpoint is passed the states agree at none
pub IsPastMarks-none : (old ops : List Operation) (marks : List ℕ) (at next from to : ℕ) → at < next → PassesNone marks at from to → IsPastMarks old ops marks at next from to
IsPastMarks-none old ops marks at next from to rise none p mark le passed agrees = none p mark (omega (arith, rise, le)) passed

-- behind one segment more there are no fewer operations
pub trace_of-more : (segments : List SegmentView) (i : ℕ) → length (trace_of (take i segments)) ≤ length (trace_of (take (i + 1) segments))
trace_of-more segments i =
    let more : trace_of (take (i + 1) segments) ≡ trace_of (take i segments) ++ trace_of (take 1 (drop i segments)) =
    ap trace_of (take-add i 1 segments) ∙ trace_of-append (take i segments) (take 1 (drop i segments)) in
    omega (arith, ap length more, length-append (trace_of (take i segments)) (trace_of (take 1 (drop i segments))))

-- nor are there as many, where that segment isn't empty
pub trace_of-rises : (segments : List SegmentView) (i : ℕ) → AreFull segments → i < length segments → length (trace_of (take i segments)) < length (trace_of (take (i + 1) segments))
trace_of-rises [] i full lt = absurd (omega arith)
trace_of-rises (s ∷ segments) zero full lt = let some = full.0 in omega (arith, length-append (ops_of s) (trace_of []))
trace_of-rises (s ∷ segments) (suc i) full lt =
    let h : length (trace_of (take i segments)) < length (trace_of (take (i + 1) segments)) = trace_of-rises segments i full.1 (omega arith) in
    let more : suc i + 1 ≡ suc (i + 1) = omega arith in
    let here : length (trace_of (take (suc i) (s ∷ segments))) ≡ length (ops_of s) + length (trace_of (take i segments)) = length-append (ops_of s) (trace_of (take i segments)) in
    let behind : length (trace_of (take (suc i + 1) (s ∷ segments))) ≡ length (ops_of s) + length (trace_of (take (i + 1) segments)) =
    ap (λ n. length (trace_of (take n (s ∷ segments)))) more ∙ length-append (ops_of s) (trace_of (take (i + 1) segments)) in
    omega arith

-- where a segment has its checkpoint, there is one
pub marked-there : (old : List SegmentView) (i at : ℕ) (s : SegmentView) → i < length old → s ≡ get_or old i s → is_some s.mark ≡ true → length (trace_of (take i old)) ≡ at → Contains (all_marks old) at
marked-there old i at s lt is marked place = by s.mark refl
  where
    by : (o : Option State) → s.mark ≡ o → Contains (all_marks old) at
    by None e = absurd (let f : is_some s.mark ≡ false = ap is_some e in cc)
    by (Some m) e = mark-there old i at s m lt is e place

-- ---- operations that are taken over from a position on, and others behind them
pub over-few : (ops more rest : List Operation) (from : ℕ) → from ≤ length ops → drop from ops ≡ more ++ rest → from + length more ≤ length ops
over-few ops more rest from within parts = omega (arith, within, length-drop from ops, ap length parts, length-append more rest)

-- where a replay ends behind them
pub over-end : (ops more rest : List Operation) (from len : ℕ) (start end : State) → start ≡ end_from nothing_held (take from ops) → drop from ops ≡ more ++ rest → end ≡ end_from start more → len ≡ length more
    → end ≡ end_from nothing_held (take (from + len) ops)
over-end ops more rest from len start end here parts is long =
    let some : take len (drop from ops) ≡ more = ap (λ n. take n (drop from ops)) long ∙ ap (take (length more)) parts ∙ take-append_seam more rest in
    is ∙ ap (λ m. end_from m more) here ∙ sym (appends.end nothing_held (take from ops) more) ∙ ap (end_from nothing_held) (ap (λ os. take from ops ++ os) (sym some) ∙ sym (take-add from len ops))

-- where the old segments end that have them
pub over-far : (old : List SegmentView) (index k at : ℕ) (more : List Operation) → length (trace_of (take index old)) ≡ at → trace_of (drop index old) ≡ more ++ trace_of (drop (index + k) old)
    → length (trace_of (take (index + k) old)) ≡ at + length more
over-far old index k at more place parts =
    let whole = ap length (trace_of-parted old index) in
    let later = ap length (trace_of-parted old (index + k)) in
    omega (
      arith,
      place,
      ap length parts,
      length-append more (trace_of (drop (index + k) old)),
      whole,
      later,
      length-append (trace_of (take index old)) (trace_of (drop index old)),
      length-append (trace_of (take (index + k) old)) (trace_of (drop (index + k) old)),
    )

-- behind old stretches that touch none of them the same keys differ
pub DifferAt-passed : (r : Revision) (keys : KeySet) (x at edited base len : ℕ) (end : State) → end ≡ end_from nothing_held (take (x + len) (new_trace r))
    → edited ≡ x → base ≡ at → IsDifference keys (end_from nothing_held (take (at + len) (old_trace r))) end → DifferAt r keys (edited + len) (base + len)
DifferAt-passed r keys x at edited base len end is new old differ =
    let there : end ≡ end_from nothing_held (take (edited + len) (new_trace r)) = is ∙ ap (λ n. end_from nothing_held (take (n + len) (new_trace r))) (sym new) in
    let here : end_from nothing_held (take (at + len) (old_trace r)) ≡ end_from nothing_held (take (base + len) (old_trace r)) = ap (λ n. end_from nothing_held (take (n + len) (old_trace r))) (sym old) in
    subst (λ m. IsDifference keys m (end_from nothing_held (take (edited + len) (new_trace r)))) here (subst (IsDifference keys (end_from nothing_held (take (at + len) (old_trace r)))) there differ)
