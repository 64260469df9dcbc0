-- The checkpoints of an edited trace.
use Rattle.std.proofs.Common.{IsTrue, IfSome, is_some, add-zero, zero, suc, Bool, true, false, cond, nat_lt, le-ltb, lt-ltb}
use Rattle.run_engine.proofs.SegmentLemmas.{trace_of-append}
use Rattle.std.proofs.Common.{◌≡◌, ℕ, ◌+◌, ◌-◌, ◌<◌, ◌≤◌, List, [], ◌∷◌, ◌++◌, length, take, drop, get_or, refl, ap, sym, subst, ◌∙◌, arith, append_assoc, length-append, take-append-drop}
use Rattle.std.specs.Prelude.{Some, None, Option, map, filter, Contains, ◌⊎◌}
use Rattle.std.proofs.lemmas.List.{append-nil, take_more, map-append, length-take, drop-drop}
use mathlib.Core.Logic.{⊎_elim, inl, inr}
use Rattle.std.proofs.lemmas.List.Elements.{Contains-append_cases, Contains-append_right, filter-append}
use Rattle.ownership_model.specs.State.{State}
use Rattle.trace_types.specs.Operation.{Operation}
use Rattle.run_engine.specs.SegmentView.{SegmentView}
use Rattle.run_engine.specs.Segments.{ops_of, trace_of, mark_here, marks_from, all_marks, AreFull, BeginsMarked, IsRun, IsReached}
use Rattle.run_engine.specs.HeadAndTail.{ShareEnd}
use Rattle.run_engine.specs.Bounds.{AgreesAt}
use Rattle.op_step.specs.Chunk.{Chunk}
use Rattle.run_engine.specs.Guesses.{Reusable}
use Rattle.run_engine.specs.inner.OldRun.{reusable_in}
use Rattle.run_engine.specs.NewMarks.{IsGap, IsFirstPart, LeadTo, AreLaid, AreMarksOf}
use Rattle.run_engine.proofs.SegmentLemmas.{marks_from-append, length-trace_of-next}
use Rattle.run_engine.proofs.ListingLemmas.{around}
use Rattle.run_engine.proofs.PieceLemmas.{AreFull-prefix, AreFull-back, mark-is}
use Rattle.std.proofs.Math.Seq.{take-append_seam, drop-append_seam}
use Rattle.ownership_model.specs.State.{nothing_held}
use Rattle.ownership_model.specs.Step.{end_from}
use Rattle.run_engine.specs.Steps.{IsOldStretch, AreRising}
use Rattle.run_engine.proofs.PlaceLemmas.{marks-at, mark-there, end-mark, all-within, place-within, Contains-one, marks_from-least, marks_from-below}
use Rattle.run_engine.proofs.ConvergeLemmas.{ShareEnd-length}

-- a test that no position passes, and one that each passes
pub none-pass : (test : ℕ → Bool) (ps : List ℕ) → ((p : ℕ) → Contains ps p → test p ≡ false) → filter test ps ≡ []
none-pass test [] h = refl
none-pass test (p ∷ ps) h =
    ap (λ b. cond b (p ∷ filter test ps) (filter test ps)) (h p (zero, omega arith, refl)) ∙ none-pass test ps (λ q k. h q (Contains-append_right (p ∷ []) ps q k))

pub all-pass : (test : ℕ → Bool) (ps : List ℕ) → ((p : ℕ) → Contains ps p → test p ≡ true) → filter test ps ≡ ps
all-pass test [] h = refl
all-pass test (p ∷ ps) h =
    ap (λ b. cond b (p ∷ filter test ps) (filter test ps)) (h p (zero, omega arith, refl)) ∙ ap (λ qs. p ∷ qs) (all-pass test ps (λ q k. h q (Contains-append_right (p ∷ []) ps q k)))

pub LeadTo-append : (old : Reusable) (r : ℕ) (fresh : List ℕ) (at len : ℕ) → LeadTo old r fresh at → IsGap old len → LeadTo old r (fresh ++ (at + len) ∷ []) (at + len)
LeadTo-append old r [] at len h gap = let e : at + len - r ≡ len = omega (arith, h) in (subst (IsGap old) (sym e) gap, refl)
LeadTo-append old r (p ∷ ps) at len h gap = (h.0, LeadTo-append old p ps at len h.1 gap)

pub AreLaid-none : (old : Reusable) (kept : List ℕ) (r : ℕ) → AreLaid old kept r r kept
AreLaid-none old kept r = record { fresh = []; laid = refl; lead = refl }

-- segments that begin elsewhere
pub marks_from-moved : (a b at : ℕ) (segments : List SegmentView) → a ≤ at → marks_from (at - a + b) segments ≡ map (λ p. p - a + b) (marks_from at segments)
marks_from-moved a b at [] le = refl
marks_from-moved a b at (s ∷ segments) le =
    let e : at - a + b + length (ops_of s) ≡ at + length (ops_of s) - a + b = omega arith in
    ap (λ ps. mark_here (at - a + b) s.mark ++ ps) (ap (λ p. marks_from p segments) e ∙ marks_from-moved a b (at + length (ops_of s)) segments (omega arith))
    ∙ here-moved a b at s.mark (marks_from (at + length (ops_of s)) segments)
  where
    here-moved : (a b at : ℕ) (o : Option State) (rest : List ℕ) → mark_here (at - a + b) o ++ map (λ p. p - a + b) rest ≡ map (λ p. p - a + b) (mark_here at o ++ rest)
    here-moved a b at None rest = refl
    here-moved a b at (Some m) rest = refl

-- the checkpoints from a position on
pub after-least : (at n : ℕ) (segments : List SegmentView) (p : ℕ) → at ≤ n → Contains (marks_from at segments ++ n ∷ []) p → at ≤ p
after-least at n segments p fits h =
    ⊎_elim (λ x. marks_from-least at segments p x) (λ x. let e : n ≡ p = Contains-one n p x in omega arith) (Contains-append_cases (marks_from at segments) (n ∷ []) p h)

-- those behind the checkpoint of the segment i, which begins at `at`
pub above-stop : (old : List SegmentView) (i at : ℕ) (s : SegmentView) (m : State) → AreFull old → i < length old → s ≡ get_or old i s → s.mark ≡ Some m → length (trace_of (take i old)) ≡ at
    → filter (λ p. nat_lt at p) (all_marks old) ≡ marks_from (at + length (ops_of s)) (drop (i + 1) old) ++ length (trace_of old) ∷ []
above-stop old i at s m full lt is mark place =
    let n : ℕ = length (trace_of old) in
    let test : ℕ → Bool = λ p. nat_lt at p in
    let later : List ℕ = marks_from (at + length (ops_of s)) (drop (i + 1) old) ++ n ∷ [] in
    let whole : AreFull (take i old ++ drop i old) = subst AreFull (sym (take-append-drop i old)) full in
    let prefix : AreFull (take i old) = AreFull-prefix (take i old) (drop i old) whole in
    let back : AreFull (s ∷ drop (i + 1) old) = subst AreFull (around old i s lt is) (AreFull-back (take i old) (drop i old) whole) in
    let some : 0 < length (ops_of s) = back.0 in
    let fits : at + length (ops_of s) ≤ n = place-within old (i + 1) (at + length (ops_of s)) (length-trace_of-next old i s lt is ∙ ap (λ x. x + length (ops_of s)) place) in
    ap (filter test) (marks-at old i at s m lt is mark place)
    ∙ filter-append test (marks_from 0 (take i old)) (at ∷ later)
    ∙ ap (λ ps. ps ++ filter test (at ∷ later)) (none-pass test (marks_from 0 (take i old))
    (λ p k. let before : p < 0 + length (trace_of (take i old)) = marks_from-below 0 (take i old) p prefix k in let le : p ≤ at = omega arith in le-ltb at p le))
    ∙ ap (λ b. cond b (at ∷ filter test later) (filter test later)) (le-ltb at at (omega arith))
    ∙ all-pass test later (λ p k. let least : at + length (ops_of s) ≤ p = after-least (at + length (ops_of s)) n (drop (i + 1) old) p fits k in let less : at < p = omega arith in lt-ltb at p less)

-- none is behind the end
pub above-end : (old : List SegmentView) → filter (λ p. nat_lt (length (trace_of old)) p) (all_marks old) ≡ []
above-end old = none-pass (λ p. nat_lt (length (trace_of old)) p) (all_marks old) (λ p k. le-ltb (length (trace_of old)) p (all-within old p (length (trace_of old)) k (omega arith)))

-- the checkpoints from a stop at `at` on, in the edited trace
abbrev pub from-stop : List SegmentView → ℕ → ℕ → ℕ → List ℕ
from-stop old a b at = (at - a + b) ∷ map (λ p. p - a + b) (filter (λ p. nat_lt at p) (all_marks old))

-- where the old run goes on at the segment i, which begins at `at`
pub all_marks-stop : (old segments : List SegmentView) (ops : List Operation) (a b i at : ℕ) (s : SegmentView)
    → AreFull old → ShareEnd (trace_of old) ops a b → i < length old → s ≡ get_or old i s → (m : State) → s.mark ≡ Some m → length (trace_of (take i old)) ≡ at → a ≤ at
    → length (trace_of segments) ≡ at - a + b → trace_of (segments ++ drop i old) ≡ ops → all_marks (segments ++ drop i old) ≡ marks_from 0 segments ++ from-stop old a b at
all_marks-stop old segments ops a b i at s full shared lt is m mark place behind long trace =
    let n : ℕ = length (trace_of old) in
    let later : List ℕ = marks_from (at + length (ops_of s)) (drop (i + 1) old) ++ n ∷ [] in
    let moved : List ℕ → List ℕ = map (λ p. p - a + b) in
    let list : marks_from at (drop i old) ++ n ∷ [] ≡ at ∷ later =
    ap (λ ss. marks_from at ss ++ n ∷ []) (around old i s lt is) ∙ ap (λ o. (mark_here at o ++ marks_from (at + length (ops_of s)) (drop (i + 1) old)) ++ n ∷ []) mark in
    let zero_prefix : 0 + length (trace_of segments) ≡ at - a + b = omega arith in
    let fits : at ≤ n = place-within old i at place in
    let across = ShareEnd-length (trace_of old) ops a b shared in
    let last : length (trace_of (segments ++ drop i old)) ≡ n - a + b = ap length trace ∙ omega (arith, shared.old_within, shared.within) in
    ap (λ l. marks_from 0 (segments ++ drop i old) ++ l ∷ []) last
    ∙ ap (λ ps. ps ++ (n - a + b) ∷ []) (marks_from-append 0 segments (drop i old) ∙ ap (λ p. marks_from 0 segments ++ marks_from p (drop i old)) zero_prefix)
    ∙ append_assoc (marks_from 0 segments) (marks_from (at - a + b) (drop i old)) ((n - a + b) ∷ [])
    ∙ ap (λ ps. marks_from 0 segments ++ (ps ++ (n - a + b) ∷ [])) (marks_from-moved a b at (drop i old) behind)
    ∙ ap (λ ps. marks_from 0 segments ++ ps) (sym (map-append (λ p. p - a + b) (marks_from at (drop i old)) (n ∷ [])) ∙ ap moved list)
    ∙ ap (λ ps. marks_from 0 segments ++ (at - a + b) ∷ moved ps) (sym (above-stop old i at s m full lt is mark place))

-- after a stop at the segment i, which begins at `at`
unfoldable pub AreMarksOf-stop : (guesses : List Chunk) (old : List SegmentView) (ops : List Operation) (kept all : List ℕ) (a b i at r : ℕ) (s : SegmentView)
    → i < length old → s ≡ get_or old i s → (m : State) → s.mark ≡ Some m → length (trace_of (take i old)) ≡ at → a ≤ at
    → AgreesAt (trace_of old) ops a b at → ((p : ℕ) → Contains (all_marks old) p → a ≤ p → AgreesAt (trace_of old) ops a b p → at ≤ p)
    → AreLaid (reusable_in guesses old) kept r (at - a + b) all → AreMarksOf (trace_of old) ops kept (reusable_in guesses old) (all ++ from-stop old a b at) r a b at
AreMarksOf-stop guesses old ops kept all a b i at r s lt is m mark place behind agrees first laid =
    let later : List ℕ = map (λ p. p - a + b) (filter (λ p. nat_lt at p) (all_marks old)) in
    record {
      fresh = laid.fresh;
      stop_is = record { mark = mark-there old i at s m lt is mark place; behind = behind; agrees = inl agrees; first = first };
      lead = laid.lead;
      new_is = sym (append_assoc all ((at - a + b) ∷ []) later) ∙ ap (λ ps. ps ++ later) laid.laid ∙ append_assoc kept (r ∷ laid.fresh) later;
    }

-- segments with the operations and checkpoints of others, behind a prefix
pub all_marks-rest : (segments a b : List SegmentView) → trace_of a ≡ trace_of b → ((at : ℕ) → marks_from at a ≡ marks_from at b) → all_marks (segments ++ a) ≡ all_marks (segments ++ b)
all_marks-rest segments a b trace marks =
    let whole : trace_of (segments ++ a) ≡ trace_of (segments ++ b) = trace_of-append segments a ∙ ap (λ t. trace_of segments ++ t) trace ∙ sym (trace_of-append segments b) in
    ap (λ ps. ps ++ length (trace_of (segments ++ a)) ∷ [])
    (marks_from-append 0 segments a ∙ ap (λ ps. marks_from 0 segments ++ ps) (marks (0 + length (trace_of segments))) ∙ sym (marks_from-append 0 segments b))
    ∙ ap (λ t. marks_from 0 (segments ++ b) ++ length t ∷ []) whole

-- with no stop
unfoldable pub AreMarksOf-end : (guesses : List Chunk) (old : List SegmentView) (ops : List Operation) (kept all : List ℕ) (a b r : ℕ)
    → ShareEnd (trace_of old) ops a b → ((p : ℕ) → Contains (all_marks old) p → a ≤ p → AgreesAt (trace_of old) ops a b p → length (trace_of old) ≤ p)
    → AreLaid (reusable_in guesses old) kept r (length ops) all → AreMarksOf (trace_of old) ops kept (reusable_in guesses old) (all ++ length ops ∷ []) r a b (length (trace_of old))
AreMarksOf-end guesses old ops kept all a b r shared first laid =
    let n : ℕ = length (trace_of old) in
    let moved : List ℕ → List ℕ = map (λ p. p - a + b) in
    let across = ShareEnd-length (trace_of old) ops a b shared in
    let last : length ops ≡ n - a + b = omega (arith, shared.old_within, shared.within) in
    record {
      fresh = laid.fresh;
      stop_is = record { mark = end-mark old; behind = shared.old_within; agrees = inr refl; first = first };
      lead = subst (LeadTo (reusable_in guesses old) r laid.fresh) last laid.lead;
      new_is = laid.laid ∙ ap (λ ps. kept ++ r ∷ ps) (sym (append-nil laid.fresh)) ∙ ap (λ ps. kept ++ r ∷ (laid.fresh ++ moved ps)) (sym (above-end old));
    }

pub IsReached-length : (ops : List Operation) (at : ℕ) (segments : List SegmentView) (heap : State) → IsReached ops at segments heap → length (trace_of segments) ≡ at
IsReached-length ops at segments heap h = let within = h.within in ap length h.trace ∙ omega (arith, length-take at ops)

-- the checkpoints before the restart, where the segment i begins
pub below-restart : (segments : List SegmentView) (i at : ℕ) → AreFull segments → length (trace_of (take i segments)) ≡ at → filter (λ p. nat_lt p at) (all_marks segments) ≡ marks_from 0 (take i segments)
below-restart segments i at full stands =
    let n : ℕ = length (trace_of segments) in
    let test : ℕ → Bool = λ p. nat_lt p at in
    let place : 0 + length (trace_of (take i segments)) ≡ at = omega (arith, stands) in
    let fits : at ≤ n = place-within segments i at stands in
    let prefix : AreFull (take i segments) = AreFull-prefix (take i segments) (drop i segments) (subst AreFull (sym (take-append-drop i segments)) full) in
    let rest : List ℕ = marks_from at (drop i segments) ++ n ∷ [] in
    ap (filter test)
    (ap (λ ss. marks_from 0 ss ++ n ∷ []) (sym (take-append-drop i segments)) ∙ ap (λ ps. ps ++ n ∷ []) (marks_from-append 0 (take i segments) (drop i segments))
    ∙ append_assoc (marks_from 0 (take i segments)) (marks_from (0 + length (trace_of (take i segments))) (drop i segments)) (n ∷ [])
    ∙ ap (λ p. marks_from 0 (take i segments) ++ (marks_from p (drop i segments) ++ n ∷ [])) place)
    ∙ filter-append test (marks_from 0 (take i segments)) rest
    ∙ ap (λ ps. ps ++ filter test rest) (all-pass test (marks_from 0 (take i segments))
    (λ p k. let before : p < 0 + length (trace_of (take i segments)) = marks_from-below 0 (take i segments) p prefix k in let less : p < at = omega arith in lt-ltb p at less))
    ∙ ap (λ ps. marks_from 0 (take i segments) ++ ps) (none-pass test rest (λ p k. le-ltb p at (after-least at n (drop i segments) p fits k)))
    ∙ append-nil (marks_from 0 (take i segments))

-- where segments that begin at `at` have their first checkpoint, or where they end, at n
pub record HasNext (at : ℕ) (segments : List SegmentView) (n : ℕ) : Type 0 where
  pub gap : ℕ
  pub after : List ℕ
  pub is : marks_from at segments ++ n ∷ [] ≡ (at + gap) ∷ after
  pub first : BeginsMarked segments → gap ≡ 0

next-behind : (at n : ℕ) (s : SegmentView) (segments : List SegmentView) (o : Option State) → s.mark ≡ o → HasNext (at + length (ops_of s)) segments n → HasNext at (s ∷ segments) n
next-behind at n s segments None e h =
    let place : at + length (ops_of s) + h.gap ≡ at + (length (ops_of s) + h.gap) = omega arith in
    record {
      gap = length (ops_of s) + h.gap;
      after = h.after;
      is = ap (λ o. (mark_here at o ++ marks_from (at + length (ops_of s)) segments) ++ n ∷ []) e ∙ h.is ∙ ap (λ p. p ∷ h.after) place;
      first = λ begins. let none : IsTrue false = subst (λ o. IsTrue (is_some o)) e begins in cc;
    }
next-behind at n s segments (Some m) e h = record {
  gap = 0;
  after = marks_from (at + length (ops_of s)) segments ++ n ∷ [];
  is = ap (λ o. (mark_here at o ++ marks_from (at + length (ops_of s)) segments) ++ n ∷ []) e ∙ ap (λ p. p ∷ (marks_from (at + length (ops_of s)) segments ++ n ∷ [])) (sym (add-zero at));
  first = λ begins. refl;
}

pub has-next : (at n : ℕ) (segments : List SegmentView) → n ≡ at + length (trace_of segments) → HasNext at segments n
has-next at n [] e = record { gap = 0; after = []; is = ap (λ p. p ∷ []) e; first = λ begins. refl }
has-next at n (s ∷ segments) e =
    let later : n ≡ at + length (ops_of s) + length (trace_of segments) = omega (arith, e, length-append (ops_of s) (trace_of segments)) in
    next-behind at n s segments s.mark refl (has-next (at + length (ops_of s)) n segments later)

-- a checkpoint stands at `at`, where a stretch begins, and the next a gap behind its end: where segments begin with one, there is no gap
pub record IsFollowed (marks : List ℕ) (at len : ℕ) (rest : List SegmentView) : Type 0 where
  pub before : List ℕ
  pub after : List ℕ
  pub gap : ℕ
  pub marks_are : marks ≡ before ++ at ∷ (at + (len + gap)) ∷ after
  pub first : BeginsMarked rest → gap ≡ 0

pub stretch-followed : (a b c : List SegmentView) (s : SegmentView) (m : State) (len : ℕ) → s.mark ≡ Some m → ((at : ℕ) → marks_from at b ≡ []) → length (trace_of (s ∷ b)) ≡ len
    → IsFollowed (all_marks (a ++ ((s ∷ b) ++ c))) (0 + length (trace_of a)) len c
stretch-followed a b c s m len mark bare long =
    let p : ℕ = 0 + length (trace_of a) in
    let n : ℕ = length (trace_of (a ++ ((s ∷ b) ++ c))) in
    let all : length (trace_of (a ++ ((s ∷ b) ++ c))) ≡ 0 + length (trace_of a) + len + length (trace_of c) =
    ap length (trace_of-append a ((s ∷ b) ++ c) ∙ ap (λ t. trace_of a ++ t) (trace_of-append (s ∷ b) c))
    ∙ omega (arith, length-append (trace_of a) (trace_of (s ∷ b) ++ trace_of c), length-append (trace_of (s ∷ b)) (trace_of c)) in
    let own : marks_from p (s ∷ b) ≡ p ∷ [] = ap (λ o. mark_here p o ++ marks_from (p + length (ops_of s)) b) mark ∙ ap (λ ps. p ∷ ps) (bare (p + length (ops_of s))) in
    let next : HasNext (p + len) c n = has-next (p + len) n c all in
    let place : p + len + next.gap ≡ p + (len + next.gap) = omega arith in
    record {
      before = marks_from 0 a;
      after = next.after;
      gap = next.gap;
      marks_are = ap (λ ps. ps ++ n ∷ []) (marks_from-append 0 a ((s ∷ b) ++ c) ∙ ap (λ ps. marks_from 0 a ++ ps) (marks_from-append p (s ∷ b) c ∙ ap (λ ps. ps ++ marks_from (p + length (trace_of (s ∷ b))) c) own ∙ ap (λ l. p ∷ marks_from (p + l) c) long))
          ∙ append_assoc (marks_from 0 a) (p ∷ marks_from (p + len) c) (n ∷ [])
          ∙ ap (λ ps. marks_from 0 a ++ (p ∷ ps)) (next.is ∙ ap (λ q. q ∷ next.after) place);
      first = next.first;
    }

-- so it is with one segment
pub segment-followed : (old : List SegmentView) (i at : ℕ) (s : SegmentView) (m : State) → i < length old → s ≡ get_or old i s → s.mark ≡ Some m → length (trace_of (take i old)) ≡ at
    → IsFollowed (all_marks old) at (length (ops_of s)) (drop (i + 1) old)
segment-followed old i at s m lt is mark place =
    let c : List SegmentView = drop (i + 1) old in
    let parts : take i old ++ (s ∷ c) ≡ old = ap (λ xs. take i old ++ xs) (sym (around old i s lt is)) ∙ take-append-drop i old in
    let here : 0 + length (trace_of (take i old)) ≡ at = omega (arith, place) in
    let long : length (trace_of (s ∷ [])) ≡ length (ops_of s) = ap length (append-nil (ops_of s)) in
    subst (λ ss. IsFollowed (all_marks ss) at (length (ops_of s)) c) parts
    (subst (λ p. IsFollowed (all_marks (take i old ++ (s ∷ c))) p (length (ops_of s)) c) here (stretch-followed (take i old) [] c s m (length (ops_of s)) mark (λ p. refl) long))

-- a stretch from a checkpoint to the next, or the first of one with more operations, of which there are at least 64
pub stretch-part : (a b c : List SegmentView) (s : SegmentView) (m : State) (len : ℕ) → s.mark ≡ Some m → ((at : ℕ) → marks_from at b ≡ []) → length (trace_of (s ∷ b)) ≡ len → (BeginsMarked c ⊎ (64 ≤ len))
    → IsFirstPart (all_marks (a ++ ((s ∷ b) ++ c))) len
stretch-part a b c s m len mark bare long whole =
    let h : IsFollowed (all_marks (a ++ ((s ∷ b) ++ c))) (0 + length (trace_of a)) len c = stretch-followed a b c s m len mark bare long in
    record {
      long = len + h.gap;
      neighbours = record { before = h.before; after = h.after; at = 0 + length (trace_of a); marks_are = h.marks_are };
      within = omega arith;
      enough = ⊎_elim
          (λ (begins : BeginsMarked c). inl (let none : h.gap ≡ 0 = h.first begins in let same : len ≡ len + h.gap = omega (arith, none) in same))
          (λ (many : 64 ≤ len). inr many)
          whole;
    }

pub old-part : (old : List SegmentView) (i k : ℕ) (s : SegmentView) (heap : State) (ops : List Operation) (len : ℕ)
    → i < length old → s ≡ get_or old i s → s.mark ≡ Some heap → ((at : ℕ) → marks_from at (take k (drop (i + 1) old)) ≡ [])
    → len ≤ length ops → trace_of (take (suc k) (drop i old)) ≡ take len ops → (BeginsMarked (drop (i + suc k) old) ⊎ (64 ≤ len)) → IsFirstPart (all_marks old) len
old-part old i k s heap ops len lt is mark bare fits same whole =
    let b : List SegmentView = take k (drop (i + 1) old) in
    let c : List SegmentView = drop k (drop (i + 1) old) in
    let here : drop i old ≡ s ∷ drop (i + 1) old = around old i s lt is in
    let stretch : take (suc k) (drop i old) ≡ s ∷ take k (drop (i + 1) old) = ap (take (suc k)) here in
    let parts : take i old ++ ((s ∷ b) ++ c) ≡ old = ap (λ xs. take i old ++ (s ∷ xs)) (take-append-drop k (drop (i + 1) old)) ∙ ap (λ xs. take i old ++ xs) (sym here) ∙ take-append-drop i old in
    let long : length (trace_of (s ∷ b)) ≡ len = ap (λ ss. length (trace_of ss)) (sym stretch) ∙ ap length same ∙ omega (arith, length-take len ops) in
    let j : i + 1 + k ≡ i + suc k = omega arith in
    let rest : drop k (drop (i + 1) old) ≡ drop (i + suc k) old = drop-drop k (i + 1) old ∙ ap (λ n. drop n old) j in
    subst (λ ss. IsFirstPart (all_marks ss) len) parts (stretch-part (take i old) b c s heap len mark bare long (subst (λ ss. BeginsMarked ss ⊎ (64 ≤ len)) (sym rest) whole))

-- where a segment has its checkpoint, the rest begins with it
pub IfSome-begins : (segments : List SegmentView) (j : ℕ) (s : SegmentView) → j < length segments → s ≡ get_or segments j s → IfSome s.mark (λ h. BeginsMarked (drop j segments))
IfSome-begins segments j s lt is = go s.mark refl
  where
    go : (o : Option State) → s.mark ≡ o → IfSome o (λ h. BeginsMarked (drop j segments))
    go None e = tt
    go (Some m) e = subst BeginsMarked (sym (around segments j s lt is)) (ap is_some e)

pub marks_from-next : (segments : List SegmentView) (j : ℕ) (s : SegmentView) (at : ℕ) → j < length segments → s ≡ get_or segments j s → at ≡ length (trace_of (take j segments))
    → marks_from 0 (take (j + 1) segments) ≡ marks_from 0 (take j segments) ++ mark_here at s.mark
marks_from-next segments j s at lt is place =
    let here : 0 + length (trace_of (take j segments)) ≡ at = omega arith in
    ap (marks_from 0) (take_more segments j s lt ∙ ap (λ t. take j segments ++ t ∷ []) (sym is))
    ∙ marks_from-append 0 (take j segments) (s ∷ [])
    ∙ ap (λ p. marks_from 0 (take j segments) ++ (mark_here p s.mark ++ [])) here
    ∙ ap (λ ps. marks_from 0 (take j segments) ++ ps) (append-nil (mark_here at s.mark))

pub mark_here-bare : (at : ℕ) (o : Option State) → is_some o ≡ false → mark_here at o ≡ []
mark_here-bare at None e = refl
mark_here-bare at (Some m) e = cc

pub mark_here-marked : (at : ℕ) (o : Option State) → is_some o ≡ true → mark_here at o ≡ at ∷ []
mark_here-marked at None e = cc
mark_here-marked at (Some m) e = refl

-- such a stretch is one of the old trace
stretch-old : (a b c : List SegmentView) (s : SegmentView) (m : State) (ops : List Operation) (len : ℕ) → s.mark ≡ Some m → ((at : ℕ) → marks_from at b ≡ []) → length (trace_of (s ∷ b)) ≡ len → (BeginsMarked c ⊎ (64 ≤ len))
    → m ≡ end_from nothing_held (trace_of a) → trace_of (s ∷ b) ≡ take len ops → IsOldStretch (trace_of (a ++ ((s ∷ b) ++ c))) (all_marks (a ++ ((s ∷ b) ++ c))) m ops len
unfolding stretch-part
stretch-old a b c s m ops len mark bare long whole_or is same =
    let rest : List Operation = trace_of ((s ∷ b) ++ c) in
    let place : 0 + length (trace_of a) ≡ length (trace_of a) = omega arith in
    let whole : trace_of (a ++ ((s ∷ b) ++ c)) ≡ trace_of a ++ rest = trace_of-append a ((s ∷ b) ++ c) in
    record {
      place = stretch-part a b c s m len mark bare long whole_or;
      start_is = is ∙ ap (end_from nothing_held) (sym (ap (take (0 + length (trace_of a))) whole ∙ ap (λ n. take n (trace_of a ++ rest)) place ∙ take-append_seam (trace_of a) rest));
      ops_are = ap (take len) (ap (drop (0 + length (trace_of a))) whole ∙ ap (λ n. drop n (trace_of a ++ rest)) place ∙ drop-append_seam (trace_of a) rest ∙ trace_of-append (s ∷ b) c)
          ∙ ap (λ n. take n (trace_of (s ∷ b) ++ trace_of c)) (sym long) ∙ take-append_seam (trace_of (s ∷ b)) (trace_of c) ∙ same;
    }

pub old-stretch-is : (old : List SegmentView) (end : State) (i k : ℕ) (s : SegmentView) (heap : State) (ops : List Operation) (len : ℕ)
    → IsRun old end → i < length old → s ≡ get_or old i s → s.mark ≡ Some heap → ((at : ℕ) → marks_from at (take k (drop (i + 1) old)) ≡ [])
    → len ≤ length ops → trace_of (take (suc k) (drop i old)) ≡ take len ops → (BeginsMarked (drop (i + suc k) old) ⊎ (64 ≤ len)) → IsOldStretch (trace_of old) (all_marks old) heap ops len
old-stretch-is old end i k s heap ops len run lt is mark bare fits same whole =
    let b : List SegmentView = take k (drop (i + 1) old) in
    let c : List SegmentView = drop k (drop (i + 1) old) in
    let here : drop i old ≡ s ∷ drop (i + 1) old = around old i s lt is in
    let stretch : take (suc k) (drop i old) ≡ s ∷ take k (drop (i + 1) old) = ap (take (suc k)) here in
    let parts : take i old ++ ((s ∷ b) ++ c) ≡ old = ap (λ xs. take i old ++ (s ∷ xs)) (take-append-drop k (drop (i + 1) old)) ∙ ap (λ xs. take i old ++ xs) (sym here) ∙ take-append-drop i old in
    let long : length (trace_of (s ∷ b)) ≡ len = ap (λ ss. length (trace_of ss)) (sym stretch) ∙ ap length same ∙ omega (arith, length-take len ops) in
    let j : i + 1 + k ≡ i + suc k = omega arith in
    let rest : drop k (drop (i + 1) old) ≡ drop (i + suc k) old = drop-drop k (i + 1) old ∙ ap (λ n. drop n old) j in
    subst (λ ss. IsOldStretch (trace_of ss) (all_marks ss) heap ops len) parts
    (stretch-old (take i old) b c s heap ops len mark bare long (subst (λ ss. BeginsMarked ss ⊎ (64 ≤ len)) (sym rest) whole) (mark-is old i s heap run.replay lt is (sym mark)) (ap trace_of (sym stretch) ∙ same))

rising-earlier : (a b to : ℕ) (ps : List ℕ) → a ≤ b → AreRising b to ps → AreRising a to ps
rising-earlier a b to [] le h = tt
rising-earlier a b to (p ∷ ps) le h = let first : b ≤ p = h.0 in (omega arith, h.1, h.2)

rising-here : (at b n : ℕ) (o : Option State) (ps : List ℕ) → at < b → at ≤ n → AreRising b (n + 1) (ps ++ n ∷ []) → AreRising at (n + 1) ((mark_here at o ++ ps) ++ n ∷ [])
rising-here at b n None ps lt le h = rising-earlier at b (n + 1) (ps ++ n ∷ []) (omega arith) h
rising-here at b n (Some m) ps lt le h = (omega arith, omega arith, rising-earlier (at + 1) b (n + 1) (ps ++ n ∷ []) (omega arith) h)

-- the checkpoints rise
pub rising-marks : (at n : ℕ) (segments : List SegmentView) → n ≡ at + length (trace_of segments) → AreFull segments → AreRising at (n + 1) (marks_from at segments ++ n ∷ [])
rising-marks at n [] e full = (omega arith, omega arith, tt)
rising-marks at n (s ∷ segments) e full =
    let long = length-append (ops_of s) (trace_of segments) in
    let some : 0 < length (ops_of s) = full.0 in
    let later : n ≡ at + length (ops_of s) + length (trace_of segments) = omega arith in
    rising-here at (at + length (ops_of s)) n s.mark (marks_from (at + length (ops_of s)) segments) (omega arith) (omega arith) (rising-marks (at + length (ops_of s)) n segments later full.1)
