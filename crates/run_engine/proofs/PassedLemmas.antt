-- Parts of old stretches that are taken over though the heaps differ.
use Rattle.std.proofs.Common.{◌≡◌, ℕ, ◌+◌, ◌-◌, ◌<◌, ◌≤◌, zero, suc, List, [], ◌∷◌, ◌++◌, length, take, drop, get_or, Bool, true, false, refl, ap, sym, subst, ◌∙◌, arith, length-append, append_assoc, take-append-drop}
use Rattle.std.specs.Prelude.{Option, Some, None, is_some, IsTrue, Contains, ◌⊎◌}
use mathlib.Core.Logic.{⊎_elim, inl, inr}
use Rattle.std.proofs.lemmas.List.{append-nil, drop-drop}
use Rattle.std.proofs.lemmas.List.Elements.{Contains-append_cases}
use Rattle.std.proofs.Math.Seq.{take-add, take-append_seam}
use Rattle.trace_types.specs.Operation.{Operation}
use Rattle.trace_types.specs.Trace.{has_distinct_numbers}
use Rattle.ownership_model.specs.declared.key.Key.{Key}
use Rattle.ownership_model.specs.State.{State, IsSound, nothing_held}
use Rattle.ownership_model.specs.Step.{end_from, AreUnused}
use Rattle.ownership_model.specs.Alike.{AreWithin}
use Rattle.ownership_model.specs.Near.{AreNear, AreBlindFrom}
use Rattle.ownership_model.specs.Footprint.{footprints_from, moved_from}
use Rattle.ownership_model.proofs.LawsHold.{appends, blind}
use Rattle.heap_difference.specs.declared.key_set.KeySet.{KeySet}
use Rattle.heap_difference.specs.declared.holders.Holders.{Holders}
use Rattle.heap_difference.specs.Alikes.{is_alike, is_loose, AreShifts}
use Rattle.heap_difference.specs.Differences.{outside, IsDifference}
use Rattle.heap_difference.specs.Laid.{beside_firm}
use Rattle.heap_difference.specs.Passing.{IsUnderWay, ReadTheSame}
use Rattle.heap_difference.specs.Layers.{LayerView, with_layer, IsLaidBy}
use Rattle.heap_difference.proofs.LayerLemmas.{layers_hold}
use Rattle.run_engine.specs.declared.replay.prefix.NextStretch.{NextStretch}
use Rattle.run_engine.specs.declared.replay.rejoin.OldMark.{OldMark}
use Rattle.run_engine.specs.SegmentView.{SegmentView}
use Rattle.run_engine.specs.Segments.{ops_of, trace_of, mark_here, marks_from, all_marks, has_mark, BeginsMarked, IsPiece}
use Rattle.run_engine.specs.Steps.{IsUntouchedStretch}
use Rattle.run_engine.specs.inner.Untouched.{CanBeUnder, IsPassedOver, IsPartUnder, IsPartOnWay, IsWhole, IsNextPart}
use Rattle.run_engine.proofs.ListingLemmas.{around}
use Rattle.run_engine.proofs.SegmentLemmas.{trace_of-append, marks_from-append, AreReplayFrom-append}
use Rattle.run_engine.proofs.DifferenceLemmas.{footprints-append, moved-append, within-prefix, within-back, within-both}
use Rattle.run_engine.proofs.PieceLemmas.{AreFull-append}
use Rattle.run_engine.proofs.PlaceLemmas.{mark_here-place, marks_from-most, trace_of-prefix, trace_of-back}
use Rattle.run_engine.proofs.MarksLemmas.{HasNext, has-next, after-least, mark_here-bare, mark_here-marked}
use Rattle.run_engine.proofs.UntouchedLemmas.{full-few, sound-at}

-- whether a segment has its checkpoint
pub has_mark-is : (segments : List SegmentView) (i : ℕ) (s : SegmentView) → i < length segments → s ≡ get_or segments i s → has_mark segments i ≡ is_some s.mark
has_mark-is [] i s lt is = absurd (omega arith)
has_mark-is (t ∷ segments) zero s lt is = ap (λ (u : SegmentView). is_some u.mark) (sym is)
has_mark-is (t ∷ segments) (suc i) s lt is = has_mark-is segments i s (omega arith) is

has_mark-drop : (n : ℕ) (segments : List SegmentView) (k i : ℕ) → i ≡ n + k → has_mark (drop n segments) k ≡ has_mark segments i
has_mark-drop zero segments k i e = let same : k ≡ i = omega (arith, e) in ap (has_mark segments) same
has_mark-drop (suc n) [] k i e = refl
has_mark-drop (suc n) (s ∷ segments) k zero e = absurd (omega (arith, e))
has_mark-drop (suc n) (s ∷ segments) k (suc i) e = has_mark-drop n segments k i (omega (arith, e))

-- the segment at an index
record HasSegment (segments : List SegmentView) (i : ℕ) : Type 0 where
  it : SegmentView
  is : it ≡ get_or segments i it

there : (segments : List SegmentView) (i : ℕ) → i < length segments → HasSegment segments i
there [] i lt = absurd (omega arith)
there (s ∷ segments) zero lt = record { it = s; is = refl }
there (s ∷ segments) (suc i) lt = let h = there segments i (omega arith) in record { it = h.it; is = h.is }

-- ---- segments without a checkpoint
bare-first : (at : ℕ) (segments : List SegmentView) → has_mark segments 0 ≡ false → marks_from at (take 1 segments) ≡ []
bare-first at [] none = refl
bare-first at (s ∷ segments) none = append-nil (mark_here at s.mark) ∙ mark_here-bare at s.mark none

-- so it is with one more
bare-more : (segments : List SegmentView) (k : ℕ) → has_mark segments k ≡ false → ((at : ℕ) → marks_from at (take k segments) ≡ []) → (at : ℕ) → marks_from at (take (k + 1) segments) ≡ []
bare-more segments k none bare at =
    let p : ℕ = at + length (trace_of (take k segments)) in
    ap (marks_from at) (take-add k 1 segments)
    ∙ marks_from-append at (take k segments) (take 1 (drop k segments))
    ∙ ap (λ ps. ps ++ marks_from p (take 1 (drop k segments))) (bare at)
    ∙ bare-first p (drop k segments) (has_mark-drop k segments 0 k (omega arith) ∙ none)

-- where the first of these has a checkpoint, and no other, and one more has none
begins-more : (segments : List SegmentView) (s : SegmentView) → 0 < length segments → BeginsMarked segments → BeginsMarked (segments ++ s ∷ [])
begins-more [] s some h = absurd (omega arith)
begins-more (r ∷ segments) s some h = h

bare-behind : (segments : List SegmentView) (s : SegmentView) → is_some s.mark ≡ false → ((at : ℕ) → marks_from at (drop 1 segments) ≡ []) → (at : ℕ) → 0 < length segments → marks_from at (drop 1 (segments ++ s ∷ [])) ≡ []
bare-behind [] s none h at some = absurd (omega arith)
bare-behind (r ∷ segments) s none h at some =
    let p : ℕ = at + length (trace_of segments) in
    marks_from-append at segments (s ∷ []) ∙ ap (λ ps. ps ++ (mark_here p s.mark ++ [])) (h at) ∙ append-nil (mark_here p s.mark) ∙ mark_here-bare p s.mark none

-- there is one checkpoint, where the first begins
one-mark : (segments : List SegmentView) → 0 < length segments → BeginsMarked segments → ((at : ℕ) → marks_from at (drop 1 segments) ≡ []) → (at : ℕ) → marks_from at segments ≡ at ∷ []
one-mark [] some begins bare at = absurd (omega arith)
one-mark (s ∷ segments) some begins bare at =
    ap (λ ps. mark_here at s.mark ++ ps) (bare (at + length (ops_of s))) ∙ append-nil (mark_here at s.mark) ∙ mark_here-marked at s.mark begins

-- ---- operations that touch none of some keys
touched-append : (k : Key → Bool) (m n : State) (ops more : List Operation) → n ≡ end_from m ops → AreWithin k (footprints_from m ops ++ moved_from m ops) → AreWithin k (footprints_from n more ++ moved_from n more)
    → AreWithin k (footprints_from m (ops ++ more) ++ moved_from m (ops ++ more))
touched-append k m n ops more is h then =
    let l : AreWithin k (footprints_from (end_from m ops) more ++ moved_from (end_from m ops) more) = subst (λ (s : State). AreWithin k (footprints_from s more ++ moved_from s more)) is then in
    let e : State = end_from m ops in
    let feet : AreWithin k (footprints_from m ops ++ footprints_from e more) =
    within-both k (footprints_from m ops) (footprints_from e more) (within-prefix k (footprints_from m ops) (moved_from m ops) h) (within-prefix k (footprints_from e more) (moved_from e more) l) in
    let moves : AreWithin k (moved_from m ops ++ moved_from e more) =
    within-both k (moved_from m ops) (moved_from e more) (within-back k (footprints_from m ops) (moved_from m ops) h) (within-back k (footprints_from e more) (moved_from e more) l) in
    within-both k (footprints_from m (ops ++ more)) (moved_from m (ops ++ more))
    (subst (AreWithin k) (sym (footprints-append m ops more)) feet) (subst (AreWithin k) (sym (moved-append m ops more)) moves)

-- so it is with operations that read the same
same-append : (l : LayerView) (m n : State) (ops more : List Operation) → n ≡ end_from m ops → ReadTheSame l m ops → ReadTheSame l n more → ReadTheSame l m (ops ++ more)
same-append l m n ops more is h then = record {
  within = touched-append (beside_firm l.keys l.shifts) m n ops more is h.within then.within;
  blind = blind.appends (is_alike l.shifts) (is_loose l.fields) m ops more h.blind (subst (λ (k : State). AreBlindFrom (is_alike l.shifts) (is_loose l.fields) k more) is then.blind);
}

-- ---- one behind the other
-- no segment is taken over yet
pub part-none : (old : List SegmentView) (l : LayerView) (index : ℕ) (start : State) (segments : List SegmentView) → segments ≡ [] → index ≤ length old
    → IsLaidBy l (end_from nothing_held (trace_of (take index old))) start → AreUnused start (trace_of (drop index old)) → IsPartUnder old l index start segments
part-none old l index start segments none within laid unused =
    let here : index ≡ index + 0 = omega arith in
    subst (IsPartUnder old l index start) (sym none) (record {
      within = omega (arith, within);
      replay = tt;
      full = tt;
      begins = tt;
      bare = λ at. refl;
      old_bare = λ at. refl;
      trace = ap (λ n. trace_of (drop n old)) here;
      end_is = ap (λ n. end_from nothing_held (trace_of (take n old))) (sym here);
      same = record { within = tt; blind = tt };
      laid = subst (λ n. IsLaidBy l (end_from nothing_held (trace_of (take n old))) start) here laid;
      differs = λ d among differ. subst (λ n. IsDifference d (end_from nothing_held (trace_of (take n old))) start) here differ;
      unused = subst (λ n. AreUnused start (trace_of (drop n old))) here unused;
    })

-- the next one may be
pub part-may : (old : List SegmentView) (l : LayerView) (h : Holders) (index i : ℕ) (start : State) (segments : List SegmentView) → i ≡ index + length segments → i < length old → IsPartOnWay old l h index start segments
    → CanBeUnder old l h i (end_from start (trace_of segments))
part-may old l h index i start segments place lt on = record {
  within = lt;
  way = subst (λ n. IsUnderWay l h (end_from nothing_held (trace_of (take n old))) (end_from start (trace_of segments))) (sym place) on.way;
  unused = subst (λ n. AreUnused (end_from start (trace_of segments)) (trace_of (drop n old))) (sym place) on.part.unused;
}

-- one more is
part-more : (old : List SegmentView) (l : LayerView) (after : Holders) (index i : ℕ) (start : State) (segments : List SegmentView) (s : SegmentView) (marked : Bool) → i ≡ index + length segments → i < length old
    → IsPartUnder old l index start segments → IsPassedOver old l after i (end_from start (trace_of segments)) marked s → BeginsMarked (segments ++ s ∷ [])
    → ((at : ℕ) → marks_from at (drop 1 (segments ++ s ∷ [])) ≡ []) → ((at : ℕ) → marks_from at (take (length (segments ++ s ∷ []) - 1) (drop (index + 1) old)) ≡ [])
    → IsPartOnWay old l after index start (segments ++ s ∷ [])
part-more old l after index i start segments s marked place lt h next begins bare old_bare =
    let more : List SegmentView = segments ++ s ∷ [] in
    let m : State = end_from nothing_held (trace_of (take index old)) in
    let n : State = end_from nothing_held (trace_of (take i old)) in
    let there : i + 1 ≡ index + length (segments ++ s ∷ []) = omega (arith, length-append segments (s ∷ []), place) in
    let ops : trace_of (segments ++ s ∷ []) ≡ trace_of segments ++ ops_of s = trace_of-append segments (s ∷ []) ∙ ap (λ os. trace_of segments ++ os) (append-nil (ops_of s)) in
    let end : end_from (end_from start (trace_of segments)) (ops_of s) ≡ end_from start (trace_of (segments ++ s ∷ [])) = sym (appends.end start (trace_of segments) (ops_of s)) ∙ ap (end_from start) (sym ops) in
    let behind : trace_of (drop index old) ≡ trace_of segments ++ trace_of (drop i old) = h.trace ∙ ap (λ k. trace_of segments ++ trace_of (drop k old)) (sym place) in
    let here : n ≡ end_from m (trace_of segments) = ap (λ k. end_from nothing_held (trace_of (take k old))) place ∙ h.end_is in
    let way : IsUnderWay l after (end_from nothing_held (trace_of (take (index + length (segments ++ s ∷ [])) old))) (end_from start (trace_of (segments ++ s ∷ []))) =
    subst (IsUnderWay l after (end_from nothing_held (trace_of (take (index + length (segments ++ s ∷ [])) old)))) end
    (subst (λ k. IsUnderWay l after (end_from nothing_held (trace_of (take k old))) (end_from (end_from start (trace_of segments)) (ops_of s))) there next.way) in
    record {
      way = way;
      part = record {
        within = omega (arith, there, lt);
        replay = AreReplayFrom-append start segments (s ∷ []) h.replay (next.segment, tt);
        full = AreFull-append segments (s ∷ []) h.full (next.full, tt);
        begins = begins;
        bare = bare;
        old_bare = old_bare;
        trace = behind ∙ ap (λ os. trace_of segments ++ os) (next.trace ∙ ap (λ k. ops_of s ++ trace_of (drop k old)) there) ∙ sym (append_assoc (trace_of segments) (ops_of s) (trace_of (drop (index + length (segments ++ s ∷ [])) old)))
            ∙ ap (λ os. os ++ trace_of (drop (index + length (segments ++ s ∷ [])) old)) (sym ops);
        end_is = ap (λ k. end_from nothing_held (trace_of (take k old))) (sym there) ∙ next.end_is ∙ ap (λ (k : State). end_from k (ops_of s)) here ∙ sym (appends.end m (trace_of segments) (ops_of s)) ∙ ap (end_from m) (sym ops);
        same = subst (ReadTheSame l m) (sym ops) (same-append l m n (trace_of segments) (ops_of s) here h.same next.same);
        laid = way.is.laid;
        differs = λ d among differ.
            subst (IsDifference d (end_from nothing_held (trace_of (take (index + length (segments ++ s ∷ [])) old)))) end
            (subst (λ k. IsDifference d (end_from nothing_held (trace_of (take k old))) (end_from (end_from start (trace_of segments)) (ops_of s))) there
            (next.differs d among (subst (λ k. IsDifference d (end_from nothing_held (trace_of (take k old))) (end_from start (trace_of segments))) (sym place) (h.differs d among differ))));
        unused = subst (λ k. AreUnused k (trace_of (drop (index + length (segments ++ s ∷ [])) old))) end
            (subst (λ k. AreUnused (end_from (end_from start (trace_of segments)) (ops_of s)) (trace_of (drop k old))) there next.unused);
      };
    }

-- the first is, with a checkpoint
pub part-first : (old : List SegmentView) (l : LayerView) (after : Holders) (index : ℕ) (start new : State) (segments more : List SegmentView) (s : SegmentView) → segments ≡ [] → more ≡ s ∷ [] → start ≡ new → index < length old
    → IsPartUnder old l index start segments → IsPassedOver old l after index new true s → IsPartOnWay old l after index start more
part-first old l after index start new segments more s none is same lt h next =
    let place : index ≡ index + 0 = omega arith in
    subst (IsPartOnWay old l after index start) (sym is)
    (part-more old l after index index start [] s true place lt (subst (IsPartUnder old l index start) none h) (subst (λ (m : State). IsPassedOver old l after index m true s) (sym same) next) next.mark (λ at. refl) (λ at. refl))

-- so is one more, with none
pub part-next : (old : List SegmentView) (l : LayerView) (after : Holders) (index i : ℕ) (start : State) (segments more : List SegmentView) (s : SegmentView) → i ≡ index + length segments → i < length old → 0 < length segments → more ≡ segments ++ s ∷ []
    → has_mark old i ≡ false → IsPartUnder old l index start segments → IsPassedOver old l after i (end_from start (trace_of segments)) false s → IsPartOnWay old l after index start more
part-next old l after index i start segments more s place lt some is none h next =
    let k : ℕ = length segments - 1 in
    let there : index + 1 + k ≡ i = omega (arith, place, some) in
    let long : k + 1 ≡ length (segments ++ s ∷ []) - 1 = omega (arith, length-append segments (s ∷ []), some) in
    let far : has_mark (drop (index + 1) old) k ≡ false = has_mark-drop (index + 1) old k i (sym there) ∙ none in
    subst (IsPartOnWay old l after index start) (sym is)
    (part-more old l after index i start segments s false place lt h next (begins-more segments s some h.begins) (λ at. bare-behind segments s next.mark h.bare at some)
    (λ at. ap (λ n. marks_from at (take n (drop (index + 1) old))) (sym long) ∙ bare-more (drop (index + 1) old) k far h.old_bare at))

-- ---- the old stretch that a part lies in
-- the greatest of some positions at or before `at`, and none behind it
record HasLast (ps : List ℕ) (at : ℕ) : Type 0 where
  before : List ℕ
  from : ℕ
  is : ps ≡ before ++ from ∷ []
  le : from ≤ at

last-from : (at from : ℕ) (before : List ℕ) (segments : List SegmentView) → from ≤ at → HasLast (before ++ from ∷ marks_from at segments) (at + length (trace_of segments))
last-from at from before [] le = record { before = before; from = from; is = refl; le = omega arith }
last-from at from before (s ∷ segments) le =
    go s.mark refl (last-from (at + length (ops_of s)) from before segments (omega arith)) (last-from (at + length (ops_of s)) at (before ++ from ∷ []) segments (omega arith))
  where
    go : (o : Option State) → s.mark ≡ o → HasLast (before ++ from ∷ marks_from (at + length (ops_of s)) segments) (at + length (ops_of s) + length (trace_of segments))
        → HasLast ((before ++ from ∷ []) ++ at ∷ marks_from (at + length (ops_of s)) segments) (at + length (ops_of s) + length (trace_of segments))
        → HasLast (before ++ from ∷ (mark_here at s.mark ++ marks_from (at + length (ops_of s)) segments)) (at + length (ops_of s ++ trace_of segments))
    go None e h l = record {
      before = h.before;
      from = h.from;
      is = ap (λ o. before ++ from ∷ (mark_here at o ++ marks_from (at + length (ops_of s)) segments)) e ∙ h.is;
      le = omega (arith, h.le, length-append (ops_of s) (trace_of segments));
    }
    go (Some m) e h l = record {
      before = l.before;
      from = l.from;
      is = ap (λ o. before ++ from ∷ (mark_here at o ++ marks_from (at + length (ops_of s)) segments)) e ∙ sym (append_assoc before (from ∷ []) (at ∷ marks_from (at + length (ops_of s)) segments)) ∙ l.is;
      le = omega (arith, l.le, length-append (ops_of s) (trace_of segments));
    }

has-last : (segments : List SegmentView) → BeginsMarked segments → 0 < length segments → HasLast (marks_from 0 segments) (length (trace_of segments))
has-last [] begins some = absurd (omega arith)
has-last (s ∷ segments) begins some =
    let h : HasLast ([] ++ 0 ∷ marks_from (0 + length (ops_of s)) segments) (0 + length (ops_of s) + length (trace_of segments)) = last-from (0 + length (ops_of s)) 0 [] segments (omega arith) in
    record {
      before = h.before;
      from = h.from;
      is = ap (λ ps. ps ++ marks_from (0 + length (ops_of s)) segments) (mark_here-marked 0 s.mark begins) ∙ h.is;
      le = omega (arith, h.le, length-append (ops_of s) (trace_of segments));
    }

-- the operations from `at` on, `len` of them, lie between two neighbouring checkpoints: they are all between these, where a checkpoint stands there, and the rest
-- begins with one
record IsInside (marks : List ℕ) (at len : ℕ) (marked : Bool) (rest : List SegmentView) : Type 0 where
  before : List ℕ
  after : List ℕ
  from : ℕ
  long : ℕ
  marks_are : marks ≡ before ++ from ∷ (from + long) ∷ after
  begins : from ≤ at
  ends : at + len ≤ from + long
  whole : marked ≡ true → BeginsMarked rest → len ≡ long
  none : (p : ℕ) → Contains marks p → at < p → at + len ≤ p

first-marked : (a c : List SegmentView) (s : SegmentView) → BeginsMarked (a ++ s ∷ c) → s.mark ≡ None → (0 < length a) × BeginsMarked a
first-marked [] c s begins none = let t : is_some s.mark ≡ true = begins in absurd (let f : is_some s.mark ≡ false = ap is_some none in cc)
first-marked (r ∷ a) c s begins none = (omega arith, begins)

-- the checkpoints around them
marks-around : (a b c : List SegmentView) (s : SegmentView) (len : ℕ) → ((at : ℕ) → marks_from at b ≡ []) → length (trace_of (s ∷ b)) ≡ len
    → all_marks (a ++ ((s ∷ b) ++ c)) ≡ marks_from 0 a ++ (mark_here (length (trace_of a)) s.mark ++ (marks_from (length (trace_of a) + len) c ++ length (trace_of (a ++ ((s ∷ b) ++ c))) ∷ []))
marks-around a b c s len bare long =
    let p : ℕ = length (trace_of a) in
    let n : ℕ = length (trace_of (a ++ ((s ∷ b) ++ c))) in
    let here : 0 + length (trace_of a) ≡ p = omega arith in
    let own : marks_from p (s ∷ b) ≡ mark_here p s.mark = ap (λ ps. mark_here p s.mark ++ ps) (bare (p + length (ops_of s))) ∙ append-nil (mark_here p s.mark) in
    ap (λ ps. ps ++ n ∷ []) (marks_from-append 0 a ((s ∷ b) ++ c) ∙ ap (λ q. marks_from 0 a ++ marks_from q ((s ∷ b) ++ c)) here
    ∙ ap (λ ps. marks_from 0 a ++ ps) (marks_from-append p (s ∷ b) c ∙ ap (λ ps. ps ++ marks_from (p + length (trace_of (s ∷ b))) c) own ∙ ap (λ k. mark_here p s.mark ++ marks_from (p + k) c) long))
    ∙ append_assoc (marks_from 0 a) (mark_here p s.mark ++ marks_from (p + len) c) (n ∷ [])
    ∙ ap (λ ps. marks_from 0 a ++ ps) (append_assoc (mark_here p s.mark) (marks_from (p + len) c) (n ∷ []))

inside : (a b c : List SegmentView) (s : SegmentView) (len : ℕ) → BeginsMarked (a ++ ((s ∷ b) ++ c)) → ((at : ℕ) → marks_from at b ≡ []) → length (trace_of (s ∷ b)) ≡ len
    → IsInside (all_marks (a ++ ((s ∷ b) ++ c))) (length (trace_of a)) len (is_some s.mark) c
inside a b c s len begins bare long = go s.mark refl
  where
    p : ℕ
    p = length (trace_of a)

    n : ℕ
    n = length (trace_of (a ++ ((s ∷ b) ++ c)))

    all : n ≡ p + len + length (trace_of c)
    all =
        ap length (trace_of-append a ((s ∷ b) ++ c) ∙ ap (λ t. trace_of a ++ t) (trace_of-append (s ∷ b) c))
        ∙ omega (arith, long, length-append (trace_of a) (trace_of (s ∷ b) ++ trace_of c), length-append (trace_of (s ∷ b)) (trace_of c))

    next : HasNext (p + len) c n
    next = has-next (p + len) n c all

    rest : List ℕ
    rest = marks_from (p + len) c ++ n ∷ []

    marks : all_marks (a ++ ((s ∷ b) ++ c)) ≡ marks_from 0 a ++ (mark_here p s.mark ++ rest)
    marks = marks-around a b c s len bare long

    later : (q : ℕ) → Contains (marks_from 0 a ++ (mark_here p s.mark ++ rest)) q → p < q → p + len ≤ q
    later q h lt =
        ⊎_elim
        (λ x. let most : q ≤ 0 + length (trace_of a) = marks_from-most 0 a q x in absurd (omega (arith, most, lt)))
        (λ x.
        ⊎_elim
        (λ y. let e : q ≡ p = mark_here-place p q s.mark y in absurd (omega (arith, e, lt)))
        (λ y. after-least (p + len) n c q (omega (arith, all)) y)
        (Contains-append_cases (mark_here p s.mark) rest q x))
        (Contains-append_cases (marks_from 0 a) (mark_here p s.mark ++ rest) q h)

    go : (o : Option State) → s.mark ≡ o → IsInside (all_marks (a ++ ((s ∷ b) ++ c))) p len (is_some s.mark) c
    go None e =
        let front = first-marked a (b ++ c) s begins e in
        let last : HasLast (marks_from 0 a) p = has-last a front.1 front.0 in
        let far : p + len + next.gap ≡ last.from + (p + len + next.gap - last.from) = omega (arith, last.le) in
        record {
          before = last.before;
          after = next.after;
          from = last.from;
          long = p + len + next.gap - last.from;
          marks_are = marks ∙ ap (λ o. marks_from 0 a ++ (mark_here p o ++ rest)) e ∙ ap (λ ps. marks_from 0 a ++ ps) (next.is ∙ ap (λ q. q ∷ next.after) far) ∙ ap (λ ps. ps ++ (last.from + (p + len + next.gap - last.from)) ∷ next.after) last.is
              ∙ append_assoc last.before (last.from ∷ []) ((last.from + (p + len + next.gap - last.from)) ∷ next.after);
          begins = last.le;
          ends = omega (arith, far);
          whole = λ t. absurd (let f : is_some s.mark ≡ false = ap is_some e in cc);
          none = λ q h lt. later q (subst (λ ps. Contains ps q) marks h) lt;
        }
    go (Some m) e =
        let far : p + len + next.gap ≡ p + (len + next.gap) = omega arith in
        record {
          before = marks_from 0 a;
          after = next.after;
          from = p;
          long = len + next.gap;
          marks_are = marks ∙ ap (λ o. marks_from 0 a ++ (mark_here p o ++ rest)) e ∙ ap (λ ps. marks_from 0 a ++ p ∷ ps) (next.is ∙ ap (λ q. q ∷ next.after) far);
          begins = omega arith;
          ends = omega arith;
          whole = λ t follows. let none : next.gap ≡ 0 = next.first follows in omega (arith, none);
          none = λ q h lt. later q (subst (λ ps. Contains ps q) marks h) lt;
        }

-- so it is with some segments of a run, where none but the first has a checkpoint
inside-at : (old : List SegmentView) (index count len : ℕ) → BeginsMarked old → index < length old → 0 < count → ((at : ℕ) → marks_from at (take (count - 1) (drop (index + 1) old)) ≡ [])
    → length (trace_of (drop index old)) ≡ len + length (trace_of (drop (index + count) old)) → IsInside (all_marks old) (length (trace_of (take index old))) len (has_mark old index) (drop (index + count) old)
inside-at old index count len begins lt some bare same =
    let h : HasSegment old index = there old index lt in
    let s : SegmentView = h.it in
    let k : ℕ = count - 1 in
    let a : List SegmentView = take index old in
    let b : List SegmentView = take k (drop (index + 1) old) in
    let c : List SegmentView = drop k (drop (index + 1) old) in
    let here : drop index old ≡ s ∷ drop (index + 1) old = around old index s lt h.is in
    let mid : drop index old ≡ (s ∷ b) ++ c = here ∙ ap (λ ss. s ∷ ss) (sym (take-append-drop k (drop (index + 1) old))) in
    let parts : a ++ ((s ∷ b) ++ c) ≡ old = ap (λ ss. a ++ ss) (sym mid) ∙ take-append-drop index old in
    let j : index + 1 + k ≡ index + count = omega (arith, some) in
    let rest : c ≡ drop (index + count) old = drop-drop k (index + 1) old ∙ ap (λ n. drop n old) j in
    let both : length (trace_of (s ∷ b)) + length (trace_of c) ≡ len + length (trace_of c) =
    sym (length-append (trace_of (s ∷ b)) (trace_of c)) ∙ ap length (sym (trace_of-append (s ∷ b) c)) ∙ ap (λ ss. length (trace_of ss)) (sym mid) ∙ same ∙ ap (λ ss. len + length (trace_of ss)) (sym rest) in
    let long : length (trace_of (s ∷ b)) ≡ len = omega (arith, both) in
    let marked : is_some s.mark ≡ has_mark old index = sym (has_mark-is old index s lt h.is) in
    let it : IsInside (all_marks (a ++ ((s ∷ b) ++ c))) (length (trace_of a)) len (is_some s.mark) c = inside a b c s len (subst BeginsMarked (sym parts) begins) bare long in
    subst (λ ss. IsInside (all_marks old) (length (trace_of a)) len (has_mark old index) ss) rest
    (subst (λ m. IsInside (all_marks old) (length (trace_of a)) len m c) marked (subst (λ ss. IsInside (all_marks ss) (length (trace_of a)) len (is_some s.mark) c) parts it))

-- ---- where the heaps differ at an old place
-- what differs there
pub differs-at : (old : List SegmentView) (mark : OldMark) (heap : State) (keys : KeySet) → length (trace_of (take mark.index old)) ≡ mark.at → mark.mark ≡ end_from nothing_held (take mark.at (trace_of old)) → IsDifference keys mark.mark heap
    → IsDifference keys (end_from nothing_held (trace_of (take mark.index old))) heap
differs-at old mark heap keys place is differ = subst (λ (m : State). IsDifference keys m heap) (is ∙ ap (end_from nothing_held) (sym (trace_of-prefix old mark.index mark.at place))) differ

-- the layer makes the heap there
pub laid-at : (old : List SegmentView) (mark : OldMark) (heap : State) (keys : KeySet) (l : LayerView) → length (trace_of (take mark.index old)) ≡ mark.at → mark.mark ≡ end_from nothing_held (take mark.at (trace_of old))
    → IsDifference keys mark.mark heap → l.from ≡ heap → (IsDifference keys mark.mark heap → IsLaidBy l mark.mark heap) → IsLaidBy l (end_from nothing_held (trace_of (take mark.index old))) l.from
laid-at old mark heap keys l place is differ from laid =
    let here : mark.mark ≡ end_from nothing_held (trace_of (take mark.index old)) = is ∙ ap (end_from nothing_held) (sym (trace_of-prefix old mark.index mark.at place)) in
    subst (λ (m : State). IsLaidBy l m l.from) here (subst (IsLaidBy l mark.mark) (sym from) (laid differ))

-- and the counts differ there as its shifts say
pub counts-at : (old : List SegmentView) (mark : OldMark) (heap : State) (l : LayerView) → length (trace_of (take mark.index old)) ≡ mark.at → mark.mark ≡ end_from nothing_held (take mark.at (trace_of old))
    → l.from ≡ heap → AreShifts l.shifts mark.mark heap → AreShifts l.shifts (end_from nothing_held (trace_of (take mark.index old))) l.from
counts-at old mark heap l place is from counts =
    let here : mark.mark ≡ end_from nothing_held (trace_of (take mark.index old)) = is ∙ ap (end_from nothing_held) (sym (trace_of-prefix old mark.index mark.at place)) in
    subst (λ (m : State). AreShifts l.shifts m l.from) here (subst (AreShifts l.shifts mark.mark) (sym from) counts)

-- ---- what a replay goes on with
-- the operations of a part are the first from there on
first-of-part : (old : List SegmentView) (l : LayerView) (index : ℕ) (start : State) (segments : List SegmentView) → IsPartUnder old l index start segments → take (length (trace_of segments)) (trace_of (drop index old)) ≡ trace_of segments
first-of-part old l index start segments h =
    ap (take (length (trace_of segments))) h.trace ∙ take-append_seam (trace_of segments) (trace_of (drop (index + length segments) old))

long-of-part : (old : List SegmentView) (l : LayerView) (index : ℕ) (start : State) (segments : List SegmentView) → IsPartUnder old l index start segments
    → length (trace_of (drop index old)) ≡ length (trace_of segments) + length (trace_of (drop (index + length segments) old))
long-of-part old l index start segments h = ap length h.trace ∙ length-append (trace_of segments) (trace_of (drop (index + length segments) old))

part-piece : (old : List SegmentView) (l : LayerView) (index : ℕ) (start end : State) (segments : List SegmentView) → IsPartUnder old l index start segments → 0 < length segments → end ≡ end_from start (trace_of segments)
    → IsPiece start (trace_of (drop index old)) segments end (length (trace_of segments))
part-piece old l index start end segments h some is =
    let first = first-of-part old l index start segments h in
    record {
      some = omega (arith, some, full-few segments h.full);
      fits = omega (arith, long-of-part old l index start segments h);
      trace = sym first;
      replay = h.replay;
      full = h.full;
      begins = h.begins;
      state = is ∙ ap (end_from start) (sym first);
      marks = one-mark segments some h.begins h.bare;
    }

-- the old stretch that it lies in differs from the other heap in none that its operations touch
part-stretch : (old : List SegmentView) (l : LayerView) (index : ℕ) (start : State) (segments : List SegmentView) → BeginsMarked old → index < length old → IsLaidBy l (end_from nothing_held (trace_of (take index old))) start
    → IsPartUnder old l index start segments → 0 < length segments → (IsWhole old index (length segments) ⊎ (64 ≤ length (trace_of segments)))
    → IsUntouchedStretch (trace_of old) (all_marks old) start (trace_of (drop index old)) (length (trace_of segments))
part-stretch old l index start segments begins lt laid h some enough =
    let at : ℕ = length (trace_of (take index old)) in
    let len : ℕ = length (trace_of segments) in
    let m : State = end_from nothing_held (trace_of (take index old)) in
    let around_it : IsInside (all_marks old) at len (has_mark old index) (drop (index + length segments) old) =
    inside-at old index (length segments) len begins lt some h.old_bare (long-of-part old l index start segments h) in
    let here : m ≡ end_from nothing_held (take at (trace_of old)) = ap (end_from nothing_held) (trace_of-prefix old index at refl) in
    let ops : List Operation = take len (trace_of (drop index old)) in
    let same : ReadTheSame l m ops = subst (ReadTheSame l m) (sym (first-of-part old l index start segments h)) h.same in
    record {
      at = at;
      place = record {
        long = around_it.long;
        neighbours = record { before = around_it.before; after = around_it.after; at = around_it.from; marks_are = around_it.marks_are };
        begins = around_it.begins;
        ends = around_it.ends;
        enough = ⊎_elim (λ (w : IsWhole old index (length segments)). inl (around_it.whole w.begins w.ends)) (λ (many : 64 ≤ len). inr many) enough;
      };
      ops_are = ap (take len) (sym (trace_of-back old index at refl));
      keys = outside l.keys;
      objects = is_alike l.shifts;
      loose = is_loose l.fields;
      near = subst (λ (n : State). AreNear (outside l.keys) (is_alike l.shifts) (is_loose l.fields) n start) here (record { alike = laid.is.difference; near = laid.is.near });
      blind = subst (λ (n : State). AreBlindFrom (is_alike l.shifts) (is_loose l.fields) n ops) here same.blind;
      within = subst (λ (n : State). AreWithin (beside_firm l.keys l.shifts) (footprints_from n ops ++ moved_from n ops)) here same.within;
    }

-- the heap behind a part is the old one under the layer
pub end-part : (old : List SegmentView) (l : LayerView) (index count : ℕ) (part : List SegmentView) (after end : State) → IsTrue (has_distinct_numbers (trace_of old)) → IsPartUnder old l index l.from part → count ≡ length part
    → after ≡ end_from nothing_held (trace_of (take (index + count) old)) → end ≡ with_layer l after → end ≡ end_from l.from (trace_of part)
end-part old l index count part after end distinct h same is made =
    let here : after ≡ end_from nothing_held (trace_of (take (index + length part) old)) = is ∙ ap (λ n. end_from nothing_held (trace_of (take (index + n) old))) same in
    made ∙ layers_hold.made l after (end_from l.from (trace_of part)) (subst (λ (m : State). IsLaidBy l m (end_from l.from (trace_of part))) (sym here) h.laid) (subst (λ m. IsSound m []) (sym here) (sound-at old (index + length part) distinct))

-- a part is what a replay goes on with
pub is-next-part : (old : List SegmentView) (l : LayerView) (index : ℕ) (start end : State) (segments : List SegmentView) (next : NextStretch) → BeginsMarked old → index < length old → IsLaidBy l (end_from nothing_held (trace_of (take index old))) start
    → IsPartUnder old l index start segments → 0 < length segments → (IsWhole old index (length segments) ⊎ (64 ≤ length (trace_of segments))) → end ≡ end_from start (trace_of segments)
    → next.segments ≡ segments → next.len ≡ length (trace_of segments) → next.end ≡ end → IsNextPart old index start next
is-next-part old l index start end segments next begins lt laid h some enough is segments_are len_are end_are =
    let len : ℕ = length (trace_of segments) in
    let around_it : IsInside (all_marks old) (length (trace_of (take index old))) len (has_mark old index) (drop (index + length segments) old) =
    inside-at old index (length segments) len begins lt some h.old_bare (long-of-part old l index start segments h) in
    record {
      some = rw segments_are some;
      within = rw segments_are h.within;
      stretch = rw len_are (part-stretch old l index start segments begins lt laid h some enough);
      piece = rw (segments_are, len_are, end_are) (part-piece old l index start end segments h some is);
      trace = rw segments_are h.trace;
      len_is = rw segments_are len_are;
      end_is = rw segments_are (end_are ∙ is);
      none = λ at to place p k lt far.
          let behind : length (trace_of (take index old)) + len ≤ p = around_it.none p k (omega (arith, lt, place)) in
          omega (arith, behind, far, place, lt, len_are);
    }
