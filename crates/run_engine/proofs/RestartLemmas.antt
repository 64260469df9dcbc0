-- The greatest checkpoint at or before the head.
use Rattle.std.proofs.Common.{◌≡◌, ℕ, ◌+◌, ◌<◌, ◌≤◌, List, [], ◌∷◌, ◌++◌, length, take, drop, get_or, true, false, ap, sym, subst, ◌∙◌, arith, append_assoc, take-append-drop}
use Rattle.std.specs.Prelude.{Some, is_some, Contains}
use mathlib.Core.Logic.{◌⊎◌, inl, inr, ⊎_elim}
use Rattle.std.proofs.lemmas.List.{append-nil, take_more}
use Rattle.std.proofs.lemmas.List.Elements.{Contains-append_cases}
use Rattle.std.proofs.Math.Seq.{take-length}
use Rattle.ownership_model.specs.State.{State, nothing_held}
use Rattle.trace_types.specs.Operation.{Operation}
use Rattle.run_engine.specs.SegmentView.{SegmentView}
use Rattle.ownership_model.specs.Step.{end_from}
use Rattle.run_engine.specs.Segments.{trace_of, mark_here, marks_from, AreReplayFrom, AreFull, BeginsMarked, IsRun, IsReached, all_marks, IsRestart, IsLastFrom}
use Rattle.run_engine.proofs.SegmentLemmas.{AreReplayFrom-prefix, marks_from-append}
use Rattle.run_engine.proofs.ListingLemmas.{take-shorter}
use Rattle.run_engine.proofs.PieceLemmas.{AreFull-prefix, BeginsMarked-prefix}
use Rattle.run_engine.proofs.PlaceLemmas.{Contains-one, mark_here-place, mark_here-some, marks_from-least, marks_from-most, trace_of-prefix, place-within, mark-there, end-mark, all-within}

-- a loop that looks for the restart from behind: all checkpoints at or before the head are those of the first i segments
abbrev pub AreFirst : List SegmentView → ℕ → ℕ → Type 0
AreFirst segments head i = (p : ℕ) → Contains (all_marks segments) p → p ≤ head → Contains (marks_from 0 (take i segments)) p

-- behind the last segment that begins at or before the head there are none
pub AreFirst-last : (segments : List SegmentView) (head i at : ℕ) → IsLastFrom segments head i at → head < length (trace_of segments) → AreFirst segments head (i + 1)
AreFirst-last segments head i at h more p mark le =
    let n : ℕ = length (trace_of segments) in
    let prefix : List SegmentView = take (i + 1) segments in
    let rest : List SegmentView = drop (i + 1) segments in
    let next : head < length (trace_of (take (i + 1) segments)) = (h.inside more).1 in
    let list : all_marks segments ≡ marks_from 0 prefix ++ (marks_from (0 + length (trace_of prefix)) rest ++ n ∷ []) =
    ap (λ ss. marks_from 0 ss ++ n ∷ []) (sym (take-append-drop (i + 1) segments)) ∙ ap (λ ps. ps ++ n ∷ []) (marks_from-append 0 prefix rest)
    ∙ append_assoc (marks_from 0 prefix) (marks_from (0 + length (trace_of prefix)) rest) (n ∷ []) in
    ⊎_elim (λ k. k)
    (λ k. ⊎_elim
    (λ m. let least : 0 + length (trace_of (take (i + 1) segments)) ≤ p = marks_from-least (0 + length (trace_of prefix)) rest p m in absurd (omega arith))
    (λ m. let e : length (trace_of segments) ≡ p = Contains-one _ p m in absurd (omega arith))
    (Contains-append_cases (marks_from (0 + length (trace_of prefix)) rest) (n ∷ []) p k))
    (Contains-append_cases (marks_from 0 prefix) (marks_from (0 + length (trace_of prefix)) rest ++ n ∷ []) p (subst (λ ps. Contains ps p) list mark))

marks-up-to : (segments : List SegmentView) (j : ℕ) (s : SegmentView) → j < length segments → s ≡ get_or segments j s
    → marks_from 0 (take (j + 1) segments) ≡ marks_from 0 (take j segments) ++ (mark_here (0 + length (trace_of (take j segments))) s.mark ++ [])
marks-up-to segments j s lt is = ap (marks_from 0) (take_more segments j s lt ∙ ap (λ t. take j segments ++ t ∷ []) (sym is)) ∙ marks_from-append 0 (take j segments) (s ∷ [])

-- a checkpoint of the first j + 1 segments is that of the last of them, or one before it
mark-up-to : (segments : List SegmentView) (j p : ℕ) (s : SegmentView) → j < length segments → s ≡ get_or segments j s → Contains (marks_from 0 (take (j + 1) segments)) p
    → Contains (marks_from 0 (take j segments)) p ⊎ Contains (mark_here (0 + length (trace_of (take j segments))) s.mark) p
mark-up-to segments j p s lt is h =
    ⊎_elim (λ k. inl k) (λ k. inr (subst (λ ps. Contains ps p) (append-nil (mark_here (0 + length (trace_of (take j segments))) s.mark)) k))
    (Contains-append_cases (marks_from 0 (take j segments)) (mark_here (0 + length (trace_of (take j segments))) s.mark ++ []) p (subst (λ ps. Contains ps p) (marks-up-to segments j s lt is) h))

-- a segment without a checkpoint
pub AreFirst-bare : (segments : List SegmentView) (head i j : ℕ) (s : SegmentView) → AreFirst segments head i → j + 1 ≡ i → j < length segments → s ≡ get_or segments j s → is_some s.mark ≡ false → AreFirst segments head j
AreFirst-bare segments head i j s h next lt is bare p mark le =
    ⊎_elim (λ k. k) (λ k. let t : is_some s.mark ≡ true = mark_here-some (0 + length (trace_of (take j segments))) p s.mark k in cc)
    (mark-up-to segments j p s lt is (subst (λ n. Contains (marks_from 0 (take n segments)) p) (sym next) (h p mark le)))

-- the last checkpoint among those
pub IsRestart-there : (segments : List SegmentView) (head i j at last from : ℕ) (heap m : State) (s : SegmentView) → AreReplayFrom nothing_held segments → AreFirst segments head i → j + 1 ≡ i → j < length segments → s ≡ get_or segments j s → s.mark ≡ Some m
    → length (trace_of (take j segments)) ≡ at → IsLastFrom segments head last from → j ≤ last → heap ≡ end_from nothing_held (trace_of (take j segments)) → IsRestart segments head j at heap
IsRestart-there segments head i j at last from heap m s replay h next lt is marked place bound le same =
    let cut : take j (take last segments) ≡ take j segments = take-shorter j last segments le in
    let before : at ≤ length (trace_of (take last segments)) = place-within (take last segments) j at (ap (λ ss. length (trace_of ss)) cut ∙ place) in
    let early = bound.before in
    let stands = bound.place in
    record {
      within = omega arith;
      place = place;
      greatest = record {
        mark = mark-there segments j at s m lt is marked place;
        early = omega arith;
        most = λ p mark few. ⊎_elim
            (λ k. let most : p ≤ 0 + length (trace_of (take j segments)) = marks_from-most 0 (take j segments) p k in omega arith)
            (λ k. let e : p ≡ 0 + length (trace_of (take j segments)) = mark_here-place (0 + length (trace_of (take j segments))) p s.mark k in omega arith)
            (mark-up-to segments j p s lt is (subst (λ n. Contains (marks_from 0 (take n segments)) p) (sym next) (h p mark few)));
      };
      heap_is = same;
    }

-- the whole trace is the head
pub IsRestart-end : (segments : List SegmentView) (end : State) (head n : ℕ) → IsRun segments end → length (trace_of segments) ≡ n → n ≤ head → IsRestart segments head (length segments) n end
IsRestart-end segments end head n run all le =
    let whole : take (length segments) segments ≡ segments = take-length segments in
    record {
      within = omega arith;
      place = ap (λ ss. length (trace_of ss)) whole ∙ all;
      greatest = record { mark = subst (Contains (all_marks segments)) all (end-mark segments); early = le; most = λ p mark k. all-within segments p n mark (omega arith) };
      heap_is = run.state ∙ ap (λ ss. end_from nothing_held (trace_of ss)) (sym whole);
    }

-- the prefix that is kept
pub IsReached-restart : (segments kept : List SegmentView) (end heap : State) (ops : List Operation) (head i at : ℕ) → IsRun segments end → IsRestart segments head i at heap → kept ≡ take i segments
    → take head (trace_of segments) ≡ take head ops → head ≤ length ops → IsReached ops at kept heap
IsReached-restart segments kept end heap ops head i at run h is same within =
    let parts : take i segments ++ drop i segments ≡ segments = take-append-drop i segments in
    let early = h.greatest.early in
    let prefix : trace_of (take i segments) ≡ take at ops =
    trace_of-prefix segments i at h.place ∙ sym (take-shorter at head (trace_of segments) early) ∙ ap (take at) same ∙ take-shorter at head ops early in
    subst (λ ss. IsReached ops at ss heap) (sym is) (record {
      within = omega arith;
      trace = prefix;
      replay = AreReplayFrom-prefix nothing_held (take i segments) (drop i segments) (subst (AreReplayFrom nothing_held) (sym parts) run.replay);
      full = AreFull-prefix (take i segments) (drop i segments) (subst AreFull (sym parts) run.full);
      begins = BeginsMarked-prefix (take i segments) (drop i segments) (subst BeginsMarked (sym parts) run.begins);
      state = h.heap_is ∙ ap (end_from nothing_held) prefix;
    })

-- before the restart both traces have the same operations
pub same-prefix : (old ops : List Operation) (head at : ℕ) → at ≤ head → take head old ≡ take head ops → take at ops ≡ take at old
same-prefix old ops head at early same = sym (take-shorter at head ops early) ∙ ap (take at) (sym same) ∙ take-shorter at head old early
