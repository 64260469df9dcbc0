-- A checkpoint that is given up.
use Rattle.std.proofs.Common.{◌≡◌, ◌≢◌, ℕ, ◌+◌, ◌<◌, ◌≤◌, suc, zero, Bool, true, false, cond, nat_eq, eq-eqb, List, [], ◌∷◌, ◌++◌, length, take, get_or, refl, ap, sym, subst, ◌∙◌, arith, length-append}
use Rattle.std.specs.Prelude.{Some, None, Option, is_some, Contains, not, ◌↔◌, if◌then◌else◌}
use mathlib.Core.Logic.{⊎_elim}
use Rattle.std.proofs.lemmas.Bool.{ne_eqb}
use Rattle.std.proofs.lemmas.List.Elements.{filter-append, Contains-append_cases, Contains-append_left, Contains-append_right}
use Rattle.ownership_model.specs.State.{State, nothing_held}
use Rattle.ownership_model.specs.Step.{end_from}
use Rattle.run_engine.specs.SegmentView.{SegmentView}
use Rattle.run_engine.specs.Segments.{ops_of, trace_of, mark_here, marks_from, all_marks, AreFull, BeginsMarked, IsKept, IsInner, IsNoMark, has_mark, without, without_mark}
use Rattle.run_engine.proofs.SegmentLemmas.{trace_of-without_mark, AreReplayFrom-without_mark}
use Rattle.run_engine.proofs.PieceLemmas.{is_some-none}
use Rattle.run_engine.proofs.PlaceLemmas.{Contains-one, mark_here-place, mark_here-some, marks_from-least}

without-here : (p at : ℕ) (o : Option State) → at ≢ p → without p (mark_here at o) ≡ mark_here at o
without-here p at None ne = refl
without-here p at (Some m) ne = ap (λ b. cond (not b) (at ∷ []) []) (ne_eqb at p ne)

without-later : (p at : ℕ) (segments : List SegmentView) → p < at → without p (marks_from at segments) ≡ marks_from at segments
without-later p at [] lt = refl
without-later p at (s ∷ segments) lt =
    filter-append (λ q. not (nat_eq q p)) (mark_here at s.mark) (marks_from (at + length (ops_of s)) segments)
    ∙ ap (λ ps. ps ++ without p (marks_from (at + length (ops_of s)) segments)) (without-here p at s.mark (λ e. omega arith))
    ∙ ap (λ ps. mark_here at s.mark ++ ps) (without-later p (at + length (ops_of s)) segments (omega arith))

without-own : (p : ℕ) (o : Option State) → without p (mark_here p o) ≡ []
without-own p None = refl
without-own p (Some m) = ap (λ b. cond (not b) (p ∷ []) []) (eq-eqb p p refl)

pub marks-without : (at : ℕ) (segments : List SegmentView) (i : ℕ) → AreFull segments → i < length segments
    → marks_from at (without_mark segments i) ≡ without (at + length (trace_of (take i segments))) (marks_from at segments)
marks-without at [] i full lt = absurd (omega arith)
marks-without at (s ∷ segments) zero full lt =
    let some = full.0 in
    let here : at + 0 ≡ at = omega arith in
    let rest : List ℕ = marks_from (at + length (ops_of s)) segments in
    sym (ap (λ p. without p (mark_here at s.mark ++ rest)) here
    ∙ filter-append (λ q. not (nat_eq q at)) (mark_here at s.mark) rest
    ∙ ap (λ ps. ps ++ without at rest) (without-own at s.mark)
    ∙ without-later at (at + length (ops_of s)) segments (omega arith))
marks-without at (s ∷ segments) (suc i) full lt =
    let some = full.0 in
    let long = length-append (ops_of s) (trace_of (take i segments)) in
    let p : ℕ = at + length (ops_of s ++ trace_of (take i segments)) in
    let place : at + length (ops_of s) + length (trace_of (take i segments)) ≡ at + length (ops_of s ++ trace_of (take i segments)) = omega arith in
    ap (λ ps. mark_here at s.mark ++ ps) (marks-without (at + length (ops_of s)) segments i full.1 (omega arith) ∙ ap (λ q. without q (marks_from (at + length (ops_of s)) segments)) place)
    ∙ ap (λ ps. ps ++ without p (marks_from (at + length (ops_of s)) segments)) (sym (without-here p at s.mark (λ e. omega arith)))
    ∙ sym (filter-append (λ q. not (nat_eq q p)) (mark_here at s.mark) (marks_from (at + length (ops_of s)) segments))

contains-own : (p : ℕ) (o : Option State) → is_some o ≡ true → Contains (mark_here p o) p
contains-own p None h = cc
contains-own p (Some m) h = (0, omega arith, refl)

pub has_mark-contains : (at : ℕ) (segments : List SegmentView) (i : ℕ) → has_mark segments i ≡ true → Contains (marks_from at segments) (at + length (trace_of (take i segments)))
has_mark-contains at [] i h = cc
has_mark-contains at (s ∷ segments) zero h =
    let here : at + 0 ≡ at = omega arith in
    subst (λ p. Contains (mark_here at s.mark ++ marks_from (at + length (ops_of s)) segments) p) (sym here) (Contains-append_left (mark_here at s.mark) (marks_from (at + length (ops_of s)) segments) at (contains-own at s.mark h))
has_mark-contains at (s ∷ segments) (suc i) h =
    let long = length-append (ops_of s) (trace_of (take i segments)) in
    let place : at + length (ops_of s) + length (trace_of (take i segments)) ≡ at + length (ops_of s ++ trace_of (take i segments)) = omega arith in
    Contains-append_right (mark_here at s.mark) (marks_from (at + length (ops_of s)) segments) _ (subst (λ p. Contains (marks_from (at + length (ops_of s)) segments) p) place (has_mark-contains (at + length (ops_of s)) segments i h))

pub contains-has_mark : (at : ℕ) (segments : List SegmentView) (i : ℕ) → AreFull segments → i < length segments → Contains (marks_from at segments) (at + length (trace_of (take i segments))) → has_mark segments i ≡ true
contains-has_mark at [] i full lt h = absurd (omega arith)
contains-has_mark at (s ∷ segments) zero full lt h =
    let some = full.0 in
    ⊎_elim (λ x. mark_here-some at (at + 0) s.mark x) (λ x. let le : at + length (ops_of s) ≤ at + 0 = marks_from-least (at + length (ops_of s)) segments (at + 0) x in absurd (omega arith))
    (Contains-append_cases (mark_here at s.mark) (marks_from (at + length (ops_of s)) segments) (at + 0) h)
contains-has_mark at (s ∷ segments) (suc i) full lt h =
    let some = full.0 in
    let long = length-append (ops_of s) (trace_of (take i segments)) in
    let p : ℕ = at + length (ops_of s ++ trace_of (take i segments)) in
    let place : at + length (ops_of s ++ trace_of (take i segments)) ≡ at + length (ops_of s) + length (trace_of (take i segments)) = omega arith in
    ⊎_elim (λ x. let e : p ≡ at = mark_here-place at p s.mark x in absurd (omega arith))
    (λ x. contains-has_mark (at + length (ops_of s)) segments i full.1 (omega arith) (subst (λ q. Contains (marks_from (at + length (ops_of s)) segments) q) place x))
    (Contains-append_cases (mark_here at s.mark) (marks_from (at + length (ops_of s)) segments) p h)

-- a segment inside begins inside
pub place-inner : (segments : List SegmentView) (i : ℕ) → AreFull segments → i < length segments → length (trace_of (take i segments)) < length (trace_of segments)
place-inner [] i full lt = absurd (omega arith)
place-inner (s ∷ segments) zero full lt = let some = full.0 in omega (arith, length-append (ops_of s) (trace_of segments))
place-inner (s ∷ segments) (suc i) full lt =
    let h = place-inner segments i full.1 (omega arith) in
    omega (arith, length-append (ops_of s) (trace_of segments), length-append (ops_of s) (trace_of (take i segments)))

pub place-behind : (segments : List SegmentView) (i : ℕ) → AreFull segments → i < length segments → 0 < i → 0 < length (trace_of (take i segments))
place-behind [] i full lt pos = absurd (omega arith)
place-behind (s ∷ segments) zero full lt pos = absurd (omega arith)
place-behind (s ∷ segments) (suc i) full lt pos = let some = full.0 in omega (arith, length-append (ops_of s) (trace_of (take i segments)))

pub without_mark-none : (segments : List SegmentView) (i : ℕ) → has_mark segments i ≡ false → without_mark segments i ≡ segments
without_mark-none [] i h = refl
without_mark-none (s ∷ segments) zero h = ap (λ o. record s { mark = o } ∷ segments) (sym (is_some-none s.mark h))
without_mark-none (s ∷ segments) (suc i) h = ap (λ ss. s ∷ ss) (without_mark-none segments i h)

-- what `give_up` makes of the segment i, which begins at p
pub all_marks-without : (segments : List SegmentView) (i p : ℕ) → AreFull segments → i < length segments → length (trace_of (take i segments)) ≡ p → all_marks (without_mark segments i) ≡ without p (all_marks segments)
all_marks-without segments i p full lt e =
    let n : ℕ = length (trace_of segments) in
    let inner = place-inner segments i full lt in
    let place : 0 + length (trace_of (take i segments)) ≡ p = omega arith in
    ap (λ t. marks_from 0 (without_mark segments i) ++ length t ∷ []) (trace_of-without_mark segments i)
    ∙ ap (λ ps. ps ++ n ∷ []) (marks-without 0 segments i full lt ∙ ap (λ q. without q (marks_from 0 segments)) place)
    ∙ ap (λ ps. without p (marks_from 0 segments) ++ ps) (sym (ap (λ b. cond (not b) (n ∷ []) []) (ne_eqb n p (λ x. omega arith))))
    ∙ sym (filter-append (λ q. not (nat_eq q p)) (marks_from 0 segments) (n ∷ []))

pub IsInner-answer : (segments : List SegmentView) (i p : ℕ) → AreFull segments → i < length segments → 0 < i → length (trace_of (take i segments)) ≡ p → (has_mark segments i ≡ true) ↔ IsInner (all_marks segments) (length (trace_of segments)) p
IsInner-answer segments i p full lt pos e =
    let inner = place-inner segments i full lt in
    let behind = place-behind segments i full lt pos in
    let place : 0 + length (trace_of (take i segments)) ≡ p = omega arith in (
      λ h. record { mark = Contains-append_left (marks_from 0 segments) (length (trace_of segments) ∷ []) p (subst (λ q. Contains (marks_from 0 segments) q) place (has_mark-contains 0 segments i h)); behind = omega arith; before = omega arith },
      λ h. contains-has_mark 0 segments i full lt (subst (λ q. Contains (marks_from 0 segments) q) (sym place)
          (⊎_elim (λ x. x) (λ x. let b = h.before in let c : length (trace_of segments) ≡ p = Contains-one _ p x in absurd (omega arith)) (Contains-append_cases (marks_from 0 segments) (length (trace_of segments) ∷ []) p h.mark))),
    )

pub has_mark-at : (segments : List SegmentView) (i : ℕ) (s : SegmentView) → i < length segments → s ≡ get_or segments i s → has_mark segments i ≡ is_some s.mark
has_mark-at [] i s lt is = absurd (omega arith)
has_mark-at (t ∷ segments) zero s lt is = ap (λ (u : SegmentView). is_some u.mark) (sym is)
has_mark-at (t ∷ segments) (suc i) s lt is = has_mark-at segments i s (omega arith) is

pub IsInner-none : (segments : List SegmentView) (p : ℕ) → IsNoMark segments p → IsInner (all_marks segments) (length (trace_of segments)) p → ⊥
IsInner-none segments p away h = away (⊎_elim (λ x. x) (λ x. let b = h.before in let c : length (trace_of segments) ≡ p = Contains-one _ p x in absurd (omega arith)) (Contains-append_cases (marks_from 0 segments) (length (trace_of segments) ∷ []) p h.mark))

pub given-up : (segments : List SegmentView) (i p : ℕ) (answer : Bool) → AreFull segments → i < length segments → length (trace_of (take i segments)) ≡ p → answer ≡ has_mark segments i
    → all_marks (without_mark segments i) ≡ (if answer then without p (all_marks segments) else all_marks segments)
given-up segments i p true full lt e is = all_marks-without segments i p full lt e
given-up segments i p false full lt e is = ap all_marks (without_mark-none segments i (sym is))

pub AreFull-without_mark : (segments : List SegmentView) (i : ℕ) → AreFull segments → AreFull (without_mark segments i)
AreFull-without_mark [] i h = tt
AreFull-without_mark (s ∷ segments) zero h = h
AreFull-without_mark (s ∷ segments) (suc i) h = (h.0, AreFull-without_mark segments i h.1)

pub BeginsMarked-without_mark : (segments : List SegmentView) (i : ℕ) → 0 < i → BeginsMarked segments → BeginsMarked (without_mark segments i)
BeginsMarked-without_mark [] i lt h = tt
BeginsMarked-without_mark (s ∷ segments) zero lt h = absurd (omega arith)
BeginsMarked-without_mark (s ∷ segments) (suc i) lt h = h

pub IsKept-without_mark : (segments : List SegmentView) (end : State) (i : ℕ) → 0 < i → IsKept segments end → IsKept (without_mark segments i) end
IsKept-without_mark segments end i lt h =
    let t = trace_of-without_mark segments i in
    record {
      run = record {
        replay = AreReplayFrom-without_mark nothing_held segments i h.run.replay;
        full = AreFull-without_mark segments i h.run.full;
        begins = BeginsMarked-without_mark segments i lt h.run.begins;
        state = h.run.state ∙ ap (end_from nothing_held) (sym t);
      };
      trace = rw t h.trace;
    }
