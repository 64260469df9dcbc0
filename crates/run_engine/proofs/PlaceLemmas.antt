-- Where segments and their checkpoints stand.
use Rattle.std.proofs.Common.{◌≡◌, ℕ, ◌+◌, ◌<◌, ◌≤◌, suc, zero, List, [], ◌∷◌, ◌++◌, length, take, drop, get_or, true, refl, ap, sym, subst, ◌∙◌, arith, append_assoc, length-append, take-append-drop}
use Rattle.std.specs.Prelude.{Some, None, Option, is_some, Contains, IsTrue}
use mathlib.Core.Logic.{⊎_elim}
use Rattle.std.proofs.lemmas.List.Elements.{Contains-append_cases, Contains-append_left, Contains-append_right}
use Rattle.std.proofs.Math.Seq.{drop-append_seam, take-append_seam}
use Rattle.ownership_model.specs.State.{State}
use Rattle.run_engine.specs.SegmentView.{SegmentView}
use Rattle.run_engine.specs.Segments.{ops_of, trace_of, mark_here, marks_from, AreFull, BeginsMarked, all_marks}
use Rattle.run_engine.proofs.SegmentLemmas.{trace_of-append, marks_from-append}
use Rattle.run_engine.proofs.ListingLemmas.{around}

pub Contains-one : (x p : ℕ) → Contains (x ∷ []) p → x ≡ p
Contains-one x p (zero, lt, e) = e
Contains-one x p (suc k, lt, e) = absurd (omega (arith, lt))

pub Contains-none : (p : ℕ) → Contains [] p → ⊥
Contains-none p (k, lt, e) = omega (arith, lt)

pub mark_here-place : (at p : ℕ) (o : Option State) → Contains (mark_here at o) p → p ≡ at
mark_here-place at p None h = absurd (Contains-none p h)
mark_here-place at p (Some m) h = sym (Contains-one at p h)

pub mark_here-some : (at p : ℕ) (o : Option State) → Contains (mark_here at o) p → is_some o ≡ true
mark_here-some at p None h = absurd (Contains-none p h)
mark_here-some at p (Some m) h = refl

-- the checkpoints of segments that begin at `at` are there or behind
pub marks_from-least : (at : ℕ) (segments : List SegmentView) (p : ℕ) → Contains (marks_from at segments) p → at ≤ p
marks_from-least at [] p h = absurd (Contains-none p h)
marks_from-least at (s ∷ segments) p h = ⊎_elim
    (λ here. let e : p ≡ at = mark_here-place at p s.mark here in omega arith)
    (λ later. let le : at + length (ops_of s) ≤ p = marks_from-least (at + length (ops_of s)) segments p later in omega arith)
    (Contains-append_cases (mark_here at s.mark) (marks_from (at + length (ops_of s)) segments) p h)

-- the operations of the segments before a place and from there on
pub trace_of-parted : (old : List SegmentView) (i : ℕ) → trace_of (take i old) ++ trace_of (drop i old) ≡ trace_of old
trace_of-parted old i = sym (trace_of-append (take i old) (drop i old)) ∙ ap trace_of (take-append-drop i old)

-- the trace around a segment's place
pub trace_of-prefix : (old : List SegmentView) (i at : ℕ) → length (trace_of (take i old)) ≡ at → trace_of (take i old) ≡ take at (trace_of old)
trace_of-prefix old i at e =
    sym (take-append_seam (trace_of (take i old)) (trace_of (drop i old)))
    ∙ ap (λ n. take n (trace_of (take i old) ++ trace_of (drop i old))) e
    ∙ ap (take at) (trace_of-parted old i)

pub trace_of-back : (old : List SegmentView) (i at : ℕ) → length (trace_of (take i old)) ≡ at → trace_of (drop i old) ≡ drop at (trace_of old)
trace_of-back old i at e =
    sym (drop-append_seam (trace_of (take i old)) (trace_of (drop i old)))
    ∙ ap (λ n. drop n (trace_of (take i old) ++ trace_of (drop i old))) e
    ∙ ap (drop at) (trace_of-parted old i)

pub place-within : (old : List SegmentView) (i at : ℕ) → length (trace_of (take i old)) ≡ at → at ≤ length (trace_of old)
place-within old i at e =
    let whole : length (trace_of old) ≡ length (trace_of (take i old) ++ trace_of (drop i old)) = ap length (ap trace_of (sym (take-append-drop i old)) ∙ trace_of-append (take i old) (drop i old)) in
    omega (arith, length-append (trace_of (take i old)) (trace_of (drop i old)))

-- the checkpoints around the one of a segment
pub marks-at : (old : List SegmentView) (i at : ℕ) (s : SegmentView) (m : State) → i < length old → s ≡ get_or old i s → s.mark ≡ Some m → length (trace_of (take i old)) ≡ at
    → all_marks old ≡ marks_from 0 (take i old) ++ (at ∷ (marks_from (at + length (ops_of s)) (drop (i + 1) old) ++ length (trace_of old) ∷ []))
marks-at old i at s m lt is mark place =
    let n : ℕ = length (trace_of old) in
    let zero_place : 0 + length (trace_of (take i old)) ≡ at = omega arith in
    let list : marks_from at (drop i old) ++ n ∷ [] ≡ at ∷ (marks_from (at + length (ops_of s)) (drop (i + 1) old) ++ n ∷ []) =
    ap (λ ss. marks_from at ss ++ n ∷ []) (around old i s lt is) ∙ ap (λ o. (mark_here at o ++ marks_from (at + length (ops_of s)) (drop (i + 1) old)) ++ n ∷ []) mark in
    ap (λ ss. marks_from 0 ss ++ n ∷ []) (sym (take-append-drop i old)) ∙ ap (λ ps. ps ++ n ∷ []) (marks_from-append 0 (take i old) (drop i old))
    ∙ append_assoc (marks_from 0 (take i old)) (marks_from (0 + length (trace_of (take i old))) (drop i old)) (n ∷ [])
    ∙ ap (λ p. marks_from 0 (take i old) ++ (marks_from p (drop i old) ++ n ∷ [])) zero_place ∙ ap (λ ps. marks_from 0 (take i old) ++ ps) list

Contains-first : (x : ℕ) (xs : List ℕ) → Contains (x ∷ xs) x
Contains-first x xs = (zero, omega arith, refl)

-- where a segment has its checkpoint, there is one
pub mark-there : (old : List SegmentView) (i at : ℕ) (s : SegmentView) (m : State) → i < length old → s ≡ get_or old i s → s.mark ≡ Some m → length (trace_of (take i old)) ≡ at → Contains (all_marks old) at
mark-there old i at s m lt is mark place =
    let rest : List ℕ = marks_from (at + length (ops_of s)) (drop (i + 1) old) ++ length (trace_of old) ∷ [] in
    subst (λ ps. Contains ps at) (sym (marks-at old i at s m lt is mark place)) (Contains-append_right (marks_from 0 (take i old)) (at ∷ rest) at (Contains-first at rest))

pub end-mark : (segments : List SegmentView) → Contains (all_marks segments) (length (trace_of segments))
end-mark segments = Contains-append_right (marks_from 0 segments) (length (trace_of segments) ∷ []) (length (trace_of segments)) (Contains-first (length (trace_of segments)) [])

marked-first : (o : Option State) (rest : List ℕ) → IsTrue (is_some o) → Contains (mark_here 0 o ++ rest) 0
marked-first None rest h = absurd cc
marked-first (Some m) rest h = Contains-first 0 rest

pub first-mark-there : (segments : List SegmentView) → BeginsMarked segments → Contains (all_marks segments) 0
first-mark-there [] h = Contains-first 0 []
first-mark-there (s ∷ segments) h =
    let rest : List ℕ = marks_from (0 + length (ops_of s)) segments in
    Contains-append_left (mark_here 0 s.mark ++ rest) (length (trace_of (s ∷ segments)) ∷ []) 0 (marked-first s.mark rest h)

-- no checkpoint stands behind the end
pub marks_from-most : (at : ℕ) (segments : List SegmentView) (p : ℕ) → Contains (marks_from at segments) p → p ≤ at + length (trace_of segments)
marks_from-most at [] p h = absurd (Contains-none p h)
marks_from-most at (s ∷ segments) p h =
    let long = length-append (ops_of s) (trace_of segments) in
    ⊎_elim
    (λ here. let e : p ≡ at = mark_here-place at p s.mark here in omega arith)
    (λ later. let le : p ≤ at + length (ops_of s) + length (trace_of segments) = marks_from-most (at + length (ops_of s)) segments p later in omega arith)
    (Contains-append_cases (mark_here at s.mark) (marks_from (at + length (ops_of s)) segments) p h)

pub all-within : (segments : List SegmentView) (p here : ℕ) → Contains (all_marks segments) p → length (trace_of segments) ≤ here → p ≤ here
all-within segments p here h le = ⊎_elim
    (λ m. let most : p ≤ 0 + length (trace_of segments) = marks_from-most 0 segments p m in omega arith)
    (λ m. let e : length (trace_of segments) ≡ p = Contains-one _ p m in omega arith)
    (Contains-append_cases (marks_from 0 segments) (length (trace_of segments) ∷ []) p h)

-- the checkpoints of segments that are not empty are before their end
pub marks_from-below : (at : ℕ) (segments : List SegmentView) (p : ℕ) → AreFull segments → Contains (marks_from at segments) p → p < at + length (trace_of segments)
marks_from-below at [] p full h = absurd (Contains-none p h)
marks_from-below at (s ∷ segments) p full h =
    let long = length-append (ops_of s) (trace_of segments) in
    let some = full.0 in
    ⊎_elim
    (λ here. let e : p ≡ at = mark_here-place at p s.mark here in omega arith)
    (λ later. let lt : p < at + length (ops_of s) + length (trace_of segments) = marks_from-below (at + length (ops_of s)) segments p full.1 later in omega arith)
    (Contains-append_cases (mark_here at s.mark) (marks_from (at + length (ops_of s)) segments) p h)
