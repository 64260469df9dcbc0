-- The stretches that edits change.
use Rattle.std.proofs.Common.{◌≡◌, ℕ, zero, suc, ◌+◌, ◌-◌, ◌<◌, ◌≤◌, true, false, List, [], ◌∷◌, ◌++◌, length, take, drop, get_or, min, max, refl, ap, sym, subst, ◌∙◌, arith, append_assoc}
use Rattle.std.specs.FinMap.{get}
use Rattle.std.specs.Prelude.{Option, None, is_some, Contains, option_to_list, slice_range}
use mathlib.Core.Logic.{⊎_elim}
use Rattle.std.proofs.lemmas.Bool.{cases_lt}
use Rattle.std.proofs.lemmas.List.{drop_all, length-drop, take_all, take_more}
use Rattle.std.proofs.lemmas.List.Elements.{Contains-append_cases}
use Rattle.trace_types.specs.Operation.{Operation}
use Rattle.ownership_model.specs.State.{State, nothing_held}
use Rattle.ownership_model.specs.Step.{end_from, AreUnused}
use Rattle.op_step.specs.Chunk.{Chunk}
use Rattle.run_engine.specs.SegmentView.{SegmentView}
use Rattle.run_engine.specs.Segments.{trace_of, marks_from, all_marks, has_mark, AreFull, IsNoMark}
use Rattle.run_engine.specs.HeadAndTail.{AreAlike}
use Rattle.run_engine.specs.declared.jobs.changed.Place.{Place}
use Rattle.run_engine.specs.Jobs.{stretch_end, stretch_ops, BeginWith, AreJobsAt}
use Rattle.run_engine.specs.inner.Shifts.{IsPlace, GivesJob}
use Rattle.run_engine.proofs.PlaceLemmas.{Contains-one}
use Rattle.run_engine.proofs.ListingLemmas.{around}
use Rattle.run_engine.proofs.GiveUpLemmas.{contains-has_mark, place-inner}
use Rattle.run_engine.proofs.HeadAndTailLemmas.{alike-part}

-- a checkpoint where no segment begins is the end
pub last-mark : (segments : List SegmentView) (p : ℕ) → Contains (all_marks segments) p → IsNoMark segments p → length (trace_of segments) ≡ p
last-mark segments p h none =
    ⊎_elim (λ x. absurd (none x)) (λ x. Contains-one (length (trace_of segments)) p x) (Contains-append_cases (marks_from 0 segments) (length (trace_of segments) ∷ []) p h)

has_mark-some : (segments : List SegmentView) (i : ℕ) (s : SegmentView) → i < length segments → s ≡ get_or segments i s → has_mark segments i ≡ is_some s.mark
has_mark-some [] i s lt is = absurd (omega arith)
has_mark-some (t ∷ segments) zero s lt is = ap (λ (x : SegmentView). is_some x.mark) (sym is)
has_mark-some (t ∷ segments) (suc i) s lt is = has_mark-some segments i s (omega arith) is

-- the segment that begins at a checkpoint has it
pub mark-kept : (segments : List SegmentView) (i p : ℕ) (s : SegmentView) → AreFull segments → i < length segments → s ≡ get_or segments i s → length (trace_of (take i segments)) ≡ p
    → Contains (all_marks segments) p → is_some s.mark ≡ true
mark-kept segments i p s full lt is place h =
    let inner : length (trace_of (take i segments)) < length (trace_of segments) = place-inner segments i full lt in
    let here : p ≡ 0 + length (trace_of (take i segments)) = omega (arith, place) in
    ⊎_elim
    (λ x. sym (has_mark-some segments i s lt is) ∙ contains-has_mark 0 segments i full lt (subst (Contains (marks_from 0 segments)) here x))
    (λ x. let end : length (trace_of segments) ≡ p = Contains-one (length (trace_of segments)) p x in absurd (omega (arith, place)))
    (Contains-append_cases (marks_from 0 segments) (length (trace_of segments) ∷ []) p h)

-- operations that come side by side from the original
pub alike-whole : (base ops : List Operation) (place from at len b n : ℕ) → AreAlike base ops place from at len → from + (place - at) ≡ b → n ≤ len - (place - at) → take n (drop place ops) ≡ take n (drop b base)
alike-whole base ops place from at len b n h is few =
    let here = h.here in
    let before = h.before in
    let there : at + (place - at) ≡ place = omega arith in
    sym (ap (λ m. take n (drop m base)) (sym is) ∙ alike-part base ops place from at len (place - at) n h (omega arith) ∙ ap (λ m. take n (drop m ops)) there)

-- where one more stretch gives its job, if any, the jobs of all before it go on with it
pub AreJobsAt-next : (begin : ℕ → ℕ) (old new : List Operation) (all marks : List ℕ) (mark : ℕ) (job : Option Chunk) (jobs more : List Chunk)
    → BeginWith (end_from nothing_held (take mark old)) (stretch_ops (λ p. p) old mark marks) (stretch_ops begin new mark marks) more (option_to_list job ++ more)
    → ((others : List Chunk) → AreJobsAt begin old new (mark ∷ marks) others → AreJobsAt begin old new all (jobs ++ others))
    → AreJobsAt begin old new marks more → AreJobsAt begin old new all ((jobs ++ option_to_list job) ++ more)
AreJobsAt-next begin old new all marks mark job jobs more gives before rest =
    subst (AreJobsAt begin old new all) (sym (append_assoc jobs (option_to_list job) more)) (before (option_to_list job ++ more) (more, gives, rest))

take-none : (n : ℕ) → take {A = Operation} n [] ≡ []
take-none zero = refl
take-none (suc n) = refl

-- what stands between two places within a list, that are in order
pub slice_range-between : (ops : List Operation) (from to : ℕ) → slice_range ops (min from (length ops)) (max (min to (length ops)) (min from (length ops))) ≡ slice_range ops from to
slice_range-between ops from to = ⊎_elim
    (λ lt. ⊎_elim
    (λ (short : to < length ops).
    let a : min from (length ops) ≡ from = omega arith in
    let n : max (min to (length ops)) (min from (length ops)) - min from (length ops) ≡ to - from = omega arith in
    ap (λ k. take k (drop (min from (length ops)) ops)) n ∙ ap (λ k. take (to - from) (drop k ops)) a)
    (λ (le : length ops ≤ to).
    let a : min from (length ops) ≡ from = omega arith in
    let n : max (min to (length ops)) (min from (length ops)) - min from (length ops) ≡ length ops - from = omega arith in
    let long : length (drop from ops) ≡ length ops - from = length-drop from ops in
    ap (λ k. take k (drop (min from (length ops)) ops)) n ∙ ap (λ k. take (length ops - from) (drop k ops)) a
    ∙ take_all (length ops - from) (drop from ops) (omega (arith, long)) ∙ sym (take_all (to - from) (drop from ops) (omega (arith, long))))
    (cases_lt to (length ops)))
    (λ (le : length ops ≤ from).
    let a : drop (min from (length ops)) ops ≡ [] = drop_all (min from (length ops)) ops (omega arith) in
    let b : drop from ops ≡ [] = drop_all from ops (omega arith) in
    ap (take (max (min to (length ops)) (min from (length ops)) - min from (length ops))) a ∙ take-none (max (min to (length ops)) (min from (length ops)) - min from (length ops)) ∙ sym (ap (take (to - from)) b ∙ take-none (to - from)))
    (cases_lt from (length ops))

-- positions

get_or-any : (xs : List ℕ) (i a b : ℕ) → i < length xs → get_or xs i a ≡ get_or xs i b
get_or-any [] i a b lt = absurd (omega arith)
get_or-any (x ∷ xs) zero a b lt = refl
get_or-any (x ∷ xs) (suc i) a b lt = get_or-any xs i a b (omega arith)

-- a list of them from a place on
pub from-there : (xs : List ℕ) (i : ℕ) → i < length xs → drop i xs ≡ get_or xs i 0 ∷ drop (i + 1) xs
from-there xs i lt = around xs i (get_or xs i 0) lt (get_or-any xs i 0 (get_or xs i 0) lt)

pub contains-at : (xs : List ℕ) (i : ℕ) → i < length xs → Contains xs (get_or xs i 0)
contains-at xs i lt = (i, lt, get_or-any xs i (get_or xs i 0) 0 lt)

-- a stretch with another behind it
pub stretch-inner : (begin : ℕ → ℕ) (ops : List Operation) (marks : List ℕ) (i mark : ℕ) (rest : List ℕ) → i + 1 < length marks → drop i marks ≡ mark ∷ rest
    → slice_range ops (begin (get_or marks i 0)) (begin (get_or marks (i + 1) 0)) ≡ stretch_ops begin ops mark rest
stretch-inner begin ops marks i mark rest lt h =
    let here : get_or marks i 0 ∷ drop (i + 1) marks ≡ mark ∷ rest = sym (from-there marks i (omega arith)) ∙ h in
    let first : get_or marks i 0 ≡ mark = cc in
    let behind : drop (i + 1) marks ≡ rest = cc in
    ap (λ m. slice_range ops (begin m) (begin (get_or marks (i + 1) 0))) first
    ∙ ap (λ ms. slice_range ops (begin mark) (stretch_end begin ms (length ops))) (sym (from-there marks (i + 1) lt) ∙ behind)

-- the job of a stretch, told by its place
pub gives-stretch : (base ops : List Operation) (begin : ℕ → ℕ) (mark : ℕ) (marks : List ℕ) (place : Place) (job : Option Chunk) (more : List Chunk) → IsPlace base ops begin mark marks place → GivesJob base ops mark place job
    → BeginWith (end_from nothing_held (take mark base)) (stretch_ops (λ p. p) base mark marks) (stretch_ops begin ops mark marks) more (option_to_list job ++ more)
gives-stretch base ops begin mark marks place job more is gives =
    let start : State = end_from nothing_held (take mark base) in
    subst (λ before. BeginWith start before (stretch_ops begin ops mark marks) more (option_to_list job ++ more)) is.before
    (subst (λ after. BeginWith start (slice_range base place.base place.base_end) after more (option_to_list job ++ more)) is.after (gives more))

-- numbers that no object has

unused-push : (m : State) (ops : List Operation) (op : Operation) → AreUnused m ops → get m.objects op.id ≡ None → AreUnused m (ops ++ op ∷ [])
unused-push m [] op h none = (none, tt)
unused-push m (x ∷ ops) op h none = (h.0, unused-push m ops op h.1 none)

pub unused-more : (m : State) (ops : List Operation) (i : ℕ) (op : Operation) → i < length ops → op ≡ get_or ops i op → get m.objects op.id ≡ None → AreUnused m (take i ops) → AreUnused m (take (i + 1) ops)
unused-more m ops i op lt is none h = subst (AreUnused m) (sym (take_more ops i op lt ∙ ap (λ x. take i ops ++ x ∷ []) (sym is))) (unused-push m (take i ops) op h none)

pub used-one : (m : State) (ops : List Operation) (i : ℕ) (op : Operation) → i < length ops → op ≡ get_or ops i op → is_some (get m.objects op.id) ≡ true → AreUnused m ops → ⊥
used-one m [] i op lt is some h = omega arith
used-one m (x ∷ ops) zero op lt is some h =
    let none : is_some (get m.objects op.id) ≡ false = ap (λ (o : Operation). is_some (get m.objects o.id)) is ∙ ap is_some h.0 in
    cc
used-one m (x ∷ ops) (suc i) op lt is some h = used-one m ops i op (omega arith) is some h.1
