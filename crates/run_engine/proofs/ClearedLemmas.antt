-- Segments whose checkpoints are given up by name.
use Rattle.std.proofs.Common.{◌≡◌, ℕ, ◌+◌, ◌<◌, Bool, true, false, cond, nat_lt, zero, suc, take, drop, get_or, add-one, List, [], ◌∷◌, ◌++◌, length, refl, ap, sym, subst, ◌∙◌, arith, append_assoc, length-append, lt-ltb, le-ltb}
use Rattle.std.specs.Prelude.{◌&&◌, not, filter, Option, Some, None, if◌then◌else◌}
use Rattle.std.specs.List.{list_any}
use Rattle.std.specs.Ordering.{nat_cmp}
use Rattle.std.specs.BTreeMap.{is_at}
use Rattle.std.specs.BTreeSet.{BTreeSet, btree_set_len, contains}
use Rattle.std.proofs.lemmas.List.Elements.{filter-append}
use Rattle.ownership_model.specs.State.{State, nothing_held}
use Rattle.ownership_model.specs.Step.{end_from}
use Rattle.trace_types.specs.Operation.{Operation}
use Rattle.run_engine.specs.SegmentView.{SegmentView}
use Rattle.run_engine.specs.Segments.{ops_of, trace_of, mark_here, marks_from, all_marks, without_mark, IsSegmentFrom, AreReplayFrom, AreFull, BeginsMarked, IsKept}
use Rattle.run_engine.specs.GivenUp.{name_at}
use Rattle.run_engine.specs.inner.Cleared.{is_named, cleared_if, last_name, cleared}
use Rattle.run_engine.proofs.NameLemmas.{last-name}
use Rattle.run_engine.proofs.BlocksLemmas.{length-without}

pub ops_of-cleared_if : (goes : Bool) (s : SegmentView) → ops_of (cleared_if goes s) ≡ ops_of s
ops_of-cleared_if true s = refl
ops_of-cleared_if false s = refl

pub trace_of-cleared : (named : ℕ → Bool) (before : Option ℕ) (segments : List SegmentView) → trace_of (cleared named before segments) ≡ trace_of segments
trace_of-cleared named before [] = refl
trace_of-cleared named before (s ∷ segments) =
    ap (λ ops. ops ++ trace_of (cleared named (last_name (ops_of s)) segments)) (ops_of-cleared_if (is_named named before) s)
    ∙ ap (λ ops. ops_of s ++ ops) (trace_of-cleared named (last_name (ops_of s)) segments)

IsSegmentFrom-cleared_if : (m : State) (goes : Bool) (s : SegmentView) → IsSegmentFrom m s → IsSegmentFrom m (cleared_if goes s)
IsSegmentFrom-cleared_if m true s h = record { mark = tt; anchor = h.anchor; keys = h.keys; outcomes = h.outcomes }
IsSegmentFrom-cleared_if m false s h = h

AreReplayFrom-cleared : (named : ℕ → Bool) (before : Option ℕ) (m : State) (segments : List SegmentView) → AreReplayFrom m segments → AreReplayFrom m (cleared named before segments)
AreReplayFrom-cleared named before m [] h = tt
AreReplayFrom-cleared named before m (s ∷ segments) h = (
  IsSegmentFrom-cleared_if m (is_named named before) s h.0,
  subst (λ ops. AreReplayFrom (end_from m ops) (cleared named (last_name (ops_of s)) segments)) (sym (ops_of-cleared_if (is_named named before) s))
      (AreReplayFrom-cleared named (last_name (ops_of s)) (end_from m (ops_of s)) segments h.1),
)

AreFull-cleared : (named : ℕ → Bool) (before : Option ℕ) (segments : List SegmentView) → AreFull segments → AreFull (cleared named before segments)
AreFull-cleared named before [] h = tt
AreFull-cleared named before (s ∷ segments) h =
    (subst (λ ops. 0 < length ops) (sym (ops_of-cleared_if (is_named named before) s)) h.0, AreFull-cleared named (last_name (ops_of s)) segments h.1)

BeginsMarked-cleared : (named : ℕ → Bool) (segments : List SegmentView) → BeginsMarked segments → BeginsMarked (cleared named None segments)
BeginsMarked-cleared named [] h = tt
BeginsMarked-cleared named (s ∷ segments) h = h

pub IsKept-cleared : (named : ℕ → Bool) (segments : List SegmentView) (end : State) → IsKept segments end → IsKept (cleared named None segments) end
IsKept-cleared named segments end h =
    let t = trace_of-cleared named None segments in
    record {
      run = record {
        replay = AreReplayFrom-cleared named None nothing_held segments h.run.replay;
        full = AreFull-cleared named None segments h.run.full;
        begins = BeginsMarked-cleared named segments h.run.begins;
        state = h.run.state ∙ ap (end_from nothing_held) (sym t);
      };
      trace = rw t h.trace;
    }

-- whether the checkpoint at a position is an inner one whose name is among these
abbrev pub goes : (ℕ → Bool) → List Operation → ℕ → Bool
goes named trace p = nat_lt p (length trace) && is_named named (name_at trace p)

mark_here-cleared : (at : ℕ) (gone : Bool) (s : SegmentView) → mark_here at (cleared_if gone s).mark ≡ cond gone [] (mark_here at s.mark)
mark_here-cleared at true s = refl
mark_here-cleared at false s = refl

left-here : (gone : Bool) (at : ℕ) (o : Option State) → cond gone [] (mark_here at o) ≡ filter (λ _. not gone) (mark_here at o)
left-here true at None = refl
left-here true at (Some m) = refl
left-here false at None = refl
left-here false at (Some m) = refl

filter-here : (test : ℕ → Bool) (b : Bool) (at : ℕ) (o : Option State) → b ≡ test at → filter (λ _. b) (mark_here at o) ≡ filter test (mark_here at o)
filter-here test b at None is = refl
filter-here test b at (Some m) is = ap (λ c. cond c (at ∷ []) []) is

-- the checkpoints that are left of segments behind a prefix
marks_from-cleared : (named : ℕ → Bool) (trace prefix : List Operation) (before : Option ℕ) (at : ℕ) (segments : List SegmentView) → AreFull segments → trace ≡ prefix ++ trace_of segments → at ≡ length prefix
    → before ≡ name_at trace at → marks_from at (cleared named before segments) ≡ filter (λ p. not (goes named trace p)) (marks_from at segments)
marks_from-cleared named trace prefix before at [] full whole place name = refl
marks_from-cleared named trace prefix before at (s ∷ segments) full whole place name =
    let some : 0 < length (ops_of s) = full.0 in
    let keep : ℕ → Bool = λ p. not (goes named trace p) in
    let gone : Bool = is_named named before in
    let next : ℕ = at + length (ops_of s) in
    let long : length trace ≡ length prefix + length (ops_of s ++ trace_of segments) = ap length whole ∙ length-append prefix (ops_of s ++ trace_of segments) in
    let inner : at < length trace = omega (arith, length-append (ops_of s) (trace_of segments)) in
    let here : not (is_named named before) ≡ not (goes named trace at) =
    ap (λ o. not (is_named named o)) name ∙ ap (λ b. not (b && is_named named (name_at trace at))) (sym (lt-ltb at (length trace) inner)) in
    let behind : last_name (ops_of s) ≡ name_at trace (at + length (ops_of s)) =
    sym (ap (λ ops. name_at ops (at + length (ops_of s))) whole ∙ ap (λ n. name_at (prefix ++ (ops_of s ++ trace_of segments)) (n + length (ops_of s))) place ∙ last-name prefix (ops_of s) (trace_of segments) some) in
    let later : marks_from next (cleared named (last_name (ops_of s)) segments) ≡ filter keep (marks_from next segments) =
    marks_from-cleared named trace (prefix ++ ops_of s) (last_name (ops_of s)) next segments full.1 (whole ∙ sym (append_assoc prefix (ops_of s) (trace_of segments)))
    (ap (λ n. n + length (ops_of s)) place ∙ sym (length-append prefix (ops_of s))) behind in
    ap (λ ops. mark_here at (cleared_if gone s).mark ++ marks_from (at + length ops) (cleared named (last_name (ops_of s)) segments)) (ops_of-cleared_if gone s)
    ∙ ap (λ ps. mark_here at (cleared_if gone s).mark ++ ps) later
    ∙ ap (λ ps. ps ++ filter keep (marks_from next segments)) (mark_here-cleared at gone s ∙ left-here gone at s.mark ∙ filter-here keep (not gone) at s.mark here)
    ∙ sym (filter-append keep (mark_here at s.mark) (marks_from next segments))

-- the checkpoints that are left: the end stays
pub all_marks-cleared : (named : ℕ → Bool) (segments : List SegmentView) → AreFull segments → all_marks (cleared named None segments) ≡ filter (λ p. not (goes named (trace_of segments) p)) (all_marks segments)
all_marks-cleared named segments full =
    let trace : List Operation = trace_of segments in
    let n : ℕ = length (trace_of segments) in
    let keep : ℕ → Bool = λ p. not (goes named trace p) in
    ap (λ ops. marks_from 0 (cleared named None segments) ++ length ops ∷ []) (trace_of-cleared named None segments)
    ∙ ap (λ ps. ps ++ n ∷ []) (marks_from-cleared named trace [] None 0 segments full refl refl refl)
    ∙ ap (λ ps. filter keep (marks_from 0 segments) ++ ps) (sym (ap (λ b. cond (not (b && is_named named (name_at trace n))) (n ∷ []) []) (le-ltb n n (omega arith))))
    ∙ sym (filter-append keep (marks_from 0 segments) (n ∷ []))

pub long-as-before : (b : Bool) (ss : List SegmentView) (i : ℕ) → length (if b then without_mark ss i else ss) ≡ length ss
long-as-before true ss i = length-without ss i
long-as-before false ss i = refl

-- one segment more was looked at
next-cleared : (named : ℕ → Bool) (before : Option ℕ) (b : Bool) (ss : List SegmentView) (i : ℕ) (s : SegmentView) → b ≡ is_named named before → i < length ss → s ≡ get_or (if b then without_mark ss i else ss) i s
    → take (suc i) (if b then without_mark ss i else ss) ++ cleared named (last_name (ops_of s)) (drop (suc i) (if b then without_mark ss i else ss)) ≡ take i ss ++ cleared named before (drop i ss)
next-cleared named before b [] i s is lt at = absurd (omega arith)
next-cleared named before true (t ∷ ss) zero s is lt at = λ j. cleared_if (is j) t ∷ cleared named (last_name (ops_of (at j))) ss
next-cleared named before false (t ∷ ss) zero s is lt at = λ j. cleared_if (is j) t ∷ cleared named (last_name (ops_of (at j))) ss
next-cleared named before true (t ∷ ss) (suc i) s is lt at = ap (λ all. t ∷ all) (next-cleared named before true ss i s is (omega arith) at)
next-cleared named before false (t ∷ ss) (suc i) s is lt at = ap (λ all. t ∷ all) (next-cleared named before false ss i s is (omega arith) at)

pub cleared-next : (named : ℕ → Bool) (before after : Option ℕ) (b : Bool) (ss new : List SegmentView) (i : ℕ) (s : SegmentView) → b ≡ is_named named before → i < length ss → new ≡ (if b then without_mark ss i else ss) → s ≡ get_or new i s
    → after ≡ last_name (ops_of s) → take (i + 1) new ++ cleared named after (drop (i + 1) new) ≡ take i ss ++ cleared named before (drop i ss)
cleared-next named before after b ss new i s is lt new-is at after-is =
    (λ j. take (add-one i j) (new-is j) ++ cleared named (after-is j) (drop (add-one i j) (new-is j)))
    ∙ next-cleared named before b ss i s is lt (at ∙ ap (λ all. get_or all i s) new-is)

-- where there is no name every checkpoint stays
pub cleared-none : (named : ℕ → Bool) (before : Option ℕ) (segments : List SegmentView) → ((id : ℕ) → named id ≡ false) → cleared named before segments ≡ segments
cleared-none named before [] none = refl
cleared-none named None (s ∷ segments) none = ap (λ more. s ∷ more) (cleared-none named (last_name (ops_of s)) segments none)
cleared-none named (Some id) (s ∷ segments) none = (λ j. cleared_if (none id j) s ∷ cleared named (last_name (ops_of s)) segments) ∙ ap (λ more. s ∷ more) (cleared-none named (last_name (ops_of s)) segments none)

any-none : (test : ℕ → Bool) (ids : List ℕ) → length ids ≡ 0 → list_any test ids ≡ false
any-none test [] none = refl
any-none test (id ∷ ids) none = absurd (omega arith)

-- a set without names has no name
pub nothing-named : (names : BTreeSet ℕ) → btree_set_len names ≡ 0 → (id : ℕ) → contains nat_cmp names id ≡ false
nothing-named names none id = any-none (λ k. is_at (nat_cmp id) k) names.keys none
