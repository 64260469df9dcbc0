-- Stretches of a run as pieces of another.
use Rattle.std.proofs.Common.{◌≡◌, ℕ, ◌+◌, ◌-◌, ◌<◌, ◌≤◌, suc, Bool, List, [], ◌∷◌, ◌++◌, length, take, drop, get_or, true, false, refl, ap, sym, subst, ◌∙◌, arith, length-append, length-drop}
use Rattle.std.specs.Prelude.{Some, None, Option, is_some, IsTrue, slice_range, if◌then◌else◌}
use Rattle.std.proofs.lemmas.List.{append-nil, take_more, length-take, take-append-drop, drop-take, drop-drop, get_or-drop}
use Rattle.std.proofs.Math.Seq.{take-add, take-length}
use Rattle.std.specs.Prelude.{IfSome}
use Rattle.ownership_model.specs.State.{State, nothing_held}
use Rattle.trace_types.specs.Operation.{Operation}
use Rattle.run_engine.specs.SegmentView.{SegmentView}
use Rattle.trace_types.specs.declared.outcomes.Outcome.{Outcome}
use Rattle.ownership_model.specs.Step.{end_from, outcomes_from, AreUnused}
use Rattle.ownership_model.specs.declared.key.Key.{Key}
use Rattle.run_engine.specs.Segments.{ops_of, trace_of, mark_here, marks_from, bare_segment, HasBare, AreKeysFrom, IsSegmentFrom, AreReplayFrom, AreFull, BeginsMarked, IsRun, IsReached, IsPiece}
use Rattle.trace_types.specs.Trace.{has_distinct_numbers}
use Rattle.ownership_model.proofs.LawsHold.{appends, soundness}
use Rattle.run_engine.proofs.ListingLemmas.{around, take-shorter}
use Rattle.run_engine.proofs.SegmentLemmas.{trace_of-append, marks_from-append, AreReplayFrom-append, AreReplayFrom-prefix, AreReplayFrom-back}

pub AreFull-append : (a b : List SegmentView) → AreFull a → AreFull b → AreFull (a ++ b)
AreFull-append [] b h k = k
AreFull-append (s ∷ a) b h k = (h.0, AreFull-append a b h.1 k)

pub AreFull-prefix : (a b : List SegmentView) → AreFull (a ++ b) → AreFull a
AreFull-prefix [] b h = tt
AreFull-prefix (s ∷ a) b h = (h.0, AreFull-prefix a b h.1)

pub AreFull-back : (a b : List SegmentView) → AreFull (a ++ b) → AreFull b
AreFull-back [] b h = h
AreFull-back (s ∷ a) b h = AreFull-back a b h.1

pub BeginsMarked-append : (a b : List SegmentView) → BeginsMarked a → BeginsMarked b → BeginsMarked (a ++ b)
BeginsMarked-append [] b h k = k
BeginsMarked-append (s ∷ a) b h k = h

pub BeginsMarked-prefix : (a b : List SegmentView) → BeginsMarked (a ++ b) → BeginsMarked a
BeginsMarked-prefix [] b h = tt
BeginsMarked-prefix (s ∷ a) b h = h

-- a kept checkpoint is the state
pub mark-some : (m n : State) (o : Option State) → o ≡ Some n → IfSome o (λ h. h ≡ m) → n ≡ m
mark-some m n o e h = subst (λ x. IfSome x (λ k. k ≡ m)) e h

-- the state at a kept checkpoint
pub mark-state : (a b : List SegmentView) (s : SegmentView) (m : State) → AreReplayFrom nothing_held (a ++ s ∷ b) → s.mark ≡ Some m → m ≡ end_from nothing_held (trace_of a)
mark-state a b s m h e = mark-some (end_from nothing_held (trace_of a)) m s.mark e ((AreReplayFrom-back nothing_held a (s ∷ b) h).0.mark)

pub stretch-piece : (a b c : List SegmentView) (s : SegmentView) (end heap after : State) (ops : List Operation) (len : ℕ)
    → IsRun (a ++ ((s ∷ b) ++ c)) end → s.mark ≡ Some heap → ((at : ℕ) → marks_from at b ≡ []) → trace_of (s ∷ b) ≡ take len ops → len ≤ length ops
    → after ≡ end_from nothing_held (trace_of (a ++ s ∷ b)) → IsPiece heap ops (s ∷ b) after len
stretch-piece a b c s end heap after ops len run mark bare same fits is =
    let m = end_from nothing_held (trace_of a) in
    let e : heap ≡ m = mark-state a (b ++ c) s heap run.replay mark in
    let here : AreReplayFrom m (s ∷ b) = AreReplayFrom-prefix m (s ∷ b) c (AreReplayFrom-back nothing_held a ((s ∷ b) ++ c) run.replay) in
    let full : AreFull (s ∷ b) = AreFull-prefix (s ∷ b) c (AreFull-back a ((s ∷ b) ++ c) run.full) in
    let long : length (ops_of s ++ trace_of b) ≡ length (take len ops) = ap length same in
    record {
      some = omega (arith, full.0, long, length-append (ops_of s) (trace_of b), length-take len ops);
      fits = fits;
      trace = same;
      replay = subst (λ n. AreReplayFrom n (s ∷ b)) (sym e) here;
      full = full;
      begins = subst (λ o. IsTrue (is_some o)) (sym mark) refl;
      state = is ∙ ap (end_from nothing_held) (trace_of-append a (s ∷ b)) ∙ appends.end nothing_held (trace_of a) (trace_of (s ∷ b)) ∙ ap (λ xs. end_from m xs) same ∙ ap (λ n. end_from n (take len ops)) (sym e);
      marks = λ at. ap (λ o. mark_here at o ++ marks_from (at + length (ops_of s)) b) mark ∙ ap (λ ps. at ∷ ps) (bare (at + length (ops_of s)));
    }

pub take-rest : {X : Type 0} (n : ℕ) (xs : List X) → take (length xs - n) (drop n xs) ≡ drop n xs
take-rest n xs = ap (λ m. take m (drop n xs)) (sym (length-drop n xs)) ∙ take-length (drop n xs)

pub is_some-none : {X : Type 0} (o : Option X) → is_some o ≡ false → o ≡ None
is_some-none None h = refl
is_some-none (Some x) h = cc

-- a segment of a run and the state where it begins
pub segment-at : (m : State) (segments : List SegmentView) (i : ℕ) (s : SegmentView) → AreReplayFrom m segments → i < length segments → s ≡ get_or segments i s
    → IsSegmentFrom (end_from m (trace_of (take i segments))) s
segment-at m segments i s h lt is =
    let e : take i segments ++ (s ∷ drop (i + 1) segments) ≡ segments = ap (λ ss. take i segments ++ ss) (sym (around segments i s lt is)) ∙ take-append-drop i segments in
    (AreReplayFrom-back m (take i segments) (s ∷ drop (i + 1) segments) (subst (AreReplayFrom m) (sym e) h)).0

pub mark-at : (m : State) (segments : List SegmentView) (i : ℕ) (s : SegmentView) → AreReplayFrom m segments → i < length segments → s ≡ get_or segments i s
    → IfSome s.mark (λ h. h ≡ end_from m (trace_of (take i segments)))
mark-at m segments i s h lt is = (segment-at m segments i s h lt is).mark

-- one more segment without a checkpoint
pub marks-bare-next : (segments : List SegmentView) (i : ℕ) (s : SegmentView) → i < length segments → s ≡ get_or segments i s → is_some s.mark ≡ false
    → ((at : ℕ) → marks_from at (take i segments) ≡ []) → (at : ℕ) → marks_from at (take (i + 1) segments) ≡ []
marks-bare-next segments i s lt is none h at =
    let o : s.mark ≡ None = is_some-none s.mark none in
    let p : ℕ = at + length (trace_of (take i segments)) in
    ap (marks_from at) (take_more segments i s lt ∙ ap (λ t. take i segments ++ t ∷ []) (sym is))
    ∙ marks_from-append at (take i segments) (s ∷ [])
    ∙ ap (λ ps. ps ++ (mark_here p s.mark ++ [])) (h at)
    ∙ ap (λ m. mark_here p m ++ []) o

-- the segments in front and one more are the first of the operations
pub begins-next : (ops : List Operation) (segments : List SegmentView) (i at : ℕ) (s : SegmentView) → i < length segments → s ≡ get_or segments i s
    → trace_of (take i segments) ≡ take at ops → s.ops ≡ take (length s.ops) (drop at ops) → trace_of (take (i + 1) segments) ≡ take (at + length s.ops) ops
begins-next ops segments i at s lt is h e =
    ap trace_of (take_more segments i s lt ∙ ap (λ t. take i segments ++ t ∷ []) (sym is))
    ∙ trace_of-append (take i segments) (s ∷ [])
    ∙ ap (λ xs. trace_of (take i segments) ++ xs) (append-nil s.ops ∙ e)
    ∙ ap (λ xs. xs ++ take (length s.ops) (drop at ops)) h
    ∙ sym (take-add at (length s.ops) ops)

-- a stretch of a run, from i on, with k further segments that have no checkpoint
pub old-piece : (old : List SegmentView) (end : State) (i k : ℕ) (s : SegmentView) (heap after : State) (ops : List Operation) (len : ℕ)
    → IsRun old end → i < length old → s ≡ get_or old i s → s.mark ≡ Some heap → ((at : ℕ) → marks_from at (take k (drop (i + 1) old)) ≡ [])
    → len ≤ length ops → trace_of (take (suc k) (drop i old)) ≡ take len ops → after ≡ end_from nothing_held (trace_of (take (i + suc k) old))
    → IsPiece heap ops (take (suc k) (drop i old)) after len
old-piece old end i k s heap after ops len run lt is mark bare fits same state =
    let b : List SegmentView = take k (drop (i + 1) old) in
    let c : List SegmentView = drop k (drop (i + 1) old) in
    let here : drop i old ≡ s ∷ drop (i + 1) old = around old i s lt is in
    let stretch : take (suc k) (drop i old) ≡ s ∷ b = ap (take (suc k)) here in
    let parts : take i old ++ ((s ∷ b) ++ c) ≡ old = ap (λ xs. take i old ++ (s ∷ xs)) (take-append-drop k (drop (i + 1) old)) ∙ ap (λ xs. take i old ++ xs) (sym here) ∙ take-append-drop i old in
    let prefix : take (i + suc k) old ≡ take i old ++ (s ∷ b) = take-add i (suc k) old ∙ ap (λ xs. take i old ++ xs) stretch in
    subst (λ ss. IsPiece heap ops ss after len) (sym stretch)
    (stretch-piece (take i old) b c s end heap after ops len (subst (λ ss. IsRun ss end) (sym parts) run) mark bare (ap trace_of (sym stretch) ∙ same) fits (state ∙ ap (λ ss. end_from nothing_held (trace_of ss)) prefix))

-- what stands inside a part
pub slice_range-inside : (ops : List Operation) (at to len n : ℕ) → len + n ≤ to - at → take n (drop len (slice_range ops at to)) ≡ take n (drop (at + len) ops)
slice_range-inside ops at to len n le =
    let e : to - at ≡ len + (to - at - len) = omega arith in
    ap (λ k. take n (drop len (take k (drop at ops)))) e ∙ ap (take n) (drop-take len (to - at - len) (drop at ops)) ∙ take-shorter n (to - at - len) (drop len (drop at ops)) (omega arith) ∙ ap (take n) (drop-drop len at ops)

-- a replay goes on by a piece
pub IsReached-next : (ops : List Operation) (at to len : ℕ) (segments more : List SegmentView) (heap end : State)
    → IsReached ops at segments heap → at ≤ to → to ≤ length ops → IsPiece heap (take (to - at) (drop at ops)) more end len
    → IsReached ops (at + len) (segments ++ more) end
IsReached-next ops at to len segments more heap end h le within piece =
    let long : len ≤ to - at = omega (arith, piece.fits, length-take (to - at) (drop at ops)) in
    let cut : take len (take (to - at) (drop at ops)) ≡ take len (drop at ops) = take-shorter len (to - at) (drop at ops) long in
    let here : heap ≡ end_from nothing_held (trace_of segments) = h.state ∙ ap (end_from nothing_held) (sym h.trace) in
    record {
      within = omega arith;
      trace = trace_of-append segments more ∙ ap (λ xs. xs ++ trace_of more) h.trace ∙ ap (λ xs. take at ops ++ xs) (piece.trace ∙ cut) ∙ sym (take-add at len ops);
      replay = AreReplayFrom-append nothing_held segments more h.replay (subst (λ m. AreReplayFrom m more) here piece.replay);
      full = AreFull-append segments more h.full piece.full;
      begins = BeginsMarked-append segments more h.begins piece.begins;
      state = piece.state ∙ ap (end_from heap) cut ∙ ap (λ m. end_from m (take len (drop at ops))) h.state ∙ sym (appends.end nothing_held (take at ops) (take len (drop at ops))) ∙ ap (end_from nothing_held) (sym (take-add at len ops));
    }

pub mark-is : (old : List SegmentView) (i : ℕ) (s : SegmentView) (n : State) → AreReplayFrom nothing_held old → i < length old → s ≡ get_or old i s → Some n ≡ s.mark → n ≡ end_from nothing_held (trace_of (take i old))
mark-is old i s n h lt is e = subst (λ o. IfSome o (λ h. h ≡ end_from nothing_held (trace_of (take i old)))) (sym e) (mark-at nothing_held old i s h lt is)

-- so is an anchor
pub anchor-is : (old : List SegmentView) (i : ℕ) (s : SegmentView) (n : State) → AreReplayFrom nothing_held old → i < length old → s ≡ get_or old i s → Some n ≡ s.anchor → n ≡ end_from nothing_held (trace_of (take i old))
anchor-is old i s n h lt is e = subst (λ o. IfSome o (λ h. h ≡ end_from nothing_held (trace_of (take i old)))) (sym e) (segment-at nothing_held old i s h lt is).anchor

-- a piece of the first n operations is one of more of them
pub IsPiece-of-more : (start end : State) (ops : List Operation) (n m len : ℕ) (segments : List SegmentView) → n ≤ m → IsPiece start (take n ops) segments end len → IsPiece start (take m ops) segments end len
IsPiece-of-more start end ops n m len segments le h =
    let long : len ≤ n = omega (arith, h.fits, length-take n ops) in
    let cut : take len (take n ops) ≡ take len (take m ops) = take-shorter len n ops long ∙ sym (take-shorter len m ops (omega arith)) in
    record {
      some = h.some;
      fits = omega (arith, h.fits, length-take n ops, length-take m ops);
      trace = h.trace ∙ cut;
      replay = h.replay;
      full = h.full;
      begins = h.begins;
      state = h.state ∙ ap (end_from start) cut;
      marks = h.marks;
    }

-- the numbers of the operations behind a place of a trace are those of no object there
pub unused-behind : (ops more : List Operation) → IsTrue (has_distinct_numbers (ops ++ more)) → AreUnused (end_from nothing_held ops) more
unused-behind ops more distinct = appends.unused_rest nothing_held ops more soundness.start distinct (soundness.unused (ops ++ more))

-- so are those of a part, where it begins, and they are distinct
pub distinct-slice_range : (ops : List Operation) (at to : ℕ) → IsTrue (has_distinct_numbers ops) → IsTrue (has_distinct_numbers (slice_range ops at to))
distinct-slice_range ops at to distinct =
    let rest : IsTrue (has_distinct_numbers (drop at ops)) = appends.distinct_rest (take at ops) (drop at ops) (subst (λ os. IsTrue (has_distinct_numbers os)) (sym (take-append-drop at ops)) distinct) in
    appends.distinct_front (slice_range ops at to) (drop (to - at) (drop at ops)) (subst (λ os. IsTrue (has_distinct_numbers os)) (sym (take-append-drop (to - at) (drop at ops))) rest)

pub unused-slice_range : (ops : List Operation) (heap : State) (at to : ℕ) → IsTrue (has_distinct_numbers ops) → heap ≡ end_from nothing_held (take at ops) → AreUnused heap (slice_range ops at to)
unused-slice_range ops heap at to distinct is =
    let m : State = end_from nothing_held (take at ops) in
    let rest : AreUnused m (drop at ops) = unused-behind (take at ops) (drop at ops) (subst (λ os. IsTrue (has_distinct_numbers os)) (sym (take-append-drop at ops)) distinct) in
    let first : AreUnused m (slice_range ops at to) = appends.unused_front m (slice_range ops at to) (drop (to - at) (drop at ops)) (subst (AreUnused m) (sym (take-append-drop (to - at) (drop at ops))) rest) in
    subst (λ n. AreUnused n (slice_range ops at to)) (sym is) first

-- the operations up to a cut are the first of those that are left
pub take-next : (ops next : List Operation) (at l to len : ℕ) → next ≡ slice_range ops at (at + l) → len ≡ length next → l ≤ to - at → to ≤ length ops → take len (slice_range ops at to) ≡ next
take-next ops next at l to len is whole le within =
    let cut : at + l - at ≡ l = omega arith in
    let next_is : next ≡ take l (drop at ops) = is ∙ ap (λ n. take n (drop at ops)) cut in
    let long : len ≡ l = omega (arith, whole ∙ ap length next_is, length-take l (drop at ops), length-drop at ops) in
    take-shorter len (to - at) (drop at ops) (omega (arith, long)) ∙ ap (λ n. take n (drop at ops)) long ∙ sym next_is

-- one segment is a piece
pub IsPiece-one : (start end : State) (anchor : Option State) (keys : Option (List Key)) (ops : List Operation) (outcomes : List Outcome) → 0 < length ops → IfSome anchor (λ n. n ≡ start) → AreKeysFrom start keys ops outcomes
    → outcomes ≡ outcomes_from start ops → end ≡ end_from start ops → IsPiece start ops (record { mark = Some start; anchor = anchor; keys = keys; ops = ops; outcomes = outcomes } ∷ []) end (length ops)
IsPiece-one start end anchor keys ops outcomes some same told out is =
    let whole : take (length ops) ops ≡ ops = take-length ops in
    record {
      some = some;
      fits = omega arith;
      trace = append-nil ops ∙ sym whole;
      replay = (record { mark = refl; anchor = same; keys = told; outcomes = out }, tt);
      full = (some, tt);
      begins = refl;
      state = is ∙ ap (end_from start) (sym whole);
      marks = λ at. refl;
    }

-- an anchor that is made if it is wanted
pub anchored : (start : State) (wanted : Bool) → IfSome (if wanted then Some start else None) (λ n. n ≡ start)
anchored start true = refl
anchored start false = tt

-- behind some operations a replay goes on by a segment with no checkpoint
pub IsReached-bare : (ops next : List Operation) (at : ℕ) (segments : List SegmentView) (heap : State) (anchor : Option State) → IsReached ops at segments heap → 0 < at → at + length next ≤ length ops → 0 < length next
    → IfSome anchor (λ n. n ≡ heap) → next ≡ slice_range ops at (at + length next) → (more : List SegmentView) → HasBare segments anchor heap next more → IsReached ops (at + length next) more (end_from heap next)
IsReached-bare ops next at segments heap anchor h pos within some same is more has =
    let cut : at + length next - at ≡ length next = omega arith in
    let part : next ≡ take (length next) (drop at ops) = is ∙ ap (λ n. take n (drop at ops)) cut in
    let here : heap ≡ end_from nothing_held (trace_of segments) = h.state ∙ ap (end_from nothing_held) (sym h.trace) in
    let bare : SegmentView = bare_segment anchor heap has.keys next in
    let whole : take at ops ++ next ≡ take (at + length next) ops = ap (λ xs. take at ops ++ xs) part ∙ sym (take-add at (length next) ops) in
    subst (λ ss. IsReached ops (at + length next) ss (end_from heap next)) (sym has.segments_are) (record {
      within = within;
      trace = trace_of-append segments (bare ∷ []) ∙ ap (λ xs. trace_of segments ++ xs) (append-nil next) ∙ ap (λ xs. xs ++ next) h.trace ∙ whole;
      replay = AreReplayFrom-append nothing_held segments (bare ∷ []) h.replay (subst (λ m. AreReplayFrom m (bare ∷ [])) here (record { mark = tt; anchor = same; keys = has.touched; outcomes = refl }, tt));
      full = AreFull-append segments (bare ∷ []) h.full (some, tt);
      begins = begins segments (ap length h.trace ∙ omega (arith, length-take at ops)) h.begins;
      state = ap (λ m. end_from m next) h.state ∙ sym (appends.end nothing_held (take at ops) next) ∙ ap (end_from nothing_held) whole;
    })
  where
    begins : (ss : List SegmentView) → length (trace_of ss) ≡ at → BeginsMarked ss → BeginsMarked (ss ++ bare_segment anchor heap has.keys next ∷ [])
    begins [] e b = absurd (omega arith)
    begins (s ∷ ss) e b = b

-- it has the checkpoints of before
pub marks_from-bare : (at : ℕ) (segments more : List SegmentView) (heap : State) (anchor : Option State) (next : List Operation) → HasBare segments anchor heap next more → marks_from at more ≡ marks_from at segments
marks_from-bare at segments more heap anchor next has =
    ap (marks_from at) has.segments_are ∙ marks_from-append at segments (bare_segment anchor heap has.keys next ∷ []) ∙ append-nil (marks_from at segments)

-- a piece has one more checkpoint, where it begins
pub marks_from-piece : (ops rest : List Operation) (at len : ℕ) (segments more : List SegmentView) (heap end : State) → IsReached ops at segments heap → IsPiece heap rest more end len
    → marks_from 0 (segments ++ more) ≡ marks_from 0 segments ++ at ∷ []
marks_from-piece ops rest at len segments more heap end h piece =
    let within = h.within in
    let long : length (trace_of segments) ≡ at = ap length h.trace ∙ omega (arith, length-take at ops) in
    let place : 0 + length (trace_of segments) ≡ at = omega arith in
    marks_from-append 0 segments more ∙ ap (λ ps. marks_from 0 segments ++ ps) (piece.marks (0 + length (trace_of segments)) ∙ ap (λ p. p ∷ []) place)

-- so it is behind the first ones
pub marks-bare-later : (segments : List SegmentView) (from i : ℕ) (s : SegmentView) → from ≤ i → i < length segments → s ≡ get_or segments i s → is_some s.mark ≡ false
    → ((at : ℕ) → marks_from at (take (i - from) (drop from segments)) ≡ []) → (at : ℕ) → marks_from at (take (i + 1 - from) (drop from segments)) ≡ []
marks-bare-later segments from i s le lt is none h at =
    let back : from + (i - from) ≡ i = omega arith in
    let next : i - from + 1 ≡ i + 1 - from = omega arith in
    let here : s ≡ get_or (drop from segments) (i - from) s = is ∙ ap (λ n. get_or segments n s) (sym back) ∙ sym (get_or-drop from segments (i - from) s) in
    ap (λ n. marks_from at (take n (drop from segments))) (sym next) ∙ marks-bare-next (drop from segments) (i - from) s (omega (arith, length-drop from segments)) here none h at
