-- Old stretches that are taken over though the heaps differ.
use Rattle.std.proofs.Common.{◌≡◌, ℕ, ◌+◌, ◌<◌, ◌≤◌, zero, suc, List, [], ◌∷◌, ◌++◌, length, take, drop, get_or, true, false, refl, ap, sym, subst, ◌∙◌, arith, length-append, take-append-drop}
use Rattle.std.specs.Prelude.{flat_map, Result, Ok, Err, IfOk, Option, Some, None, is_some, IfSome, IsTrue, option_map}
use Rattle.std.proofs.lemmas.List.{append-nil, append_assoc, drop-drop}
use mathlib.Core.Logic.{inl}
use Rattle.std.proofs.Math.Seq.{take-append_seam, drop-append_seam}
use Rattle.trace_types.specs.Operation.{Operation}
use Rattle.trace_types.specs.Trace.{has_distinct_numbers}
use Rattle.trace_types.specs.declared.outcomes.Outcome.{Outcome}
use Rattle.ownership_model.specs.declared.key.Key.{Key}
use Rattle.ownership_model.specs.State.{State, IsSound, nothing_held}
use Rattle.ownership_model.specs.Step.{end_from, AreUnused}
use Rattle.ownership_model.specs.Alike.{AreWithin}
use Rattle.ownership_model.specs.Near.{AreNear, AreBlindFrom}
use Rattle.ownership_model.specs.Footprint.{footprints_from, moved_from}
use Rattle.ownership_model.proofs.LawsHold.{appends, soundness}
use Rattle.heap_difference.specs.declared.key_set.KeySet.{KeySet}
use Rattle.heap_difference.specs.declared.holders.Holders.{Holders}
use Rattle.heap_difference.specs.KeySets.{set_of}
use Rattle.heap_difference.specs.Alikes.{is_alike, is_loose}
use Rattle.heap_difference.specs.Differences.{outside, IsDifference}
use Rattle.heap_difference.specs.Laws.{HasTouched}
use Rattle.heap_difference.specs.Laid.{beside_firm}
use Rattle.heap_difference.specs.Naming.{op_keys, outcome_keys}
use Rattle.heap_difference.specs.Layers.{LayerView, with_layer, IsLaidBy, AreAmong}
use Rattle.heap_difference.specs.Passing.{IsUnderWay, ReadTheSame, ArePassed}
use Rattle.heap_difference.specs.Recounted.{told_or}
use Rattle.heap_difference.proofs.LayerLemmas.{layers_hold}
use Rattle.agreement.specs.Agreement.{Agree}
use Rattle.run_engine.specs.declared.replay.prefix.NextStretch.{NextStretch}
use Rattle.run_engine.specs.SegmentView.{SegmentView}
use Rattle.run_engine.specs.Segments.{ops_of, trace_of, mark_here, all_marks, has_mark, AreKeysFrom, IsSegmentFrom, AreReplayFrom, AreFull, BeginsMarked, IsKept, IsPiece}
use Rattle.run_engine.specs.Steps.{IsUntouchedStretch}
use Rattle.run_engine.specs.inner.Layered.{Makes, CanStand, standing_at, started_at, told_at}
use Rattle.run_engine.specs.inner.Untouched.{IsTakenOver, AreTakenOver, CanBeUnder, IsClear, IsUnder, AreUnder, AreOnWay, AreNext, IsPassedOver}
use Rattle.run_engine.proofs.ListingLemmas.{around}
use Rattle.run_engine.proofs.SegmentLemmas.{trace_of-next, trace_of-append, keys-from}
use Rattle.run_engine.proofs.DifferenceLemmas.{touched-there}
use Rattle.run_engine.proofs.PieceLemmas.{AreFull-back, segment-at, unused-behind}
use Rattle.run_engine.proofs.PlaceLemmas.{trace_of-prefix, trace_of-back, trace_of-parted}
use Rattle.run_engine.proofs.ConvergeLemmas.{distinct-back}
use Rattle.run_engine.proofs.MarksLemmas.{IsFollowed, segment-followed}

-- a segment of an old run, and the state where it begins
pub record IsAt (old : List SegmentView) (i : ℕ) (m : State) (s : SegmentView) : Type 0 where
  pub within : i < length old
  pub is : s ≡ get_or old i s
  pub here : m ≡ end_from nothing_held (trace_of (take i old))

-- the operations from there on are those of the segment, and then others
rest-here : (old : List SegmentView) (i : ℕ) (m : State) (s : SegmentView) → IsAt old i m s → trace_of (drop i old) ≡ ops_of s ++ trace_of (drop (i + 1) old)
rest-here old i m s h = ap trace_of (around old i s h.within h.is)

first-here : (old : List SegmentView) (i : ℕ) (m : State) (s : SegmentView) → IsAt old i m s → take (length (ops_of s)) (trace_of (drop i old)) ≡ ops_of s
first-here old i m s h = ap (take (length (ops_of s))) (rest-here old i m s h) ∙ take-append_seam (ops_of s) (trace_of (drop (i + 1) old))

-- where the replay of the segment ends
end-here : (old : List SegmentView) (i : ℕ) (m : State) (s : SegmentView) → IsAt old i m s → end_from nothing_held (trace_of (take (i + 1) old)) ≡ end_from m (ops_of s)
end-here old i m s h =
    ap (end_from nothing_held) (trace_of-next old i s h.within h.is) ∙ appends.end nothing_held (trace_of (take i old)) (ops_of s) ∙ ap (λ n. end_from n (ops_of s)) (sym h.here)

-- it is a segment from there
from-here : (old : List SegmentView) (i : ℕ) (m : State) (s : SegmentView) → IsAt old i m s → AreReplayFrom nothing_held old → IsSegmentFrom m s
from-here old i m s h replay = subst (λ n. IsSegmentFrom n s) (sym h.here) (segment-at nothing_held old i s replay h.within h.is)

-- no segment is empty
full-here : (old : List SegmentView) (i : ℕ) (m : State) (s : SegmentView) → IsAt old i m s → AreFull old → 0 < length (ops_of s)
full-here old i m s h full = (subst AreFull (around old i s h.within h.is) (AreFull-back (take i old) (drop i old) (subst AreFull (sym (take-append-drop i old)) full))).0

-- a checkpoint that is there is the state
marked-here : (o : Option State) (m : State) → is_some o ≡ true → IfSome o (λ n. n ≡ m) → o ≡ Some m
marked-here None m t is = absurd cc
marked-here (Some n) m t is = ap Some is

-- there are no more segments than operations
pub full-few : (segments : List SegmentView) → AreFull segments → length segments ≤ length (trace_of segments)
full-few [] full = omega arith
full-few (s ∷ segments) full =
    let some = full.0 in
    let more = full-few segments full.1 in
    omega (arith, length-append (ops_of s) (trace_of segments))

-- what is known where the segment may begin with a new state while a replay is on its way under a layer: its operations are passed, with these outcomes
record IsUnderHere (old : List SegmentView) (i : ℕ) (m new : State) (s : SegmentView) (l : LayerView) (before after : Holders) (told : List Outcome) : Type 0 where
  at : IsAt old i m s
  sound : IsSound m []
  way : IsUnderWay l before m new
  unused : AreUnused new (trace_of (drop i old))
  distinct : IsTrue (has_distinct_numbers (trace_of (drop i old)))
  passed : ArePassed l after told m new (ops_of s)
  names : flat_map outcome_keys told ≡ flat_map outcome_keys s.outcomes

-- an old state is sound
pub sound-at : (old : List SegmentView) (i : ℕ) → IsTrue (has_distinct_numbers (trace_of old)) → IsSound (end_from nothing_held (trace_of (take i old))) []
sound-at old i distinct =
    let prefix : List Operation = trace_of (take i old) in
    let whole : IsTrue (has_distinct_numbers (prefix ++ trace_of (drop i old))) = subst (λ ops. IsTrue (has_distinct_numbers ops)) (sym (trace_of-parted old i)) distinct in
    (soundness.replays nothing_held prefix soundness.start (appends.distinct_front prefix (trace_of (drop i old)) whole) (soundness.unused prefix)).1

-- so it is at an old segment whose keys are known, and whose operations may be passed
clear-at : (old : List SegmentView) (last : State) (i : ℕ) (new : State) (s : SegmentView) (l : LayerView) (before after : Holders) (told : List Outcome) → IsKept old last → i < length old → s ≡ get_or old i s
    → IsClear s l before after told → IsUnderWay l before (end_from nothing_held (trace_of (take i old))) new → AreUnused new (trace_of (drop i old))
    → IsUnderHere old i (end_from nothing_held (trace_of (take i old))) new s l before after told
clear-at old last i new s l before after told kept lt is clear way unused =
    let m : State = end_from nothing_held (trace_of (take i old)) in
    let h : IsAt old i m s = record { within = lt; is = is; here = refl } in
    let prefix : List Operation = trace_of (take i old) in
    let rest : List Operation = trace_of (drop (i + 1) old) in
    let whole : IsTrue (has_distinct_numbers (prefix ++ trace_of (drop i old))) = subst (λ ops. IsTrue (has_distinct_numbers ops)) (sym (trace_of-parted old i)) kept.trace.distinct in
    let behind : IsTrue (has_distinct_numbers (trace_of (drop i old))) = distinct-back old i kept.trace.distinct in
    let from : IsSegmentFrom m s = from-here old i m s h kept.run.replay in
    record {
      at = h;
      sound = sound-at old i kept.trace.distinct;
      way = way;
      unused = unused;
      distinct = behind;
      passed = clear.passed m new way (touched-there old i s clear.told kept.run.replay lt is clear.known) from.outcomes (record {
        sound = sound-at old i kept.trace.distinct;
        distinct = appends.distinct_front (ops_of s) rest (subst (λ ops. IsTrue (has_distinct_numbers ops)) (rest-here old i m s h) behind);
        unused = appends.unused_front m (ops_of s) rest (subst (AreUnused m) (rest-here old i m s h) (unused-behind prefix (trace_of (drop i old)) whole));
        new_unused = appends.unused_front new (ops_of s) rest (subst (AreUnused new) (rest-here old i m s h) unused);
      });
      names = clear.names;
    }

-- the segment may begin with the new state
stand-here : (old : List SegmentView) (i : ℕ) (m new : State) (s : SegmentView) (l : LayerView) (before after : Holders) (told : List Outcome) → IsUnderHere old i m new s l before after told → IsSegmentFrom m s → CanStand l s new
stand-here old i m new s l before after told c from =
    let makes : Makes l new m = record { sound = c.sound; laid = c.way.is.laid } in
    record { mark = made s.mark from.mark makes; anchor = made s.anchor from.anchor makes }
  where
    made : (o : Option State) → IfSome o (λ n. n ≡ m) → Makes l new m → IfSome o (Makes l new)
    made None is makes = tt
    made (Some n) is makes = subst (Makes l new) (sym is) makes

all-are : (new : State) (o : Option State) → IfSome (option_map (λ (n : State). new) o) (λ n. n ≡ new)
all-are new None = tt
all-are new (Some n) = refl

-- so are they with outcomes that name the same
keys-named : (keys : Option (List Key)) (m : State) (ops : List Operation) (outcomes told : List Outcome) → flat_map outcome_keys told ≡ flat_map outcome_keys outcomes → AreKeysFrom m keys ops outcomes → AreKeysFrom m keys ops told
keys-named None m ops outcomes told same h = tt
keys-named (Some k) m ops outcomes told same h = subst (λ (names : List Key). HasTouched (set_of (k ++ (flat_map op_keys ops ++ names))) m ops) (sym same) h

-- the keys are those from the new state
same-keys : (old : List SegmentView) (i : ℕ) (m new : State) (s : SegmentView) (l : LayerView) (before after : Holders) (told : List Outcome) → IsUnderHere old i m new s l before after told → IsSegmentFrom m s → AreKeysFrom new s.keys (ops_of s) told
same-keys old i m new s l before after told c from =
    keys-named s.keys new (ops_of s) s.outcomes told c.names
    (keys-from s.keys m new (ops_of s) s.outcomes from.keys (record { footprints = c.passed.footprints; moved = c.passed.moved }))

-- it is a segment from the new state
standing-from : (old : List SegmentView) (i : ℕ) (m new : State) (s : SegmentView) (l : LayerView) (before after : Holders) (told : List Outcome) → IsUnderHere old i m new s l before after told → IsSegmentFrom m s
    → IsSegmentFrom new (told_at told (standing_at new s))
standing-from old i m new s l before after told c from = record {
  mark = all-are new s.mark;
  anchor = all-are new s.anchor;
  keys = same-keys old i m new s l before after told c from;
  outcomes = c.passed.outcomes;
}

started-from : (old : List SegmentView) (i : ℕ) (m new : State) (s : SegmentView) (l : LayerView) (before after : Holders) (told : List Outcome) → IsUnderHere old i m new s l before after told → IsSegmentFrom m s
    → IsSegmentFrom new (told_at told (started_at new s))
started-from old i m new s l before after told c from = record {
  mark = refl;
  anchor = all-are new s.anchor;
  keys = same-keys old i m new s l before after told c from;
  outcomes = c.passed.outcomes;
}

IsPiece-here : (old : List SegmentView) (i : ℕ) (m new : State) (s : SegmentView) (l : LayerView) (before after : Holders) (told : List Outcome) → IsUnderHere old i m new s l before after told → IsSegmentFrom m s → s.mark ≡ Some m → AreFull old
    → IsPiece new (trace_of (drop i old)) (told_at told (standing_at new s) ∷ []) (end_from new (ops_of s)) (length (ops_of s))
IsPiece-here old i m new s l before after told c from marked full =
    let first : take (length (ops_of s)) (trace_of (drop i old)) ≡ ops_of s = first-here old i m s c.at in
    let some : 0 < length (ops_of s) = full-here old i m s c.at full in
    let mark : option_map (λ (n : State). new) s.mark ≡ Some new = ap (option_map (λ (n : State). new)) marked in
    record {
      some = some;
      fits = omega (arith, ap length (rest-here old i m s c.at), length-append (ops_of s) (trace_of (drop (i + 1) old)));
      trace = append-nil (ops_of s) ∙ sym first;
      replay = (standing-from old i m new s l before after told c from, tt);
      full = (some, tt);
      begins = ap is_some mark;
      state = ap (end_from new) (sym first);
      marks = λ at. ap (λ o. mark_here at o ++ []) mark;
    }

-- it is an old stretch between neighbouring checkpoints, and differs from the other heap in none that its operations touch
IsUntouchedStretch-here : (old : List SegmentView) (i at : ℕ) (m heap : State) (s : SegmentView) (l : LayerView) (before after : Holders) (told : List Outcome) → IsUnderHere old i m heap s l before after told → s.mark ≡ Some m → length (trace_of (take i old)) ≡ at
    → BeginsMarked (drop (i + 1) old) → IsUntouchedStretch (trace_of old) (all_marks old) heap (trace_of (drop i old)) (length (ops_of s))
IsUntouchedStretch-here old i at m heap s l before after told c marked place begins =
    let h : IsAt old i m s = c.at in
    let len : ℕ = length (ops_of s) in
    let next : IsFollowed (all_marks old) at (length (ops_of s)) (drop (i + 1) old) = segment-followed old i at s m h.within h.is marked place in
    let none : next.gap ≡ 0 = next.first begins in
    let whole : length (ops_of s) + next.gap ≡ length (ops_of s) = omega (arith, none) in
    let ops : List Operation = take (length (ops_of s)) (trace_of (drop i old)) in
    let there : m ≡ end_from nothing_held (take at (trace_of old)) = h.here ∙ ap (end_from nothing_held) (trace_of-prefix old i at place) in
    let same : ReadTheSame l m ops = subst (ReadTheSame l m) (sym (first-here old i m s h)) c.passed.same in
    record {
      at = at;
      place = record {
        long = len;
        neighbours = record { before = next.before; after = next.after; at = at; marks_are = next.marks_are ∙ ap (λ n. next.before ++ at ∷ (at + n) ∷ next.after) whole };
        begins = omega arith;
        ends = omega arith;
        enough = inl refl;
      };
      ops_are = ap (take len) (sym (trace_of-back old i at place));
      keys = outside l.keys;
      objects = is_alike l.shifts;
      loose = is_loose l.fields;
      near = subst (λ n. AreNear (outside l.keys) (is_alike l.shifts) (is_loose l.fields) n heap) there (record { alike = c.way.is.laid.is.difference; near = c.way.is.laid.is.near });
      blind = subst (λ n. AreBlindFrom (is_alike l.shifts) (is_loose l.fields) n ops) there same.blind;
      within = subst (λ n. AreWithin (beside_firm l.keys l.shifts) (footprints_from n ops ++ moved_from n ops)) there same.within;
    }

-- behind it the replay is still on its way
way-behind : (old : List SegmentView) (i : ℕ) (m new : State) (s : SegmentView) (l : LayerView) (before after : Holders) (told : List Outcome) → IsUnderHere old i m new s l before after told
    → IsUnderWay l after (end_from nothing_held (trace_of (take (i + 1) old))) (end_from new (ops_of s))
way-behind old i m new s l before after told c = subst (λ n. IsUnderWay l after n (end_from new (ops_of s))) (sym (end-here old i m s c.at)) c.passed.way

-- a difference among its keys stays
differs-behind : (old : List SegmentView) (i : ℕ) (m new : State) (s : SegmentView) (l : LayerView) (before after : Holders) (told : List Outcome) → IsUnderHere old i m new s l before after told → (d : KeySet) → AreAmong d l → IsDifference d m new
    → IsDifference d (end_from nothing_held (trace_of (take (i + 1) old))) (end_from new (ops_of s))
differs-behind old i m new s l before after told c d among differ = subst (λ n. IsDifference d n (end_from new (ops_of s))) (sym (end-here old i m s c.at)) (c.passed.differs d among differ)

unused-next : (old : List SegmentView) (i : ℕ) (m new : State) (s : SegmentView) (l : LayerView) (before after : Holders) (told : List Outcome) → IsUnderHere old i m new s l before after told → AreUnused (end_from new (ops_of s)) (trace_of (drop (i + 1) old))
unused-next old i m new s l before after told c =
    let rest : trace_of (drop i old) ≡ ops_of s ++ trace_of (drop (i + 1) old) = rest-here old i m s c.at in
    appends.unused_rest new (ops_of s) (trace_of (drop (i + 1) old)) c.way.is.laid.is.sound (subst (λ ops. IsTrue (has_distinct_numbers ops)) rest c.distinct) (subst (AreUnused new) rest c.unused)

-- the segment at i is taken over where a replay is on its way
pub under-here : (old : List SegmentView) (last : State) (i : ℕ) (new : State) (s : SegmentView) (l : LayerView) (before after : Holders) (told : List Outcome) → IsKept old last → i < length old → s ≡ get_or old i s → is_some s.mark ≡ true
    → BeginsMarked (drop (i + 1) old) → IsUnderWay l before (end_from nothing_held (trace_of (take i old))) new → AreUnused new (trace_of (drop i old)) → IsClear s l before after told
    → CanStand l s new × IsUnder old l after i new (told_at told (standing_at new s))
under-here old last i new s l before after told kept lt is marked begins way unused clear =
    let m : State = end_from nothing_held (trace_of (take i old)) in
    let c : IsUnderHere old i m new s l before after told = clear-at old last i new s l before after told kept lt is clear way unused in
    let from : IsSegmentFrom m s = from-here old i m s c.at kept.run.replay in
    let mark : s.mark ≡ Some m = marked-here s.mark m marked from.mark in (
      stand-here old i m new s l before after told c from,
      record {
        begins = begins;
        taken = record {
          stretch = IsUntouchedStretch-here old i (length (trace_of (take i old))) m new s l before after told c mark refl begins;
          piece = IsPiece-here old i m new s l before after told c from mark kept.run.full;
        };
        trace = rest-here old i m s c.at;
        way = way-behind old i m new s l before after told c;
        differs = differs-behind old i m new s l before after told c;
        unused = unused-next old i m new s l before after told c;
      },
    )

-- what is known of a segment that is passed over, with a checkpoint or without
passed-over : (old : List SegmentView) (i : ℕ) (new : State) (s : SegmentView) (l : LayerView) (before after : Holders) (told : List Outcome) (mark anchor : Option State)
    → IsUnderHere old i (end_from nothing_held (trace_of (take i old))) new s l before after told → AreFull old
    → IsSegmentFrom new (record s { mark = mark; anchor = anchor; outcomes = told }) → IsPassedOver old l after i new (is_some mark) (record s { mark = mark; anchor = anchor; outcomes = told })
passed-over old i new s l before after told mark anchor c full from =
    let m : State = end_from nothing_held (trace_of (take i old)) in
    record {
      mark = refl;
      segment = from;
      full = full-here old i m s c.at full;
      trace = rest-here old i m s c.at;
      end_is = end-here old i m s c.at;
      same = c.passed.same;
      way = way-behind old i m new s l before after told c;
      differs = differs-behind old i m new s l before after told c;
      unused = unused-next old i m new s l before after told c;
    }

-- the first segment of a part gets a checkpoint
pub first-over : (old : List SegmentView) (last : State) (i : ℕ) (new : State) (s : SegmentView) (l : LayerView) (before after : Holders) (told : List Outcome) → IsKept old last → i < length old → s ≡ get_or old i s
    → IsUnderWay l before (end_from nothing_held (trace_of (take i old))) new → AreUnused new (trace_of (drop i old)) → IsClear s l before after told
    → IsPassedOver old l after i new true (told_at told (started_at new s))
first-over old last i new s l before after told kept lt is way unused clear =
    let m : State = end_from nothing_held (trace_of (take i old)) in
    let c : IsUnderHere old i m new s l before after told = clear-at old last i new s l before after told kept lt is clear way unused in
    passed-over old i new s l before after told (Some new) (option_map (λ (n : State). new) s.anchor) c kept.run.full (started-from old i m new s l before after told c (from-here old i m s c.at kept.run.replay))

-- another one has none
pub bare-over : (old : List SegmentView) (last : State) (i : ℕ) (new : State) (s : SegmentView) (l : LayerView) (before after : Holders) (told : List Outcome) → IsKept old last → i < length old → s ≡ get_or old i s → is_some s.mark ≡ false
    → IsUnderWay l before (end_from nothing_held (trace_of (take i old))) new → AreUnused new (trace_of (drop i old)) → IsClear s l before after told
    → CanStand l s new × IsPassedOver old l after i new false (told_at told (standing_at new s))
bare-over old last i new s l before after told kept lt is bare way unused clear =
    let m : State = end_from nothing_held (trace_of (take i old)) in
    let c : IsUnderHere old i m new s l before after told = clear-at old last i new s l before after told kept lt is clear way unused in
    let from : IsSegmentFrom m s = from-here old i m s c.at kept.run.replay in (
      stand-here old i m new s l before after told c from,
      subst (λ b. IsPassedOver old l after i new b (told_at told (standing_at new s))) (still-none s.mark bare)
          (passed-over old i new s l before after told (option_map (λ (n : State). new) s.mark) (option_map (λ (n : State). new) s.anchor) c kept.run.full (standing-from old i m new s l before after told c from)),
    )
  where
    still-none : (o : Option State) → is_some o ≡ false → is_some (option_map (λ (n : State). new) o) ≡ false
    still-none None e = refl
    still-none (Some n) e = absurd cc

-- what follows of both that are known of a value, if there is one
pub both-told : {A E : Type 0} (r : Result (Option A) E) (P Q R : A → Type 0) → ((x : A) → P x → Q x → R x) → IfOk r (λ o. IfSome o P) → IfOk r (λ o. IfSome o Q) → IfOk r (λ o. IfSome o R)
both-told (Err e) P Q R so p q = tt
both-told (Ok None) P Q R so p q = tt
both-told (Ok (Some x)) P Q R so p q = so x p q

-- where a segment stands at a new state, and then has other outcomes, what is known of that holds of what is made
pub stands-told : (l : LayerView) (s under r : SegmentView) (others : Option (List Outcome)) (new : State) → CanStand l s new → ((n : State) → CanStand l s n → under ≡ standing_at n s) → r ≡ told_at (told_or under.outcomes others) under
    → told_at (told_or s.outcomes others) (standing_at new s) ≡ r
stands-told l s under r others new can stands is = sym (is ∙ ap (λ (u : SegmentView). told_at (told_or u.outcomes others) u) (stands new can))

-- where it stands, other outcomes name the same as its own
pub names-there : (l : LayerView) (s under : SegmentView) (before after : Holders) (others : Option (List Outcome)) (new : State) → CanStand l s new → ((n : State) → CanStand l s n → under ≡ standing_at n s) → IsClear s l before after (told_or s.outcomes others)
    → flat_map outcome_keys (told_or under.outcomes others) ≡ flat_map outcome_keys under.outcomes
names-there l s under before after others new can stands clear =
    subst (λ (u : SegmentView). flat_map outcome_keys (told_or u.outcomes others) ≡ flat_map outcome_keys u.outcomes) (sym (stands new can)) clear.names

-- ---- one behind the other
taken-snoc : (old : List Operation) (marks : List ℕ) (start : State) (ops : List Operation) (segments : List SegmentView) (s : SegmentView) → AreTakenOver old marks start ops segments
    → IsTakenOver old marks (end_from start (trace_of segments)) (drop (length (trace_of segments)) ops) s → AreTakenOver old marks start ops (segments ++ s ∷ [])
taken-snoc old marks start ops [] s h last = (last, tt)
taken-snoc old marks start ops (r ∷ segments) s h last =
    let end : end_from start (ops_of r ++ trace_of segments) ≡ end_from (end_from start (ops_of r)) (trace_of segments) = appends.end start (ops_of r) (trace_of segments) in
    let far : drop (length (ops_of r ++ trace_of segments)) ops ≡ drop (length (trace_of segments)) (drop (length (ops_of r)) ops) =
    ap (λ n. drop n ops) (length-append (ops_of r) (trace_of segments)) ∙ sym (drop-drop (length (trace_of segments)) (length (ops_of r)) ops) in (
      h.0,
      taken-snoc old marks (end_from start (ops_of r)) (drop (length (ops_of r)) ops) segments s h.1
          (subst (λ os. IsTakenOver old marks (end_from (end_from start (ops_of r)) (trace_of segments)) os s) far
          (subst (λ m. IsTakenOver old marks m (drop (length (ops_of r ++ trace_of segments)) ops) s) end last)),
    )

-- no segment is taken over yet
pub under-none : (old : List SegmentView) (l : LayerView) (index : ℕ) (start : State) (segments : List SegmentView) → segments ≡ [] → index ≤ length old → BeginsMarked (drop index old)
    → IsLaidBy l (end_from nothing_held (trace_of (take index old))) start → AreUnused start (trace_of (drop index old)) → AreUnder old l index start segments
under-none old l index start segments none within begins laid unused =
    let here : index ≡ index + 0 = omega arith in
    subst (AreUnder old l index start) (sym none) (record {
      within = omega (arith, within);
      begins = subst (λ n. BeginsMarked (drop n old)) here begins;
      taken = tt;
      trace = ap (λ n. trace_of (drop n old)) here;
      laid = subst (λ n. IsLaidBy l (end_from nothing_held (trace_of (take n old))) start) here laid;
      differs = λ d among differ. subst (λ n. IsDifference d (end_from nothing_held (trace_of (take n old))) start) here differ;
      unused = subst (λ n. AreUnused start (trace_of (drop n old))) here unused;
    })

-- the replay is on its way behind none
pub way-none : (old : List SegmentView) (l : LayerView) (h : Holders) (index : ℕ) (start : State) (segments : List SegmentView) → segments ≡ [] → IsUnderWay l h (end_from nothing_held (trace_of (take index old))) start
    → IsUnderWay l h (end_from nothing_held (trace_of (take (index + length segments) old))) (end_from start (trace_of segments))
way-none old l h index start segments none way =
    let here : index ≡ index + 0 = omega arith in
    subst (λ (ss : List SegmentView). IsUnderWay l h (end_from nothing_held (trace_of (take (index + length ss) old))) (end_from start (trace_of ss))) (sym none)
    (subst (λ n. IsUnderWay l h (end_from nothing_held (trace_of (take n old))) start) here way)

-- the next one may be
pub under-may : (old : List SegmentView) (l : LayerView) (h : Holders) (index i : ℕ) (start : State) (segments : List SegmentView) → i ≡ index + length segments → i < length old → AreOnWay old l h index start segments
    → CanBeUnder old l h i (end_from start (trace_of segments))
under-may old l h index i start segments place lt on = record {
  within = lt;
  way = subst (λ n. IsUnderWay l h (end_from nothing_held (trace_of (take n old))) (end_from start (trace_of segments))) (sym place) on.way;
  unused = subst (λ n. AreUnused (end_from start (trace_of segments)) (trace_of (drop n old))) (sym place) on.under.unused;
}

-- one more is
pub under-next : (old : List SegmentView) (l : LayerView) (before after : Holders) (index i : ℕ) (start : State) (segments more : List SegmentView) (s : SegmentView) → i ≡ index + length segments → i < length old → more ≡ segments ++ s ∷ []
    → AreOnWay old l before index start segments → IsUnder old l after i (end_from start (trace_of segments)) s → AreOnWay old l after index start more
under-next old l before after index i start segments more s place lt is h next =
    let there : i + 1 ≡ index + length (segments ++ s ∷ []) = omega (arith, length-append segments (s ∷ []), place) in
    let ops : trace_of (segments ++ s ∷ []) ≡ trace_of segments ++ ops_of s = trace_of-append segments (s ∷ []) ∙ ap (λ os. trace_of segments ++ os) (append-nil (ops_of s)) in
    let end : end_from (end_from start (trace_of segments)) (ops_of s) ≡ end_from start (trace_of (segments ++ s ∷ [])) = sym (appends.end start (trace_of segments) (ops_of s)) ∙ ap (end_from start) (sym ops) in
    let behind : trace_of (drop index old) ≡ trace_of segments ++ trace_of (drop i old) = h.under.trace ∙ ap (λ n. trace_of segments ++ trace_of (drop n old)) (sym place) in
    let left : drop (length (trace_of segments)) (trace_of (drop index old)) ≡ trace_of (drop i old) = ap (drop (length (trace_of segments))) behind ∙ drop-append_seam (trace_of segments) (trace_of (drop i old)) in
    let way : IsUnderWay l after (end_from nothing_held (trace_of (take (index + length (segments ++ s ∷ [])) old))) (end_from start (trace_of (segments ++ s ∷ []))) =
    subst (IsUnderWay l after (end_from nothing_held (trace_of (take (index + length (segments ++ s ∷ [])) old)))) end
    (subst (λ n. IsUnderWay l after (end_from nothing_held (trace_of (take n old))) (end_from (end_from start (trace_of segments)) (ops_of s))) there next.way) in
    subst (AreOnWay old l after index start) (sym is) (record {
      under = record {
        within = omega (arith, there, lt);
        begins = subst (λ n. BeginsMarked (drop n old)) there next.begins;
        taken = taken-snoc (trace_of old) (all_marks old) start (trace_of (drop index old)) segments s h.under.taken
            (subst (λ os. IsTakenOver (trace_of old) (all_marks old) (end_from start (trace_of segments)) os s) (sym left) next.taken);
        trace = behind ∙ ap (λ os. trace_of segments ++ os) (next.trace ∙ ap (λ n. ops_of s ++ trace_of (drop n old)) there) ∙ sym (append_assoc (trace_of segments) (ops_of s) (trace_of (drop (index + length (segments ++ s ∷ [])) old)))
            ∙ ap (λ os. os ++ trace_of (drop (index + length (segments ++ s ∷ [])) old)) (sym ops);
        laid = way.is.laid;
        differs = λ d among differ.
            subst (IsDifference d (end_from nothing_held (trace_of (take (index + length (segments ++ s ∷ [])) old)))) end
            (subst (λ n. IsDifference d (end_from nothing_held (trace_of (take n old))) (end_from (end_from start (trace_of segments)) (ops_of s))) there
            (next.differs d among (subst (λ n. IsDifference d (end_from nothing_held (trace_of (take n old))) (end_from start (trace_of segments))) (sym place) (h.under.differs d among differ))));
        unused = subst (λ m. AreUnused m (trace_of (drop (index + length (segments ++ s ∷ [])) old))) end
            (subst (λ n. AreUnused (end_from (end_from start (trace_of segments)) (ops_of s)) (trace_of (drop n old))) there next.unused);
      };
      way = way;
    })

-- the heap behind them is the old one under the layer
pub end-under : (old : List SegmentView) (l : LayerView) (index count : ℕ) (run : List SegmentView) (after end : State) → IsTrue (has_distinct_numbers (trace_of old)) → AreUnder old l index l.from run → count ≡ length run
    → after ≡ end_from nothing_held (trace_of (take (index + count) old)) → end ≡ with_layer l after → end ≡ end_from l.from (trace_of run)
end-under old l index count run after end distinct h same is made =
    let here : after ≡ end_from nothing_held (trace_of (take (index + length run) old)) = is ∙ ap (λ n. end_from nothing_held (trace_of (take (index + n) old))) same in
    made ∙ layers_hold.made l after (end_from l.from (trace_of run)) (subst (λ (m : State). IsLaidBy l m (end_from l.from (trace_of run))) (sym here) h.laid) (subst (λ m. IsSound m []) (sym here) (sound-at old (index + length run) distinct))

-- they are what a replay goes on with
pub next-under : (old : List SegmentView) (l : LayerView) (index count : ℕ) (run : List SegmentView) (after end : State) (next : NextStretch) → AreUnder old l index l.from run → count ≡ length run
    → after ≡ end_from nothing_held (trace_of (take (index + count) old)) → end ≡ end_from l.from (trace_of run) → 0 < count → (1 < count → Agree end after → ⊥)
    → next.segments ≡ run → next.len ≡ length (trace_of run) → next.end ≡ end → AreNext old index l.from next
next-under old l index count run after end next h same is made some apart segments_are len_are end_are = record {
  some = rw segments_are (omega (arith, some, same));
  within = rw segments_are h.within;
  taken = rw segments_are h.taken;
  trace = rw segments_are h.trace;
  len_is = rw segments_are len_are;
  end_is = rw segments_are (end_are ∙ made);
  apart = rw (segments_are, end_are) (λ many agree. apart (omega (arith, many, same)) (subst (Agree end) (sym (is ∙ ap (λ n. end_from nothing_held (trace_of (take (index + n) old))) same)) agree));
}

-- where a segment has its checkpoint, those from there on begin with it
pub begins-marked : (old : List SegmentView) (i : ℕ) → has_mark old i ≡ true → BeginsMarked (drop i old)
begins-marked [] i h = absurd cc
begins-marked (s ∷ old) zero h = h
begins-marked (s ∷ old) (suc i) h = begins-marked old i h
