-- The keys at which a replay and the old run beside it differ.
use Rattle.std.proofs.Common.{◌≡◌, ℕ, ◌+◌, ◌<◌, ◌≤◌, List, [], ◌∷◌, ◌++◌, length, take, drop, get_or, Bool, true, false, refl, ap, sym, subst, ◌∙◌, arith, append_assoc, append-nil, take-append-drop}
use Rattle.std.specs.Prelude.{◌||◌, Some, IsTrue}
use Rattle.std.proofs.Math.Seq.{take-length}
use Rattle.std.proofs.lemmas.List.{length-take}
use Rattle.trace_types.specs.Operation.{Operation}
use Rattle.trace_types.specs.Trace.{has_distinct_numbers}
use Rattle.ownership_model.specs.declared.key.Key.{Key}
use Rattle.ownership_model.specs.State.{State, nothing_held, IsSound}
use Rattle.ownership_model.specs.Step.{step, end_from, AreUnused}
use Rattle.ownership_model.specs.Alike.{AreWithin, Covers}
use Rattle.ownership_model.specs.Footprint.{footprint, moved, footprints_from, moved_from}
use Rattle.ownership_model.proofs.LawsHold.{appends, soundness}
use Rattle.heap_difference.specs.declared.key_set.KeySet.{KeySet}
use Rattle.heap_difference.specs.KeySets.{is_among, set_of, Has}
use Rattle.heap_difference.specs.Differences.{IsDifference, HasDifference}
use Rattle.trace_types.specs.declared.outcomes.Outcome.{Outcome}
use Rattle.op_step.specs.Told.{replay_keys}
use Rattle.heap_difference.specs.Naming.{with_names}
use Rattle.heap_difference.specs.Laws.{HasTouched}
use Rattle.heap_difference.proofs.KeyLemmas.{among_append, among_set_of, Has-set_of}
use Rattle.heap_difference.proofs.LawLemmas.{differences_hold}
use Rattle.run_engine.specs.SegmentView.{SegmentView}
use Rattle.run_engine.specs.Segments.{trace_of, AreReplayFrom, IsReached, AreKeysFrom}
use Rattle.run_engine.specs.inner.Difference.{HasGathered}
use Rattle.run_engine.proofs.ListingLemmas.{take-shorter}
use Rattle.run_engine.proofs.SegmentLemmas.{trace_of-next}
use Rattle.run_engine.proofs.PieceLemmas.{segment-at, unused-behind}
use Rattle.run_engine.proofs.PlaceLemmas.{trace_of-prefix, place-within}

-- ---- what operations in turn touch
pub footprints-append : (m : State) (ops more : List Operation) → footprints_from m (ops ++ more) ≡ footprints_from m ops ++ footprints_from (end_from m ops) more
footprints-append m [] more = refl
footprints-append m (op ∷ ops) more =
    let s : State = (step m op).state in
    ap (λ ks. footprint m op ++ ks) (footprints-append s ops more) ∙ sym (append_assoc (footprint m op) (footprints_from s ops) (footprints_from (end_from s ops) more))

pub moved-append : (m : State) (ops more : List Operation) → moved_from m (ops ++ more) ≡ moved_from m ops ++ moved_from (end_from m ops) more
moved-append m [] more = refl
moved-append m (op ∷ ops) more =
    let s : State = (step m op).state in
    ap (λ ks. moved m op ++ ks) (moved-append s ops more) ∙ sym (append_assoc (moved m op) (moved_from s ops) (moved_from (end_from s ops) more))

pub within-prefix : (k : Key → Bool) (a b : List Key) → AreWithin k (a ++ b) → AreWithin k a
within-prefix k [] b h = tt
within-prefix k (x ∷ a) b h = (h.0, within-prefix k a b h.1)

pub within-back : (k : Key → Bool) (a b : List Key) → AreWithin k (a ++ b) → AreWithin k b
within-back k [] b h = h
within-back k (x ∷ a) b h = within-back k a b h.1

pub within-both : (k : Key → Bool) (a b : List Key) → AreWithin k a → AreWithin k b → AreWithin k (a ++ b)
within-both k [] b h l = l
within-both k (x ∷ a) b h l = (h.0, within-both k a b h.1 l)

within-more : (j k : Key → Bool) (keys : List Key) → ((x : Key) → j x ≡ true → k x ≡ true) → AreWithin j keys → AreWithin k keys
within-more j k [] more h = tt
within-more j k (x ∷ keys) more h = (more x h.0, within-more j k keys more h.1)

-- more keys have it, too
HasTouched-more : (keys all : KeySet) (m : State) (ops : List Operation) → ((x : Key) → is_among keys x ≡ true → is_among all x ≡ true) → HasTouched keys m ops → HasTouched all m ops
HasTouched-more keys all m ops more h = within-more (is_among keys) (is_among all) (footprints_from m ops ++ moved_from m ops) more h

HasTouched-append : (keys : KeySet) (m : State) (ops more : List Operation) → HasTouched keys m ops → HasTouched keys (end_from m ops) more → HasTouched keys m (ops ++ more)
HasTouched-append keys m ops more h l =
    let k : Key → Bool = is_among keys in
    let n : State = end_from m ops in
    let feet : AreWithin k (footprints_from m ops ++ footprints_from n more) =
    within-both k (footprints_from m ops) (footprints_from n more) (within-prefix k (footprints_from m ops) (moved_from m ops) h) (within-prefix k (footprints_from n more) (moved_from n more) l) in
    let moves : AreWithin k (moved_from m ops ++ moved_from n more) =
    within-both k (moved_from m ops) (moved_from n more) (within-back k (footprints_from m ops) (moved_from m ops) h) (within-back k (footprints_from n more) (moved_from n more) l) in
    within-both k (footprints_from m (ops ++ more)) (moved_from m (ops ++ more))
    (subst (AreWithin k) (sym (footprints-append m ops more)) feet) (subst (AreWithin k) (sym (moved-append m ops more)) moves)

-- ---- keys of two sets
among-left : (a b : Bool) → a ≡ true → (a || b) ≡ true
among-left true b h = refl
among-left false b h = absurd cc

among-right : (a b : Bool) → b ≡ true → (a || b) ≡ true
among-right true b h = refl
among-right false b h = h

-- ---- gathering over segments
-- keys that were told of operations from a state have all that they touch
pub told-touched : (told before : List Key) (m : State) (ops : List Operation) (outcomes : List Outcome) → Covers (with_names told ops outcomes) (before ++ replay_keys m ops) → AreKeysFrom m (Some told) ops outcomes
told-touched told before m ops outcomes cover =
    let keys : List Key = with_names told ops outcomes in
    within-back (is_among (set_of keys)) before (replay_keys m ops) (cover (is_among (set_of keys)) (Has-set_of keys).all)

-- what is known of a segment of a replay
pub touched-there : (segments : List SegmentView) (i : ℕ) (s : SegmentView) (keys : List Key) → AreReplayFrom nothing_held segments → i < length segments → s ≡ get_or segments i s → Some keys ≡ s.keys
    → HasTouched (set_of (with_names keys s.ops s.outcomes)) (end_from nothing_held (trace_of (take i segments))) s.ops
touched-there segments i s keys replay lt is known =
    subst (λ o. AreKeysFrom (end_from nothing_held (trace_of (take i segments))) o s.ops s.outcomes) (sym known) (segment-at nothing_held segments i s replay lt is).keys

-- where a segment begins at the position
pub HasGathered-none : (segments : List SegmentView) (first at from : ℕ) (told : List Key) → length (trace_of (take first segments)) ≡ at → at ≡ from → HasGathered segments from first (set_of told) (set_of told)
HasGathered-none segments first at from told place e =
    let there : trace_of (take first segments) ≡ take from (trace_of segments) = trace_of-prefix segments first at place ∙ ap (λ n. take n (trace_of segments)) e in
    let fits : at ≤ length (trace_of segments) = place-within segments first at place in
    record {
      ops = [];
      within = omega (arith, fits, e);
      way = there ∙ sym (append-nil (take from (trace_of segments)));
      more = λ x h. h;
      touched = tt;
    }

-- behind one more segment
pub HasGathered-next : (segments : List SegmentView) (from i : ℕ) (s : SegmentView) (before : KeySet) (told touched all : List Key) → AreReplayFrom nothing_held segments → i < length segments → s ≡ get_or segments i s
    → HasTouched (set_of touched) (end_from nothing_held (trace_of (take i segments))) s.ops → all ≡ told ++ touched → HasGathered segments from i before (set_of told) → HasGathered segments from (i + 1) before (set_of all)
HasGathered-next segments from i s before told touched all replay lt is has_told all_is h =
    let m : State = end_from nothing_held (take from (trace_of segments)) in
    let here : State = end_from nothing_held (trace_of (take i segments)) in
    let there : end_from m h.ops ≡ here = sym (appends.end nothing_held (take from (trace_of segments)) h.ops) ∙ ap (end_from nothing_held) (sym h.way) in
    let both : (x : Key) → is_among (set_of all) x ≡ (is_among (set_of told) x || is_among (set_of touched) x) = λ x. ap (λ keys. is_among (set_of keys) x) all_is ∙ among_append told touched x in
    let left : (x : Key) → is_among (set_of told) x ≡ true → is_among (set_of all) x ≡ true = λ x e. both x ∙ among-left (is_among (set_of told) x) (is_among (set_of touched) x) e in
    let right : (x : Key) → is_among (set_of touched) x ≡ true → is_among (set_of all) x ≡ true = λ x e. both x ∙ among-right (is_among (set_of told) x) (is_among (set_of touched) x) e in
    let new : HasTouched (set_of all) here s.ops = HasTouched-more (set_of touched) (set_of all) here s.ops right has_told in
    record {
      ops = h.ops ++ s.ops;
      within = h.within;
      way = trace_of-next segments i s lt is ∙ ap (λ xs. xs ++ s.ops) h.way ∙ append_assoc (take from (trace_of segments)) h.ops s.ops;
      more = λ x e. left x (h.more x e);
      touched = HasTouched-append (set_of all) m h.ops s.ops (HasTouched-more (set_of told) (set_of all) m h.ops left h.touched) (subst (λ n. HasTouched (set_of all) n s.ops) (sym there) new);
    }

-- a set that has all that was gathered, and what was there before
HasGathered-within : (segments : List SegmentView) (from i : ℕ) (some told before all : KeySet) → ((x : Key) → is_among told x ≡ true → is_among all x ≡ true) → ((x : Key) → is_among before x ≡ true → is_among all x ≡ true)
    → HasGathered segments from i some told → HasGathered segments from i before all
HasGathered-within segments from i some told before all more first h = record {
  ops = h.ops;
  within = h.within;
  way = h.way;
  more = first;
  touched = HasTouched-more told all (end_from nothing_held (take from (trace_of segments))) h.ops more h.touched;
}

-- ---- the difference behind what was gathered

-- the first operations of a trace lead to a sound state, from which others may be carried out
record GoesOnFrom (m : State) (ops : List Operation) : Type 0 where
  pub sound : IsSound m []
  pub distinct : IsTrue (has_distinct_numbers ops)
  pub unused : AreUnused m ops

goes-on : (trace prefix ops : List Operation) (at : ℕ) → IsTrue (has_distinct_numbers trace) → take at trace ≡ prefix ++ ops → GoesOnFrom (end_from nothing_held prefix) ops
goes-on trace prefix ops at distinct way =
    let first : IsTrue (has_distinct_numbers (take at trace)) =
    appends.distinct_front (take at trace) (drop at trace) (subst (λ os. IsTrue (has_distinct_numbers os)) (sym (take-append-drop at trace)) distinct) in
    let parts : IsTrue (has_distinct_numbers (prefix ++ ops)) = subst (λ os. IsTrue (has_distinct_numbers os)) way first in
    record {
      sound = (soundness.replays nothing_held prefix soundness.start (appends.distinct_front prefix ops parts) (soundness.unused prefix)).1;
      distinct = appends.distinct_rest prefix ops parts;
      unused = unused-behind prefix ops parts;
    }

-- both replays have gone on: the keys have all at which they differ
gathered-difference : (ops : List Operation) (old segments : List SegmentView) (edited base x index at : ℕ) (before keys all : KeySet) (heap mark : State)
    → IsTrue (has_distinct_numbers ops) → IsTrue (has_distinct_numbers (trace_of old))
    → IsDifference before (end_from nothing_held (take base (trace_of old))) (end_from nothing_held (take edited ops)) → IsReached ops x segments heap
    → HasGathered segments edited (length segments) before keys → HasGathered old base index keys all → length (trace_of (take index old)) ≡ at
    → mark ≡ end_from nothing_held (take at (trace_of old)) → HasDifference all mark heap
gathered-difference ops old segments edited base x index at before keys all heap mark distinct old_distinct h reached new then place mark_is =
    let few : edited ≤ x = omega (arith, new.within, ap length reached.trace, length-take x ops) in
    let begin : take edited (trace_of segments) ≡ take edited ops = ap (take edited) reached.trace ∙ take-shorter edited x ops few in
    let way : take x ops ≡ take edited ops ++ new.ops =
    sym (ap trace_of (take-length segments) ∙ reached.trace) ∙ new.way ∙ ap (λ os. os ++ new.ops) begin in
    let old_way : take at (trace_of old) ≡ take base (trace_of old) ++ then.ops = sym (trace_of-prefix old index at place) ∙ then.way in
    let m : State = end_from nothing_held (take base (trace_of old)) in
    let n : State = end_from nothing_held (take edited ops) in
    let here : heap ≡ end_from n new.ops = reached.state ∙ ap (end_from nothing_held) way ∙ appends.end nothing_held (take edited ops) new.ops in
    let there : mark ≡ end_from m then.ops = mark_is ∙ ap (end_from nothing_held) old_way ∙ appends.end nothing_held (take base (trace_of old)) then.ops in
    let goes = goes-on ops (take edited ops) new.ops x distinct way in
    let old_goes = goes-on (trace_of old) (take base (trace_of old)) then.ops at old_distinct old_way in
    let touched : HasTouched all n new.ops =
    HasTouched-more keys all n new.ops then.more (subst (λ os. HasTouched keys (end_from nothing_held os) new.ops) begin new.touched) in
    subst (λ s. HasDifference all s heap) (sym there)
    (subst (HasDifference all (end_from m then.ops)) (sym here)
    (differences_hold.among before all m n then.ops new.ops h (λ k e. then.more k (new.more k e))
    then.touched old_goes.sound old_goes.distinct old_goes.unused
    touched goes.sound goes.distinct goes.unused))

-- so have the keys that both replays touched one after the other, as a set, with those before
pub gathered-both : (ops : List Operation) (old segments : List SegmentView) (edited base x index at : ℕ) (before : KeySet) (some told both : List Key) (d all : KeySet) (heap mark : State)
    → IsTrue (has_distinct_numbers ops) → IsTrue (has_distinct_numbers (trace_of old))
    → IsDifference before (end_from nothing_held (take base (trace_of old))) (end_from nothing_held (take edited ops)) → IsReached ops x segments heap
    → HasGathered segments edited (length segments) (set_of some) (set_of told) → HasGathered old base index (set_of told) (set_of both)
    → Has d both → ((x : Key) → is_among all x ≡ (is_among d x || is_among before x)) → length (trace_of (take index old)) ≡ at
    → mark ≡ end_from nothing_held (take at (trace_of old)) → HasDifference all mark heap
gathered-both ops old segments edited base x index at before some told both d all heap mark distinct old_distinct h reached new then d_is all_is place mark_is =
    let last : (k : Key) → is_among (set_of both) k ≡ true → is_among all k ≡ true = λ k e. all_is k ∙ among-left (is_among d k) (is_among before k) (among_set_of d both d_is k ∙ e) in
    let first : (k : Key) → is_among before k ≡ true → is_among all k ≡ true = λ k e. all_is k ∙ among-right (is_among d k) (is_among before k) e in
    gathered-difference ops old segments edited base x index at before all all heap mark distinct old_distinct h reached
    (HasGathered-within segments edited (length segments) (set_of some) (set_of told) before all (λ k e. last k (then.more k e)) first new)
    (HasGathered-within old base index (set_of told) (set_of both) all all last (λ k e. e) then) place mark_is

-- where both stand at one heap nothing differs
pub differs-nowhere : (keys : KeySet) (old new : State) → new ≡ old → IsDifference keys old new
differs-nowhere keys old new e = subst (λ m. IsDifference keys m new) e (differences_hold.same keys new)
