-- The laws of differences, from those of footprints.
use Rattle.std.proofs.Common.{◌≡◌, ℕ, List, [], ◌∷◌, ◌++◌, refl, ap, ◌∙◌, subst, Bool, true, false}
use Rattle.std.specs.Prelude.{◌==◌, ◌||◌, not}
use Rattle.std.specs.Cmp.{nat_cmp_total}
use Rattle.std.specs.FinMap.{same_map, nat_cmp-IsAntisymmetric}
use Rattle.trace_types.specs.Operation.{Operation}
use Rattle.ownership_model.specs.declared.key.Key.{Key}
use Rattle.ownership_model.specs.declared.key.Key.TheVariants.{Handle, Cell, Object, Scope}
use Rattle.ownership_model.specs.Reach.{has}
use Rattle.ownership_model.specs.State.{State, IsSound}
use Rattle.ownership_model.specs.Alike.{AreWithin}
use Rattle.ownership_model.specs.Footprint.{footprints_from, moved_from}
use Rattle.ownership_model.specs.FootprintLaws.{ReplaysAlike, beside}
use Rattle.ownership_model.proofs.Counting.{same_number}
use Rattle.ownership_model.proofs.LawsHold.{footprints, parts_stay, scopes}
use Rattle.heap_difference.specs.declared.key_set.KeySet.{KeySet}
use Rattle.heap_difference.specs.KeySets.{nothing, is_among, share_one, meet}
use Rattle.heap_difference.specs.Differences.{outside, places_outside, IsDifference}
use Rattle.heap_difference.specs.Laws.{HasTouched, StretchesPass, DifferencesHold}
use Rattle.heap_difference.proofs.Tests.{clash, not_false, left_false, right_false}

-- what is among the one numbers is not among the others, where they have none in common
pub share_none : (xs ys : List ℕ) → share_one xs ys ≡ false → (q : ℕ) → has q ys ≡ true → has q xs ≡ false
share_none [] ys none q here = refl
share_none (x ∷ xs) ys none q here = elim (x == q) as (λ b. (x == q) ≡ b → (b || has q xs) ≡ false) [
  | true ↦ λ e. absurd (clash (has x ys) (ap (λ n. has n ys) (same_number x q e) ∙ here) (left_false (has x ys) (share_one xs ys) none))
  | false ↦ λ e. share_none xs ys (right_false (has x ys) (share_one xs ys) none) q here
] refl

-- so it is of keys
pub meet_none : (a b : KeySet) → meet a b ≡ false → (x : Key) → is_among b x ≡ true → outside a x ≡ true
meet_none a b none x here =
    let h : Bool = share_one a.handles b.handles in
    let c : Bool = share_one a.cells b.cells in
    let o : Bool = share_one a.objects b.objects in
    let t : Bool = share_one a.labels b.labels in
    let rest : (c || (o || t)) ≡ false = right_false h (c || (o || t)) none in
    let last : (o || t) ≡ false = right_false c (o || t) rest in
    at x here (left_false h (c || (o || t)) none) (left_false c (o || t) rest) (left_false o t last) (right_false o t last)
  where
    at : (x : Key) → is_among b x ≡ true → share_one a.handles b.handles ≡ false → share_one a.cells b.cells ≡ false → share_one a.objects b.objects ≡ false → share_one a.labels b.labels ≡ false → outside a x ≡ true
    at (Handle q) here h c o t = not_false (has q a.handles) (share_none a.handles b.handles h q here)
    at (Cell q) here h c o t = not_false (has q a.cells) (share_none a.cells b.cells c q here)
    at (Object q) here h c o t = not_false (has q a.objects) (share_none a.objects b.objects o q here)
    at (Scope q) here h c o t = not_false (has q a.labels) (share_none a.labels b.labels t q here)

-- what a set has of two lists together it has of each
pub within_front : (k : Key → Bool) (a b : List Key) → AreWithin k (a ++ b) → AreWithin k a
within_front k [] b c = tt
within_front k (x ∷ a) b c = (c.0, within_front k a b c.1)

pub within_back : (k : Key → Bool) (a b : List Key) → AreWithin k (a ++ b) → AreWithin k b
within_back k [] b c = c
within_back k (x ∷ a) b c = within_back k a b c.1

-- what all keys are in, they are in where more is
pub within_more : (j k : Key → Bool) (keys : List Key) → ((x : Key) → j x ≡ true → k x ≡ true) → AreWithin j keys → AreWithin k keys
within_more j k [] more c = tt
within_more j k (x ∷ keys) more c = (more x c.0, within_more j k keys more c.1)

pub stretches_pass : StretchesPass
stretches_pass d keys old new ops a touched none sound sound_too distinct unused unused_too =
    let k : Key → Bool = outside d in
    let all : AreWithin k (footprints_from old ops ++ moved_from old ops) = within_more (is_among keys) k (footprints_from old ops ++ moved_from old ops) (meet_none d keys none) touched in
    let feet : AreWithin k (footprints_from old ops) = within_front k (footprints_from old ops) (moved_from old ops) all in
    let moves : AreWithin k (moved_from old ops) = within_back k (footprints_from old ops) (moved_from old ops) all in
    let r : ReplaysAlike k old new ops = footprints.replays k old new ops a feet in
    let kept = footprints.kept_by_replay k old ops sound distinct unused feet in
    let kept_too = footprints.kept_by_replay k new ops sound_too distinct unused_too (subst (λ ks. AreWithin k ks) r.footprints feet) in
    record {
      outcomes = r.outcomes;
      difference = r.alike;
      footprints = r.footprints;
      moved = r.moved;
      old_stays = kept.0;
      new_stays = kept_too.0;
      old_counts = kept.1 moves;
      new_counts = kept_too.1 (subst (λ ks. AreWithin k ks) r.moved moves);
    }

-- ---- the difference of two states
same_state : (d : KeySet) (m : State) → IsDifference d m m
same_state d m = record {
  handles = λ h c. refl;
  cells = λ q c. refl;
  entries = λ o c. refl;
  strongs = λ o c. refl;
  weaks = λ o c. refl;
  scopes = λ t c. refl;
  within_scopes = λ t. refl;
}

equal_states : (old new : State) → IsSound old [] → IsSound new [] → IsDifference nothing old new → old ≡ new
equal_states old new sound sound_too a =
    let handles : old.handles ≡ new.handles = same_map nat_cmp_total nat_cmp-IsAntisymmetric old.handles new.handles (λ h. a.handles h refl) in
    let cells : old.cells ≡ new.cells = same_map nat_cmp_total nat_cmp-IsAntisymmetric old.cells new.cells (λ c. a.cells c refl) in
    let objects : old.objects ≡ new.objects = same_map nat_cmp_total nat_cmp-IsAntisymmetric old.objects new.objects (λ o. a.entries o refl) in
    let same : old.scopes ≡ new.scopes = scopes.equal old new [] [] sound sound_too (λ t. a.scopes t refl) in
    λ i. record { handles = handles i; cells = cells i; objects = objects i; scopes = same i }

pub fewer : (a b : Bool) → (a ≡ true → b ≡ true) → not b ≡ true → not a ≡ true
fewer true true p n = absurd cc
fewer true false p n = absurd (clash false (p refl) refl)
fewer false b p n = refl

-- where more is in the set, less is outside of it
less_outside : (d keys : KeySet) → ((x : Key) → is_among d x ≡ true → is_among keys x ≡ true) → (x : Key) → places_outside keys x ≡ true → outside d x ≡ true
less_outside d keys more (Handle h) c = fewer (has h d.handles) (has h keys.handles) (more (Handle h)) c
less_outside d keys more (Cell q) c = fewer (has q d.cells) (has q keys.cells) (more (Cell q)) c
less_outside d keys more (Object o) c = fewer (has o d.objects) (has o keys.objects) (more (Object o)) c
less_outside d keys more (Scope t) c = absurd cc

-- what is in the set isn't outside
twice : (b : Bool) → b ≡ true → not (not b) ≡ true
twice true e = refl
twice false e = absurd cc

among_beside : (keys : KeySet) (x : Key) → is_among keys x ≡ true → beside (places_outside keys) x ≡ true
among_beside keys (Handle h) c = twice (has h keys.handles) c
among_beside keys (Cell q) c = twice (has q keys.cells) c
among_beside keys (Object o) c = twice (has o keys.objects) c
among_beside keys (Scope t) c = refl

touched_beside : (keys : KeySet) (m : State) (ops : List Operation) → HasTouched keys m ops → AreWithin (beside (places_outside keys)) (footprints_from m ops ++ moved_from m ops)
touched_beside keys m ops touched = within_more (is_among keys) (beside (places_outside keys)) (footprints_from m ops ++ moved_from m ops) (among_beside keys) touched

pub differences_hold : DifferencesHold
differences_hold = record {
  same = same_state;
  equal = equal_states;
  among = λ d keys old new ops more a within touched sound distinct unused touched_too sound_too distinct_too unused_too.
      let j : Key → Bool = places_outside keys in
      let first = touched_beside keys old ops touched in
      let second = touched_beside keys new more touched_too in
      parts_stay (outside d) j old new ops more (less_outside d keys within) a
      sound distinct unused (within_front (beside j) (footprints_from old ops) (moved_from old ops) first) (within_back (beside j) (footprints_from old ops) (moved_from old ops) first)
      sound_too distinct_too unused_too (within_front (beside j) (footprints_from new more) (moved_from new more) second) (within_back (beside j) (footprints_from new more) (moved_from new more) second)
      (λ t c. absurd cc);
}
