-- What was told so far, with what is still to be told.
use Rattle.std.proofs.Common.{◌≡◌, ℕ, ◌+◌, ◌<◌, List, [], ◌∷◌, ◌++◌, map, drop, length, ap, ◌∙◌, sym, subst, arith, length-append, Bool, true}
use Rattle.std.specs.Prelude.{flat_map, get_or, Option, Some, None, ◌==◌, ◌&&◌}
use Rattle.std.proofs.lemmas.Grind.{flat_map-append}
use Rattle.std.specs.FinMap.{get}
use Rattle.trace_types.specs.declared.slots.Slot.TheVariants.{Nothing, Strong, Weak, Dangling}
use Rattle.trace_types.specs.declared.slots.Entry.{Entry}
use Rattle.trace_types.specs.declared.slots.Entry.TheVariants.{Alive, Husk}
use Rattle.trace_types.specs.declared.slots.Item.{Item}
use Rattle.trace_types.specs.declared.slots.Item.TheVariants as item
use Rattle.trace_types.specs.declared.slots.Change.{Change}
use Rattle.trace_types.specs.declared.outcomes.Event.{Event}
use Rattle.ownership_model.specs.declared.key.Key.{Key}
use Rattle.ownership_model.specs.declared.key.Key.TheVariants.{Object}
use Rattle.ownership_model.specs.State.{State, strong, weak, ends}
use Rattle.ownership_model.specs.Release.{Fate, Stays, Falls, Goes, fall, is_husk, left_by, drop_first}
use Rattle.ownership_model.specs.Changes.{changed_by}
use Rattle.ownership_model.specs.Touched.{event_object}
use Rattle.ownership_model.specs.Alike.{AreWithin, Covers}
use Rattle.ownership_model.specs.Footprint.{item_keys, taken, moved_by, moved_by_changes}
use Rattle.ownership_model.proofs.AlikeLemmas.{within_front, within_back}
use Rattle.ownership_model.proofs.ReleaseLemmas.{either}
use Rattle.ownership_model.proofs.LawsHold.{footprints}
use Rattle.object_heap.specs.declared.draft.Draft.{Draft}
use Rattle.object_heap.specs.Counted.{drafted}
use Rattle.object_heap.specs.Drops.{DropsFirst}
use Rattle.object_heap.specs.Told.{event_keys, IsItemTold}
use Rattle.object_heap.proofs.GainLemmas.{first_change}
use Rattle.object_heap.proofs.CoverLemmas.{within_both}

-- ---- changes
-- one change more was told, and there is one less to tell
pub told_change : (m n : State) (changes : List Change) (i : ℕ) (x : Change) → i < length changes → x ≡ get_or changes i x → n ≡ changed_by m x → (before told all : List Key) → Covers told (before ++ moved_by m x)
    → Covers (before ++ moved_by_changes m (drop i changes)) all → Covers (told ++ moved_by_changes n (drop (i + 1) changes)) all
told_change m n changes i x within is made before told all now so_far = λ k c.
    let rest : List Change = drop (i + 1) changes in
    let here = now k (within_front k told (moved_by_changes n rest) c) in
    let later : AreWithin k (moved_by_changes (changed_by m x) rest) = subst (λ (s : State). AreWithin k (moved_by_changes s rest)) made (within_back k told (moved_by_changes n rest) c) in
    let whole : AreWithin k (moved_by_changes m (x ∷ rest)) = within_both k (moved_by m x) (moved_by_changes (changed_by m x) rest) (within_back k before (moved_by m x) here) later in
    so_far k (within_both k before (moved_by_changes m (drop i changes)) (within_front k before (moved_by m x) here)
    (subst (λ (cs : List Change). AreWithin k (moved_by_changes m cs)) (sym (first_change m n changes i x within is made)) whole))

-- all changes were told
pub told_changes : (m : State) (left : List Change) (told all : List Key) → left ≡ [] → Covers (told ++ moved_by_changes m left) all → Covers told all
told_changes m left told all none cover = λ k c. cover k (within_both k told (moved_by_changes m left) c (subst (λ (cs : List Change). AreWithin k (moved_by_changes m cs)) (sym none) tt))

-- ---- items
-- an event of an item that is dropped tells of the object that the item names
module _ (k : Key → Bool) (m : State) (xs : List Item) (o : ℕ) where
  abbrev IsTold : Fate → Type 0
  IsTold f = AreWithin k (event_keys (left_by m xs f).events) → 0 < length (left_by m xs f).events → AreWithin k (Object o ∷ [])

  stays_told : IsTold Stays
  stays_told c some = absurd (omega (arith, some))

  falls_told : (e : Option Entry) → IsTold (fall o e)
  falls_told None c some = absurd (omega (arith, some))
  falls_told (Some Husk) c some = absurd (omega (arith, some))
  falls_told (Some (Alive fields)) c some = c

  goes_told : IsTold (Goes o)
  goes_told c some = c

drop_told : (k : Key → Bool) (m : State) (x : Item) (xs : List Item) → AreWithin k (event_keys (drop_first m x xs).events) → 0 < length (drop_first m x xs).events → AreWithin k (item_keys x)
drop_told k m (item.Slot Nothing) xs c some = tt
drop_told k m (item.Slot Dangling) xs c some = tt
drop_told k m (item.Slot (Strong o)) xs c some = either (IsTold k m xs o) (strong m xs o == 0) (fall o (get m.objects o)) Stays (falls_told k m xs o (get m.objects o)) (stays_told k m xs o) c some
drop_told k m (item.Slot (Weak o)) xs c some = either (IsTold k m xs o) (weak m xs o == 0 && (is_husk (get m.objects o) && (ends o xs == 0))) (Goes o) Stays (goes_told k m xs o) (stays_told k m xs o) c some
drop_told k m (item.End o) xs c some = either (IsTold k m xs o) (weak m xs o == 0) (Goes o) Stays (goes_told k m xs o) (stays_told k m xs o) c some

-- the events of two lists
events_front : (k : Key → Bool) (a b : List Event) → AreWithin k (event_keys (a ++ b)) → AreWithin k (event_keys a)
events_front k [] b c = tt
events_front k (e ∷ a) b c = (c.0, events_front k a b c.1)

events_back : (k : Key → Bool) (a b : List Event) → AreWithin k (event_keys (a ++ b)) → AreWithin k (event_keys b)
events_back k [] b c = c
events_back k (e ∷ a) b c = events_back k a b c.1

-- some are new where they are more
some_new : (before new told : List Event) → told ≡ before ++ new → length before < length told → 0 < length new
some_new before new told is more = omega (arith, more, ap (λ (es : List Event). length es) is, length-append before new)

-- one item more was told, by itself or by its event, and there is one less to tell
pub told_item : (old new : Draft) (x : Item) (xs left : List Item) (before told : List Event) → DropsFirst old new x xs left before told → (has_event : Bool) → (has_event ≡ true → length before < length told) → (k0 k1 all : List Key)
    → IsItemTold x has_event k0 k1 → (whole rest : List Item) → whole ≡ x ∷ rest → Covers (k0 ++ (event_keys before ++ flat_map item_keys whole)) all → Covers (k1 ++ (event_keys told ++ flat_map item_keys rest)) all
told_item old new x xs left before told dropped has_event grew k0 k1 all item_told whole rest first so_far = λ k c.
    let d = drop_first (drafted old) x xs in
    let tail : AreWithin k (event_keys told ++ flat_map item_keys rest) = within_back k k1 (event_keys told ++ flat_map item_keys rest) c in
    let events : AreWithin k (event_keys (before ++ d.events)) = subst (λ (es : List Event). AreWithin k (event_keys es)) dropped.step.events (within_front k (event_keys told) (flat_map item_keys rest) tail) in
    let here : AreWithin k (k0 ++ item_keys x) =
    item_told k (λ yes. drop_told k (drafted old) x xs (events_back k before d.events events) (some_new before d.events told dropped.step.events (grew yes)))
    (within_front k k1 (event_keys told ++ flat_map item_keys rest) c) in
    let items : AreWithin k (flat_map item_keys (x ∷ rest)) = within_both k (item_keys x) (flat_map item_keys rest) (within_back k k0 (item_keys x) here) (within_back k (event_keys told) (flat_map item_keys rest) tail) in
    so_far k (within_both k k0 (event_keys before ++ flat_map item_keys whole) (within_front k k0 (item_keys x) here)
    (within_both k (event_keys before) (flat_map item_keys whole) (events_front k before d.events events) (subst (λ (is : List Item). AreWithin k (flat_map item_keys is)) (sym first) items)))

-- before the first item nothing was told yet
pub told_start : (m : State) (before : List Key) (es : List Event) (pending : List Item) → Covers (before ++ (event_keys es ++ flat_map item_keys (taken m pending))) (before ++ flat_map item_keys (taken m pending))
told_start m before es pending = λ k c.
    let items = flat_map item_keys (taken m pending) in
    within_both k before items (within_front k before (event_keys es ++ items) c) (within_back k (event_keys es) items (within_back k before (event_keys es ++ items) c))

-- nothing is left to tell
pub told_end : (m : State) (left : List Item) (told all : List Key) (es : List Event) → Covers (told ++ (event_keys es ++ flat_map item_keys (taken m left))) all → left ≡ [] → Covers (told ++ event_keys es) all
told_end m left told all es cover none = λ k c.
    let last : taken m left ≡ [] = ap (λ (p : List Item). taken m p) none ∙ footprints.none_taken m in
    cover k (within_both k told (event_keys es ++ flat_map item_keys (taken m left)) (within_front k told (event_keys es) c)
    (within_both k (event_keys es) (flat_map item_keys (taken m left)) (within_back k told (event_keys es) c) (subst (λ (is : List Item). AreWithin k (flat_map item_keys is)) (sym last) tt)))

-- what changes moved, the item that is dropped at once and the others were told, but for those of the events
pub told_whole : (k0 k1 k2 k3 c es : List Key) (a t all : List Item) → Covers k1 (k0 ++ c) → Covers k2 (k1 ++ flat_map item_keys a) → Covers (k3 ++ es) (k2 ++ flat_map item_keys t) → all ≡ a ++ t
    → Covers (k3 ++ es) (k0 ++ (c ++ flat_map item_keys all))
told_whole k0 k1 k2 k3 c es a t all first second third whole = λ k w.
    let A = flat_map item_keys a in
    let T = flat_map item_keys t in
    let last = third k w in
    let middle = second k (within_front k k2 T last) in
    let begun = first k (within_front k k1 A middle) in
    let items : AreWithin k (flat_map item_keys (a ++ t)) = subst (AreWithin k) (sym (flat_map-append item_keys a t)) (within_both k A T (within_back k k1 A middle) (within_back k k2 T last)) in
    within_both k k0 (c ++ flat_map item_keys all) (within_front k k0 c begun)
    (within_both k c (flat_map item_keys all) (within_back k k0 c begun) (subst (λ (is : List Item). AreWithin k (flat_map item_keys is)) (sym whole) items))
