-- The laws of layers, and the keys that operations are to leave out for one.
use Rattle.std.proofs.Common.{◌≡◌, ℕ, List, [], ◌∷◌, refl, ap, ◌∙◌, sym, subst, Bool, true, false}
use Rattle.std.specs.Prelude.{◌==◌, ◌||◌, ◌&&◌, not, Option, IsTrue}
use Rattle.std.specs.List.{AllByRecursion, list_any}
use Rattle.std.specs.FinMap.{get}
use Rattle.std.proofs.lemmas.Bool.{and_parts}
use Rattle.trace_types.specs.declared.slots.Entry.{Entry}
use Rattle.trace_types.specs.Operation.{Operation}
use Rattle.trace_types.specs.Trace.{has_distinct_numbers}
use Rattle.ownership_model.specs.declared.key.Key.{Key}
use Rattle.ownership_model.specs.declared.key.Key.TheVariants.{Handle, Cell, Object, Scope}
use Rattle.ownership_model.specs.State.{State, IsSound}
use Rattle.ownership_model.specs.Step.{end_from, AreUnused}
use Rattle.ownership_model.specs.Alike.{AreWithin, AreAlike, IsKeptOutside}
use Rattle.ownership_model.specs.Footprint.{footprints_from, moved_from}
use Rattle.ownership_model.specs.Near.{is_object_of, AreEntriesNear}
use Rattle.ownership_model.specs.NearLaws.{ReplaysNear}
use Rattle.ownership_model.specs.Reach.{has}
use Rattle.ownership_model.proofs.LawsHold.{soundness, footprints, near, blind}
use Rattle.object_heap.specs.declared.put.Put.{Put}
use Rattle.heap_difference.specs.declared.key_set.KeySet.{KeySet}
use Rattle.heap_difference.specs.declared.shifts.Shift.{Shift}
use Rattle.object_heap.specs.declared.put.FieldPut.{FieldPut}
use Rattle.ownership_model.proofs.Counting.{same_number}
use Rattle.heap_difference.specs.Filters.{may_have, HasKeys}
use Rattle.heap_difference.specs.KeySets.{handles_alone, is_among, set_of, meet}
use Rattle.heap_difference.specs.Differences.{outside, IsDifference}
use Rattle.heap_difference.specs.Alikes.{is_alike, is_loose}
use Rattle.heap_difference.specs.Puts.{AreUndersApart, unders}
use Rattle.heap_difference.specs.Laid.{beside_firm, IsWhole}
use Rattle.heap_difference.specs.Layers.{LayerView, IsLaidBy, Covers, AreAmong, IsPassable, IsPassedUnder, LayersHold}
use Rattle.heap_difference.proofs.Tests.{clash, is_false, not_false, not_true, left_false, right_false}
use Rattle.heap_difference.proofs.KeyLemmas.{meet_listed}
use Rattle.heap_difference.proofs.LawLemmas.{fewer, within_front, within_more}
use Rattle.heap_difference.proofs.PutLemmas.{alike_less, puts_stay_by}
use Rattle.heap_difference.proofs.AlikeLemmas.{less_loose_entry, near_entry_through, shifts_on, fields_on}
use Rattle.heap_difference.proofs.LaidLemmas.{laid_is}
use Rattle.heap_difference.proofs.FilterLemmas.{none_among}
use Rattle.heap_difference.proofs.PuttingLemmas.{unders_apart, apart_unders}

-- ---- the laws
alike_through : (k : Key → Bool) (l m n : State) → AreAlike k l m → AreAlike k m n → AreAlike k l n
alike_through k l m n a b = record {
  handles = λ h c. a.handles h c ∙ b.handles h c;
  cells = λ q c. a.cells q c ∙ b.cells q c;
  entries = λ o c. a.entries o c ∙ b.entries o c;
  strongs = λ o c. a.strongs o c ∙ b.strongs o c;
  weaks = λ o c. a.weaks o c ∙ b.weaks o c;
  scopes = λ t c. a.scopes t c ∙ b.scopes t c;
  within_scopes = λ t. a.within_scopes t ∙ b.within_scopes t;
}

kept_through : (k : Key → Bool) (l m n : State) → IsKeptOutside k l m → IsKeptOutside k m n → IsKeptOutside k l n
kept_through k l m n a b = record {
  handles = λ h c. b.handles h c ∙ a.handles h c;
  cells = λ q c. b.cells q c ∙ a.cells q c;
  entries = λ o c. b.entries o c ∙ a.entries o c;
  within_scopes = λ t. b.within_scopes t ∙ a.within_scopes t;
}

kept_same : (k : Key → Bool) (m : State) → IsKeptOutside k m m
kept_same k m = record { handles = λ h c. refl; cells = λ q c. refl; entries = λ o c. refl; within_scopes = λ t. refl }

more_keys : (d e : KeySet) (m n : State) → IsDifference d m n → ((x : Key) → is_among d x ≡ true → is_among e x ≡ true) → IsDifference e m n
more_keys d e m n a within = alike_less (outside e) (outside d) m n (λ x. fewer (is_among d x) (is_among e x) (within x)) a

kept_same-firm : (d : KeySet) (shifts : List Shift) (m : State) → IsKeptOutside (beside_firm d shifts) m m
kept_same-firm d shifts m = kept_same (beside_firm d shifts) m

-- ---- a layer in place of another one
module _ (l other : LayerView) (old mid new : State) (first : IsLaidBy other old mid) (covers : Covers l other) (second : IsLaidBy l mid new) where
  near_over : (o : ℕ) → is_alike l.shifts o ≡ true → (b c : Bool) → is_alike other.shifts o ≡ b → has o other.keys.objects ≡ c → AreEntriesNear (is_loose l.fields o) (get old.objects o) (get new.objects o)
  near_over o here true c e f =
      near_entry_through (is_loose l.fields o) (get old.objects o) (get mid.objects o) (get new.objects o)
      (less_loose_entry (is_loose other.fields o) (is_loose l.fields o) (get old.objects o) (get mid.objects o) (λ i loose. covers.fields o i loose here) (first.is.near o e))
      (second.is.near o here)
  near_over o here false true e f = absurd (clash (is_alike l.shifts o) here (covers.firm o f e))
  near_over o here false false e f =
      subst (λ (x : Option Entry). AreEntriesNear (is_loose l.fields o) x (get new.objects o)) (sym (first.is.difference.entries o (not_false (has o other.keys.objects) f))) (second.is.near o here)

  laid_through : IsLaidBy l old new
  laid_through = record {
    layer = second.layer;
    is = record {
      sound = second.is.sound;
      difference = alike_through (outside l.keys) old mid new (more_keys other.keys l.keys old mid first.is.difference covers.keys) second.is.difference;
      near = λ o here. near_over o here (is_alike other.shifts o) (has o other.keys.objects) refl refl;
      stays = second.is.stays;
      stand = second.is.stand;
      holds = second.is.holds;
    };
  }

-- ---- operations that are passed
-- what is touched is alike, or one of the objects
touched_either : (b c : Bool) → (b ≡ true → c ≡ true) → (not b || c) ≡ true
touched_either true c so = so refl
touched_either false c so = refl

touched_or : (b c : Bool) → (b ≡ true → c ≡ true) → (c || not b) ≡ true
touched_or true c so = ap (λ x. x || false) (so refl)
touched_or false true so = refl
touched_or false false so = refl

module _ (l : LayerView) (keys sets : KeySet) (old new : State) (ops : List Operation) (laid : IsLaidBy l old new) (may : IsPassable l keys sets old new ops)
    (sound : IsSound old []) (distinct : IsTrue (has_distinct_numbers ops)) (unused : AreUnused old ops) (unused_too : AreUnused new ops) where
  abbrev touch : Key → Bool
  touch = is_among keys

  abbrev alike : ℕ → Bool
  alike = is_alike l.shifts

  abbrev loose : ℕ → ℕ → Bool
  loose = is_loose l.fields

  feet : AreWithin touch (footprints_from old ops)
  feet = within_front touch (footprints_from old ops) (moved_from old ops) may.touched

  goes : ReplaysNear (outside l.keys) touch (is_among sets) alike loose old new ops
  goes = near (outside l.keys) touch (is_among sets) alike loose old new ops
      (λ o here. not_true (has o l.keys.objects) (laid.layer.alike o here))
      (λ x here. touched_either (is_among l.keys x) (is_object_of alike x) (may.firm x here))
      (record { alike = laid.is.difference; near = laid.is.near }) feet may.set may.blind may.alive sound laid.is.sound distinct unused unused_too

  feet_too : AreWithin touch (footprints_from new ops)
  feet_too = subst (λ ks. AreWithin touch ks) goes.footprints feet

  stays_firm : IsKeptOutside (beside_firm l.keys l.shifts) new (end_from new ops)
  stays_firm =
      (footprints.kept_by_replay (beside_firm l.keys l.shifts) new ops laid.is.sound distinct unused_too
      (within_more touch (beside_firm l.keys l.shifts) (footprints_from new ops) (λ x here. touched_or (is_among l.keys x) (is_object_of alike x) (may.firm x here)) feet_too)).0

  untouched : (h : ℕ) → has h l.keys.handles ≡ true → is_among keys (Handle h) ≡ false
  untouched h here = at (is_among keys (Handle h)) refl
    where
      at : (b : Bool) → is_among keys (Handle h) ≡ b → is_among keys (Handle h) ≡ false
      at true e = absurd (let f : false ≡ true = may.firm (Handle h) e here in cc)
      at false e = e

  -- of a smaller difference fewer objects are alike
  module _ (d : KeySet) (among : AreAmong d l) where
    abbrev fewer_alike : ℕ → Bool
    fewer_alike o = alike o && has o d.objects

    both_true : (b c : Bool) → (b && c) ≡ true → (b ≡ true) × (c ≡ true)
    both_true true c e = (refl, e)
    both_true false c e = absurd cc

    in_both : (b c : Bool) → b ≡ true → c ≡ true → (b && c) ≡ true
    in_both true c e f = f
    in_both false c e f = absurd cc

    one_of : (x : Key) → touch x ≡ true → is_among d x ≡ true → is_object_of fewer_alike x ≡ true
    one_of (Handle h) here there = may.firm (Handle h) here (among (Handle h) there)
    one_of (Cell c) here there = may.firm (Cell c) here (among (Cell c) there)
    one_of (Object o) here there = in_both (alike o) (has o d.objects) (may.firm (Object o) here (among (Object o) there)) there
    one_of (Scope t) here there = may.firm (Scope t) here (among (Scope t) there)

    stays_differing : IsDifference d old new → IsDifference d (end_from old ops) (end_from new ops)
    stays_differing differ =
        (near (outside d) touch (is_among sets) fewer_alike loose old new ops
        (λ o here. not_true (has o d.objects) (both_true (alike o) (has o d.objects) here).1)
        (λ x here. touched_either (is_among d x) (is_object_of fewer_alike x) (one_of x here))
        (record { alike = differ; near = λ o here. laid.is.near o (both_true (alike o) (has o d.objects) here).0 }) feet may.set
        (blind.fewer alike fewer_alike loose old ops (λ o here. (both_true (alike o) (has o d.objects) here).0) may.blind)
        (λ o here there. may.alive o (both_true (alike o) (has o d.objects) here).0 there) sound laid.is.sound distinct unused unused_too).near.alike

  passes_under : IsPassedUnder l keys sets old new ops
  passes_under = record {
    outcomes = goes.outcomes;
    laid = record {
      layer = laid.layer;
      is = record {
        sound = (soundness.replays new ops laid.is.sound distinct unused_too).1;
        difference = goes.near.alike;
        near = goes.near.near;
        stays = kept_through (beside_firm l.keys l.shifts) l.from new (end_from new ops) laid.is.stays stays_firm;
        stand = puts_stay_by l.keys keys old new l.puts ops untouched goes.scopes feet_too may.unders laid.is.sound distinct unused_too laid.is.stand;
        holds = fields_on l.shifts l.fields new (end_from new ops) laid.layer.own laid.is.holds goes.fields;
      };
    };
    counts = λ are. shifts_on l.shifts old (end_from old ops) new (end_from new ops) are goes.weights;
    footprints = goes.footprints;
    moved = goes.moved;
    stays = (footprints.kept_by_replay touch new ops laid.is.sound distinct unused_too feet_too).0;
    still = goes.still;
    differs = stays_differing;
  }

pub layers_hold : LayersHold
layers_hold = record {
  made = λ l old m is sound. laid_is l.keys l.firm l.shifts l.fields old l.from l.puts m is.layer sound is.is;
  more = more_keys;
  start = λ l old layer differ alike holds sound are.
      record { layer = layer; is = record { sound = sound; difference = differ; near = alike; stays = kept_same-firm l.keys l.shifts l.from; stand = are; holds = holds } };
  on = passes_under;
  through = laid_through;
}

-- ---- keys to leave out
module _ (p q r : Key → Bool) (same : (x : Key) → r x ≡ (p x || q x)) where
  any_of_two : (keys : List Key) → list_any r keys ≡ (list_any p keys || list_any q keys)
  any_of_two [] = refl
  any_of_two (x ∷ keys) =
      ap (λ b. b || list_any r keys) (same x)
      ∙ ap (λ b. (p x || q x) || b) (any_of_two keys)
      ∙ sorted (p x) (q x) (list_any p keys) (list_any q keys)
    where
      sorted : (a b c d : Bool) → ((a || b) || (c || d)) ≡ ((a || c) || (b || d))
      sorted true b c d = refl
      sorted false true true d = refl
      sorted false true false d = refl
      sorted false false c d = refl

pub both_false : (a b : Bool) → a ≡ false → b ≡ false → (a || b) ≡ false
both_false true b e f = absurd cc
both_false false b e f = f

module _ (avoided keys : KeySet) (puts : List Put) (names : List Key) (same : (x : Key) → is_among avoided x ≡ (is_among keys x || is_among (handles_alone (unders puts)) x)) where
  meets_either : meet avoided (set_of names) ≡ (meet keys (set_of names) || meet (handles_alone (unders puts)) (set_of names))
  meets_either =
      sym (meet_listed avoided names)
      ∙ any_of_two (is_among keys) (is_among (handles_alone (unders puts))) (is_among avoided) same names
      ∙ ap (λ b. b || list_any (is_among (handles_alone (unders puts))) names) (meet_listed keys names)
      ∙ ap (λ b. meet keys (set_of names) || b) (meet_listed (handles_alone (unders puts)) names)

  pub apart_where : meet avoided (set_of names) ≡ false → (meet keys (set_of names) ≡ false) × AreUndersApart (set_of names) puts
  apart_where none =
      let neither = sym meets_either ∙ none in
      let here = meet keys (set_of names) in
      let there = meet (handles_alone (unders puts)) (set_of names) in
      (left_false here there neither, unders_apart (set_of names) puts (right_false here there neither))

  pub none_where : meet keys (set_of names) ≡ false → AreUndersApart (set_of names) puts → meet avoided (set_of names) ≡ false
  none_where none apart = meets_either ∙ both_false (meet keys (set_of names)) (meet (handles_alone (unders puts)) (set_of names)) none (apart_unders (set_of names) puts apart)

-- what either has the bits have
one_of_two : (b c : Bool) → b ≡ true → (b || c) ≡ true
one_of_two true c e = refl
one_of_two false c e = absurd cc

other_of_two : (b c : Bool) → c ≡ true → (b || c) ≡ true
other_of_two true c e = refl
other_of_two false c e = e

-- where a filter has none of the bits of the keys, nor of the handles under puts, whatever keys it has are none of these
pub apart_by : (keys : KeySet) (puts : List Put) (told : List Key) (theirs own : List ℕ) → ((x : Key) → may_have theirs x ≡ true → may_have own x ≡ false)
    → ((x : Key) → (is_among keys x || is_among (handles_alone (unders puts)) x) ≡ true → may_have own x ≡ true) → HasKeys theirs told
    → (meet keys (set_of told) ≡ false) × AreUndersApart (set_of told) puts
apart_by keys puts told theirs own none has them = (
  sym (meet_listed keys told) ∙ none_among theirs own keys none (λ x here. has x (one_of_two (is_among keys x) (is_among (handles_alone (unders puts)) x) here)) told them,
  unders_apart (set_of told) puts
      (sym (meet_listed (handles_alone (unders puts)) told)
      ∙ none_among theirs own (handles_alone (unders puts)) none (λ x here. has x (other_of_two (is_among keys x) (is_among (handles_alone (unders puts)) x) here)) told them),
)

-- ---- what a layer lays of another one
-- each field of these is one of those, where its object is one of theirs
field_covered : (p : ℕ → Bool) (fields others : List FieldPut) → AllByRecursion (λ f. p f.object ≡ true → is_loose fields f.object f.index ≡ true) others → (o i : ℕ) → is_loose others o i ≡ true → p o ≡ true → is_loose fields o i ≡ true
field_covered p fields [] all o i loose here = absurd cc
field_covered p fields (f ∷ others) all o i loose here = at (f.object == o) (f.index == i) refl refl loose (λ rest. field_covered p fields others all.1 o i rest here)
  where
    at : (b c : Bool) → (f.object == o) ≡ b → (f.index == i) ≡ c → ((b && c) || is_loose others o i) ≡ true → (is_loose others o i ≡ true → is_loose fields o i ≡ true) → is_loose fields o i ≡ true
    at true true e g there rest =
        subst (λ j. is_loose fields o j ≡ true) (same_number f.index i g) (subst (λ q. is_loose fields q f.index ≡ true) (same_number f.object o e) (all.0 (ap p (same_number f.object o e) ∙ here)))
    at true false e g there rest = rest there
    at false c e g there rest = rest there

pub covers_is : (l other : LayerView) (firm others : KeySet) → IsWhole l.keys l.firm l.shifts l.fields
    → ((x : Key) → is_among firm x ≡ (is_among l.keys x && not (is_object_of (is_alike l.shifts) x)))
    → ((x : Key) → is_among others x ≡ (is_among other.keys x && not (is_object_of (is_alike other.shifts) x)))
    → ((x : Key) → is_among other.keys x ≡ true → is_among l.keys x ≡ true)
    → ((x : Key) → is_among others x ≡ true → is_among firm x ≡ true)
    → AllByRecursion (λ f. is_alike l.shifts f.object ≡ true → is_loose l.fields f.object f.index ≡ true) other.fields → Covers l other
covers_is l other firm others whole own theirs keys firms fields = record {
  keys = keys;
  firm = λ o here out. not_alike o (is_alike l.shifts o) refl (firms (Object o) (theirs (Object o) ∙ (λ i. here i && not (out i))));
  fields = field_covered (is_alike l.shifts) l.fields other.fields fields;
}
  where
    never : (b : Bool) → (b && false) ≡ true → ⊥
    never true e = cc
    never false e = cc

    not_alike : (o : ℕ) (b : Bool) → is_alike l.shifts o ≡ b → is_among firm (Object o) ≡ true → is_alike l.shifts o ≡ false
    not_alike o true e here = absurd (never (has o l.keys.objects) ((λ i. has o l.keys.objects && not (sym e i)) ∙ sym (own (Object o)) ∙ here))
    not_alike o false e here = e

-- where a layer covers another one, it has what is firm there as firm keys
pub firm_covered : (l other : LayerView) (firm others : KeySet)
    → ((x : Key) → is_among firm x ≡ (is_among l.keys x && not (is_object_of (is_alike l.shifts) x)))
    → ((x : Key) → is_among others x ≡ (is_among other.keys x && not (is_object_of (is_alike other.shifts) x)))
    → Covers l other → (x : Key) → is_among others x ≡ true → is_among firm x ≡ true
firm_covered l other firm others own theirs covers x here =
    let parts = and_parts (is_among other.keys x) (not (is_object_of (is_alike other.shifts) x)) (sym (theirs x) ∙ here) in
    own x ∙ (λ i. covers.keys x parts.0 i && not (stays_firm x parts.0 parts.1 i))
  where
    stays_firm : (x : Key) → is_among other.keys x ≡ true → not (is_object_of (is_alike other.shifts) x) ≡ true → is_object_of (is_alike l.shifts) x ≡ false
    stays_firm (Object o) there out = covers.firm o there (is_false (is_alike other.shifts o) out)
    stays_firm (Handle h) there out = refl
    stays_firm (Cell c) there out = refl
    stays_firm (Scope t) there out = refl
