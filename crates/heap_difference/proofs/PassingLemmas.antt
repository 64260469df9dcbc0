-- Operations that are passed under a layer, one stretch after another.
use Rattle.std.proofs.Common.{◌≡◌, ℕ, ◌<◌, ◌≤◌, List, [], ◌∷◌, ◌++◌, map, length, refl, ap, ◌∙◌, sym, subst, arith, Bool, true, false}
use mathlib.Core.Logic.{⊎_elim, inl, inr}
use Rattle.std.specs.Prelude.{◌==◌, ◌||◌, ◌&&◌, ◌⊎◌, not, flat_map, if◌then◌else◌, Option, Some, None}
use Rattle.std.specs.List.{AllByRecursion, list_any}
use Rattle.trace_types.specs.declared.slots.Slot.TheVariants.{Strong}
use Rattle.trace_types.specs.declared.outcomes.Counts.{Counts}
use Rattle.trace_types.specs.declared.outcomes.Outcome.{Outcome}
use Rattle.trace_types.specs.Operation.{Operation}
use Rattle.ownership_model.specs.declared.key.Key.{Key}
use Rattle.ownership_model.specs.declared.key.Key.TheVariants.{Handle, Cell, Object, Scope}
use Rattle.ownership_model.specs.State.{State, strong, weak, names_alike}
use Rattle.ownership_model.specs.Step.{outcomes_from, end_from}
use Rattle.ownership_model.specs.Alike.{AreWithin}
use Rattle.ownership_model.specs.Footprint.{footprints_from, moved_from}
use Rattle.ownership_model.specs.Near.{is_object_of, weight_of_key, IsHeldOutside, AreKeptAlive, AreBlind, AreBlindFrom, recounted}
use Rattle.ownership_model.specs.Touched.{event_object, counted}
use Rattle.ownership_model.specs.Sets.{sets_from, set_names_of, end_scopes}
use Rattle.ownership_model.specs.Reach.{has}
use Rattle.ownership_model.proofs.Counting.{same_number}
use Rattle.ownership_model.proofs.LawsHold.{appends, places, blind, sets}
use Rattle.heap_difference.specs.declared.key_set.KeySet.{KeySet}
use Rattle.heap_difference.specs.declared.holders.Holders.{Holders}
use Rattle.heap_difference.specs.declared.shifts.Shift.{Shift}
use Rattle.heap_difference.specs.KeySets.{is_among, set_of, meet}
use Rattle.heap_difference.specs.Naming.{op_keys, outcome_keys, with_names, with_sets}
use Rattle.heap_difference.specs.Blind.{are_blind}
use Rattle.heap_difference.specs.Puts.{DoUndersStay}
use Rattle.heap_difference.specs.Alikes.{is_alike, is_loose, shifted_by, shifted_in, shifted_outcome, AreShifts}
use Rattle.heap_difference.specs.Holders.{IsCountedIn, AreOfLessened, AreCountedOff, WerePassed}
use Rattle.heap_difference.specs.Laws.{HasTouched}
use Rattle.heap_difference.specs.Laid.{beside_firm}
use Rattle.heap_difference.specs.Layers.{LayerView, IsLaidBy, IsPassedUnder}
use Rattle.heap_difference.specs.Passing.{IsFirmlyApart, IsOnWay, IsUnderWay, ArePassed, MayFollow}
use Rattle.heap_difference.proofs.Tests.{clash, is_false, left_false, right_false, or_right, not_false}
use Rattle.heap_difference.proofs.KeyLemmas.{Has-set_of, meet_listed, among_append}
use Rattle.heap_difference.proofs.LawLemmas.{meet_none, within_front, within_back, within_more}
use Rattle.heap_difference.proofs.AlikeLemmas.{TellsSmall, shifted_is, no_shift, are_blind_is, tell_small}
use Rattle.heap_difference.proofs.HolderLemmas.{held_outside, fewer_alike}
use Rattle.heap_difference.proofs.LayerLemmas.{layers_hold, both_false}

-- ---- objects with fewer Arcs
-- an object with a shift that isn't one of them has no fewer Arcs in the new state
no_fewer : (shifts : List Shift) (old new : State) (o : ℕ) (p : ℕ → Bool) → AllByRecursion (λ s. p s.object ≡ false → s.old_strong ≤ s.new_strong) shifts → AreShifts shifts old new
    → is_alike shifts o ≡ true → p o ≡ false → strong old [] o ≤ strong new [] o
no_fewer [] old new o p others are here out = absurd cc
no_fewer (s ∷ shifts) old new o p others are here out = at (s.object == o) refl here (λ rest. no_fewer shifts old new o p others.1 are.1 rest out)
  where
    at : (b : Bool) → (s.object == o) ≡ b → (b || is_alike shifts o) ≡ true → (is_alike shifts o ≡ true → strong old [] o ≤ strong new [] o) → strong old [] o ≤ strong new [] o
    at true e there rest =
        subst (λ q. strong old [] q ≤ strong new [] q) (same_number s.object o e)
        (let most : s.old_strong ≤ s.new_strong = others.0 (ap p (same_number s.object o e) ∙ out) in let moved = are.0.strongs in omega (arith, most, moved))
    at false e there rest = rest there

-- ---- outcomes that are told
-- what an outcome tells is among the keys
abbrev pub AreToldOf : KeySet → List Outcome → Type 0
AreToldOf keys outcomes = AllByRecursion (λ x. (c : Counts) → x.counts ≡ Some c → is_among keys (Object c.object) ≡ true) outcomes

module _ (l : LayerView) (keys : KeySet) (old new : State) (ops : List Operation) (laid : IsLaidBy l old new) (apart : IsFirmlyApart l keys ops) (counts : AreShifts l.shifts old new) where
  -- an object that is told and has no shift has the same counts in both
  same_counts : (o : ℕ) → is_among keys (Object o) ≡ true → is_alike l.shifts o ≡ false → (b : Bool) → has o l.keys.objects ≡ b → (strong old [] o ≡ strong new [] o) × (weak old [] o ≡ weak new [] o)
  same_counts o here out true e = absurd (clash (is_alike l.shifts o) (apart.firm (Object o) here e) out)
  same_counts o here out false e = let isnt = not_false (has o l.keys.objects) e in (laid.is.difference.strongs o isnt, laid.is.difference.weaks o isnt)

  pub told_shifted : (outcomes : List Outcome) → AreToldOf keys outcomes → AllByRecursion (TellsSmall l.shifts) outcomes → map (shifted_outcome l.shifts) outcomes ≡ map (recounted old new) outcomes
  told_shifted [] told small = refl
  told_shifted (x ∷ outcomes) told small =
      let one : shifted_outcome l.shifts x ≡ recounted old new x =
      shifted_is l.shifts old new x counts laid.layer.small small.0 (λ c is out. same_counts c.object (told.0 c is) out (has c.object l.keys.objects) refl) in
      let rest = told_shifted outcomes told.1 small.1 in
      λ i. one i ∷ rest i

-- none of the objects that have fewer Arcs is among the keys
abbrev pub IsClearOf : Holders → KeySet → Type 0
IsClearOf h keys = (o : ℕ) → has o h.objects.objects ≡ true → is_among keys (Object o) ≡ false

-- ---- operations that are passed
module _ (l : LayerView) (before after : Holders) (keys sets : KeySet) (t : Key → Bool) (old new : State) (ops : List Operation) (outcomes : List Outcome) (way : IsOnWay l t before old new)
    (touched : HasTouched keys old ops) (set : AreWithin (is_among sets) (sets_from old ops)) (apart : IsFirmlyApart l keys ops) (reads : AreBlindFrom (is_alike l.shifts) (is_loose l.fields) old ops) (is : outcomes ≡ outcomes_from old ops)
    (told : AreToldOf keys outcomes) (small : AllByRecursion (TellsSmall l.shifts) outcomes) (passed : ((IsClearOf before keys) × (after ≡ before)) ⊎ AreCountedOff t sets l.from before after) (follow : MayFollow old new ops) where
  -- each object that is touched is held on
  alive : AreKeptAlive (is_among keys) (is_among sets) (is_alike l.shifts) old new
  alive o here touches = at (has o before.objects.objects) refl
    where
      held_on : has o before.objects.objects ≡ true → AreCountedOff t sets l.from before after → IsHeldOutside (is_among sets) new o
      held_on there off =
          let found : IsHeldOutside (λ x. t x || is_among sets x) l.from o =
          held_outside (λ x. t x || is_among sets x) l.from after o off.counted off.left (ap (has o) off.items ∙ sym (way.lessened.items o) ∙ there) in
          record {
            place = found.place;
            outside = right_false (t found.place) (is_among sets found.place) found.outside;
            holds = subst (λ n. 0 < n) (sym (way.held o there found.place (left_false (t found.place) (is_among sets found.place) found.outside))) found.holds;
          }

      at : (b : Bool) → has o before.objects.objects ≡ b → (strong old [] o ≤ strong new [] o) ⊎ IsHeldOutside (is_among sets) new o
      at true e =
          ⊎_elim
          (λ (none : IsClearOf before keys × (after ≡ before)). absurd (clash (is_among keys (Object o)) touches (none.0 o e)))
          (λ (off : AreCountedOff t sets l.from before after). inr (held_on e off))
          passed
      at false e = inl (no_fewer l.shifts old new o (λ q. has q before.objects.objects) way.lessened.others way.counts here e)

  goes : IsPassedUnder l keys sets old new ops
  goes = layers_hold.on l keys sets old new ops way.laid (record { touched = touched; set = set; firm = apart.firm; unders = apart.unders; blind = reads; alive = alive })
      follow.sound follow.distinct follow.unused follow.new_unused

  -- an object that isn't touched keeps its places
  kept_place : (o : ℕ) → is_among keys (Object o) ≡ false → (x : Key) → weight_of_key (names_alike (Strong o)) (end_from new ops) x ≡ weight_of_key (names_alike (Strong o)) new x
  kept_place o out x =
      places (is_among keys) new ops way.laid.is.sound follow.distinct follow.new_unused
      (subst (AreWithin (is_among keys)) ((λ i. goes.footprints i ++ goes.moved i)) touched) o out x

  on_way : IsUnderWay l after (end_from old ops) (end_from new ops)
  on_way =
      ⊎_elim
      (λ (none : IsClearOf before keys × (after ≡ before)). record {
        set = t;
        is = subst (λ (h : Holders). IsOnWay l t h (end_from old ops) (end_from new ops)) (sym none.1) (record {
          laid = goes.laid;
          counts = goes.counts way.counts;
          lessened = way.lessened;
          counted = way.counted;
          held = λ o here x out. kept_place o (none.0 o here) x ∙ way.held o here x out;
        });
      })
      (λ (off : AreCountedOff t sets l.from before after). record {
        set = λ x. t x || is_among sets x;
        is = record {
          laid = goes.laid;
          counts = goes.counts way.counts;
          lessened = record {
            others = subst (λ (d : KeySet). AllByRecursion (λ s. has s.object d.objects ≡ false → s.old_strong ≤ s.new_strong) l.shifts) (sym off.objects) way.lessened.others;
            items = λ o. ap (λ (d : KeySet). has o d.objects) off.objects ∙ way.lessened.items o ∙ ap (has o) (sym off.items);
            inside = λ o here. way.lessened.inside o (sym (ap (λ (d : KeySet). has o d.objects) off.objects) ∙ here);
          };
          counted = off.counted;
          held = λ o here x out.
              goes.still (names_alike (Strong o)) x (right_false (t x) (is_among sets x) out)
              ∙ way.held o (sym (ap (λ (d : KeySet). has o d.objects) off.objects) ∙ here) x (left_false (t x) (is_among sets x) out);
        };
      })
      passed

  pub passes_on : ArePassed l after (map (shifted_outcome l.shifts) outcomes) old new ops
  passes_on = record {
    outcomes = told_shifted l keys old new ops way.laid apart way.counts outcomes told small ∙ ap (map (recounted old new)) is ∙ sym goes.outcomes;
    way = on_way;
    footprints = goes.footprints;
    moved = goes.moved;
    same = record {
      within = within_more (is_among keys) (beside_firm l.keys l.shifts) (footprints_from old ops ++ moved_from old ops) (λ x here. beside x here (is_among l.keys x) refl) touched;
      blind = reads;
    };
    differs = goes.differs;
  }
    where
      beside : (x : Key) → is_among keys x ≡ true → (b : Bool) → is_among l.keys x ≡ b → (is_object_of (is_alike l.shifts) x || not b) ≡ true
      beside x here true e = ap (λ c. c || false) (apart.firm x here e)
      beside x here false e = any (is_object_of (is_alike l.shifts) x)
        where
          any : (c : Bool) → (c || true) ≡ true
          any true = refl
          any false = refl

-- ---- what the keys of operations tell
-- what is touched and not firm is one of the objects
pub firmly_apart : (keys firm names : KeySet) (shifts : List Shift) → ((x : Key) → is_among firm x ≡ (is_among keys x && not (is_object_of (is_alike shifts) x))) → meet firm names ≡ false
    → (x : Key) → is_among names x ≡ true → is_among keys x ≡ true → is_object_of (is_alike shifts) x ≡ true
firmly_apart keys firm names shifts same none x here there = at (is_object_of (is_alike shifts) x) refl
  where
    at : (b : Bool) → is_object_of (is_alike shifts) x ≡ b → is_object_of (is_alike shifts) x ≡ true
    at true e = e
    at false e = absurd (clash (is_among firm x) (same x ∙ (λ i. there i && not (e i))) (is_false (is_among firm x) (meet_none firm names none x here)))

-- none of the keys is one where each is none
none_of : (p : Key → Bool) (names : List Key) → AreWithin (λ x. not (p x)) names → list_any p names ≡ false
none_of p [] c = refl
none_of p (x ∷ names) c = both_false (p x) (list_any p names) (is_false (p x) c.0) (none_of p names c.1)

-- where all that is touched and among the keys is one of the objects, no firm key is touched
pub none_firm : (keys firm : KeySet) (names : List Key) (shifts : List Shift) → ((x : Key) → is_among firm x ≡ (is_among keys x && not (is_object_of (is_alike shifts) x)))
    → ((x : Key) → is_among (set_of names) x ≡ true → is_among keys x ≡ true → is_object_of (is_alike shifts) x ≡ true) → meet firm (set_of names) ≡ false
none_firm keys firm names shifts same apart =
    sym (meet_listed firm names)
    ∙ none_of (is_among firm) names (within_more (is_among (set_of names)) (λ x. not (is_among firm x)) names (λ x here. at x here (is_among keys x) refl) (Has-set_of names).all)
  where
    at : (x : Key) → is_among (set_of names) x ≡ true → (b : Bool) → is_among keys x ≡ b → not (is_among firm x) ≡ true
    at x here true e = ap not (same x ∙ (λ i. e i && not (apart x here e i)))
    at x here false e = ap not (same x ∙ ap (λ b. b && not (is_object_of (is_alike shifts) x)) e)

module _ (told : List Key) (ops : List Operation) (outcomes : List Outcome) where
  abbrev all_named : List Key
  all_named = with_names told ops outcomes

  -- what is added where a scope ends
  abbrev ended : List Key
  ended = if end_scopes ops then all_named else []

  abbrev may_set : Key → Bool
  may_set = is_among (set_of (with_sets told ops outcomes))

  -- where one does, all that operations name may be set
  named_too : end_scopes ops ≡ true → (x : Key) → is_among (set_of all_named) x ≡ true → may_set x ≡ true
  named_too ends x here =
      among_append (set_names_of ops outcomes) ended x
      ∙ or_right (is_among (set_of (set_names_of ops outcomes)) x) (is_among (set_of ended) x) (ap (λ b. is_among (set_of (if b then all_named else [])) x) ends ∙ here)

  -- what operations set is among the keys that they may set
  pub sets_within : (old : State) → HasTouched (set_of all_named) old ops → outcomes ≡ outcomes_from old ops → AreWithin may_set (sets_from old ops)
  sets_within old touched is =
      sets may_set old ops (subst (λ (xs : List Outcome). AreWithin may_set (set_names_of ops xs)) is (within_front may_set (set_names_of ops outcomes) ended (Has-set_of (with_sets told ops outcomes)).all))
      (λ ends. within_more (is_among (set_of all_named)) may_set (footprints_from old ops) (named_too ends) (within_front (is_among (set_of all_named)) (footprints_from old ops) (moved_from old ops) touched))

-- the counts that outcomes tell are of objects that they name
within_map : (k : Key → Bool) (os : List ℕ) (c : Option Counts) (x : Counts) → c ≡ Some x → AreWithin k (map Object (os ++ counted c)) → k (Object x.object) ≡ true
within_map k [] c x is all = (subst (λ (o : Option Counts). AreWithin k (map Object (counted o))) is all).0
within_map k (o ∷ os) c x is all = within_map k os c x is all.1

told_in : (keys : KeySet) (outcomes : List Outcome) → AreWithin (is_among keys) (flat_map outcome_keys outcomes) → AreToldOf keys outcomes
told_in keys [] all = tt
told_in keys (x ∷ outcomes) all = (
  λ c is. within_map (is_among keys) (map event_object x.events) x.counts c is (within_front (is_among keys) (outcome_keys x) (flat_map outcome_keys outcomes) all),
  told_in keys outcomes (within_back (is_among keys) (outcome_keys x) (flat_map outcome_keys outcomes) all),
)

pub told_named : (told : List Key) (ops : List Operation) (outcomes : List Outcome) → AreToldOf (set_of (with_names told ops outcomes)) outcomes
told_named told ops outcomes =
    let names : List Key = with_names told ops outcomes in
    told_in (set_of names) outcomes
    (within_back (is_among (set_of names)) (flat_map op_keys ops) (flat_map outcome_keys outcomes)
    (within_back (is_among (set_of names)) told (flat_map op_keys ops ++ flat_map outcome_keys outcomes) (Has-set_of names).all))

-- outcomes that tell of none of the objects stay as they are
unshifted : (shifts : List Shift) (outcomes : List Outcome) → AllByRecursion (λ x. (c : Counts) → x.counts ≡ Some c → is_alike shifts c.object ≡ false) outcomes → outcomes ≡ map (shifted_outcome shifts) outcomes
unshifted shifts [] none = refl
unshifted shifts (x ∷ outcomes) none = λ i. record x { counts = counts_stay x.counts none.0 i } ∷ unshifted shifts outcomes none.1 i
  where
    counts_stay : (o : Option Counts) → ((c : Counts) → o ≡ Some c → is_alike shifts c.object ≡ false) → o ≡ shifted_in shifts o
    counts_stay None out = refl
    counts_stay (Some c) out = ap (λ y. Some y) (sym (ap (λ s. shifted_by s c) (no_shift shifts c.object (out c refl))))

-- operations that touch none of the layer's keys are passed
pub passed_apart : (l : LayerView) (h : Holders) (keys sets : KeySet) (old new : State) (ops : List Operation) (outcomes : List Outcome) → IsUnderWay l h old new → HasTouched keys old ops
    → AreWithin (is_among sets) (sets_from old ops)
    → ((x : Key) → is_among keys x ≡ true → is_among l.keys x ≡ false) → DoUndersStay keys ops l.puts → outcomes ≡ outcomes_from old ops → AreToldOf keys outcomes → MayFollow old new ops → ArePassed l h outcomes old new ops
passed_apart l h keys sets old new ops outcomes way touched set none unders is told follow =
    subst (λ (xs : List Outcome). ArePassed l h xs old new ops) (sym (unshifted l.shifts outcomes (tell_others outcomes told)))
    (passes_on l h h keys sets way.set old new ops outcomes way.is touched set
    (record { firm = λ x here there. absurd (clash (is_among l.keys x) there (none x here)); unders = unders })
    (blind.apart (is_alike l.shifts) (is_loose l.fields) old ops
    (within_more (is_among keys) (λ x. not (is_object_of (is_alike l.shifts) x)) (footprints_from old ops) other_keys (within_front (is_among keys) (footprints_from old ops) (moved_from old ops) touched)))
    is told (tell_none outcomes told) (inl (λ o here. untouched o here (is_among keys (Object o)) refl, refl)) follow)
  where
    not_alike : (o : ℕ) → is_among keys (Object o) ≡ true → (b : Bool) → is_alike l.shifts o ≡ b → b ≡ false
    not_alike o here true e = absurd (clash (is_among l.keys (Object o)) (way.is.laid.layer.alike o e) (none (Object o) here))
    not_alike o here false e = refl

    other_keys : (x : Key) → is_among keys x ≡ true → not (is_object_of (is_alike l.shifts) x) ≡ true
    other_keys (Handle q) here = refl
    other_keys (Cell q) here = refl
    other_keys (Object q) here = not_false (is_alike l.shifts q) (not_alike q here (is_alike l.shifts q) refl)
    other_keys (Scope q) here = refl

    tell_others : (xs : List Outcome) → AreToldOf keys xs → AllByRecursion (λ x. (c : Counts) → x.counts ≡ Some c → is_alike l.shifts c.object ≡ false) xs
    tell_others [] all = tt
    tell_others (x ∷ xs) all = (λ c eq. not_alike c.object (all.0 c eq) (is_alike l.shifts c.object) refl, tell_others xs all.1)

    tell_none : (xs : List Outcome) → AreToldOf keys xs → AllByRecursion (TellsSmall l.shifts) xs
    tell_none [] all = tt
    tell_none (x ∷ xs) all = (λ c eq alike. absurd (clash (is_alike l.shifts c.object) alike (not_alike c.object (all.0 c eq) (is_alike l.shifts c.object) refl)), tell_none xs all.1)

    untouched : (o : ℕ) → has o h.objects.objects ≡ true → (b : Bool) → is_among keys (Object o) ≡ b → b ≡ false
    untouched o here true e = absurd (clash (is_alike l.shifts o) (fewer_alike l.shifts o (way.is.lessened.inside o here)) (not_alike o e (is_alike l.shifts o) refl))
    untouched o here false e = refl

-- operations that are blind are passed
pub passed_blind : (l : LayerView) (before after : Holders) (keys sets : KeySet) (old new : State) (ops : List Operation) (outcomes others : List Outcome) → IsUnderWay l before old new → HasTouched keys old ops
    → AreWithin (is_among sets) (sets_from old ops)
    → IsFirmlyApart l keys ops → are_blind l.shifts l.fields ops outcomes ≡ true → outcomes ≡ outcomes_from old ops → AreToldOf keys outcomes → ((t : Key → Bool) → IsCountedIn t l.from before → WerePassed t keys sets l.from before after)
    → others ≡ map (shifted_outcome l.shifts) outcomes → MayFollow old new ops → ArePassed l after others old new ops
passed_blind l before after keys sets old new ops outcomes others way touched set apart reads is told passed told_is follow =
    subst (λ (xs : List Outcome). ArePassed l after xs old new ops) (sym told_is)
    (passes_on l before after keys sets way.set old new ops outcomes way.is touched set apart
    (blind.listed (is_alike l.shifts) (is_loose l.fields) old ops (subst (AreBlind (is_alike l.shifts) (is_loose l.fields) ops) is (are_blind_is l.shifts l.fields ops outcomes reads)))
    is told (tell_small l.shifts l.fields ops outcomes (sym (appends.lengths old ops) ∙ ap length (sym is)) reads)
    (⊎_elim
    (λ (none : (meet before.objects keys ≡ false) × (after ≡ before)). inl (λ o here. untouched o here none.0 (is_among keys (Object o)) refl, none.1))
    (λ (off : AreCountedOff way.set sets l.from before after). inr off) (passed way.set way.is.counted)) follow)
  where
    untouched : (o : ℕ) → has o before.objects.objects ≡ true → meet before.objects keys ≡ false → (b : Bool) → is_among keys (Object o) ≡ b → b ≡ false
    untouched o here none true e = absurd (clash (has o before.objects.objects) here (is_false (has o before.objects.objects) (meet_none before.objects keys none (Object o) e)))
    untouched o here none false e = refl

-- where a layer is made a replay is on its way
pub starts_way : (l : LayerView) (h : Holders) (old : State) → IsLaidBy l old l.from → AreShifts l.shifts old l.from → AreOfLessened l.shifts h → IsCountedIn (λ x. false) l.from h → IsUnderWay l h old l.from
starts_way l h old laid counts lessened counted_in = record { set = λ x. false; is = record { laid = laid; counts = counts; lessened = lessened; counted = counted_in; held = λ o here x out. refl } }

-- keys that two sets don't share are in one alone
pub apart_keys : (keys names : KeySet) → meet keys names ≡ false → (x : Key) → is_among names x ≡ true → is_among keys x ≡ false
apart_keys keys names none x here = is_false (is_among keys x) (meet_none keys names none x here)

-- where no object has a shift, all keys are firm
pub none_alike : (l : LayerView) (names : KeySet) → l.shifts ≡ [] → ((x : Key) → is_among names x ≡ true → is_among l.keys x ≡ true → is_object_of (is_alike l.shifts) x ≡ true)
    → (x : Key) → is_among names x ≡ true → is_among l.keys x ≡ false
none_alike l names empty firm x here = at (is_among l.keys x) refl
  where
    no_object : (y : Key) → is_object_of (is_alike []) y ≡ false
    no_object (Handle q) = refl
    no_object (Cell q) = refl
    no_object (Object q) = refl
    no_object (Scope q) = refl

    at : (b : Bool) → is_among l.keys x ≡ b → is_among l.keys x ≡ false
    at true e = absurd (clash (is_object_of (is_alike l.shifts) x) (firm x here e) (ap (λ (s : List Shift). is_object_of (is_alike s) x) empty ∙ no_object x))
    at false e = e
