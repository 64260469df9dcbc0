-- Two states that are alike but for some objects drop alike, as long as none of these objects falls.
use Rattle.std.proofs.Common.{◌≡◌, ℕ, suc, zero, ◌+◌, ◌<◌, ◌≤◌, List, [], ◌∷◌, ◌++◌, refl, ap, ◌∙◌, sym, subst, arith, Bool, true, false}
use Rattle.std.specs.Prelude.{Option, Some, None, ◌==◌, ◌&&◌, if◌then◌else◌, flat_map}
use Rattle.std.specs.List.{AllByRecursion}
use Rattle.std.specs.FinMap.{get}
use mathlib.Core.Logic.{⊎_elim}
use Rattle.std.proofs.lemmas.Bool.Decides.{nat_tests}
use Rattle.trace_types.specs.declared.slots.Slot.{Slot}
use Rattle.trace_types.specs.declared.slots.Slot.TheVariants.{Nothing, Strong, Weak, Dangling}
use Rattle.trace_types.specs.declared.slots.Entry.{Entry}
use Rattle.trace_types.specs.declared.slots.Entry.TheVariants.{Alive, Husk}
use Rattle.trace_types.specs.declared.slots.Item.{Item}
use Rattle.trace_types.specs.declared.slots.Item.TheVariants as item
use Rattle.trace_types.specs.declared.outcomes.Event.{Event}
use Rattle.ownership_model.specs.State.{State, strong, weak, ends, standing_weight, holding_weight, entry_weight, names_alike, IsSound, IsSoundAt, AreCountsSound}
use Rattle.ownership_model.specs.Release.{Dropped, Released, Fate, Stays, Falls, Goes, fate, fall, left_by, drop_first, release_within, release, work, is_husk}
use Rattle.ownership_model.specs.Touched.{event_object}
use Rattle.ownership_model.specs.declared.key.Key.{Key}
use Rattle.ownership_model.specs.declared.key.Key.TheVariants.{Handle, Cell, Object, Scope}
use Rattle.ownership_model.specs.Alike.{AreWithin}
use Rattle.ownership_model.specs.Near.{AreEntriesNear, weight_of_key}
use Rattle.ownership_model.specs.Footprint.{item_keys, taken_within, taken}
use Rattle.ownership_model.proofs.TotalLemmas.{total-remove}
use Rattle.ownership_model.proofs.ReleaseLemmas.{release-enough}
use Rattle.ownership_model.proofs.DropLemmas.{sound-drop_first}
use Rattle.ownership_model.proofs.AlikeLemmas.{within_front, within_back, have, IsOf, fate_of, same_fate, taken-enough}
use Rattle.ownership_model.proofs.OutsideLemmas.{AreEventsOf, events_of}
use Rattle.ownership_model.proofs.NearLemmas as near
use Rattle.ownership_model.proofs.NearLemmas.{Frame, Fit}

-- what holds of all elements of two lists together holds of all of each
pub all_front : {X : Type 0} (P : X → Type 0) (xs ys : List X) → AllByRecursion P (xs ++ ys) → AllByRecursion P xs
all_front P [] ys c = tt
all_front P (x ∷ xs) ys c = (c.0, all_front P xs ys c.1)

pub all_back : {X : Type 0} (P : X → Type 0) (xs ys : List X) → AllByRecursion P (xs ++ ys) → AllByRecursion P ys
all_back P [] ys c = c
all_back P (x ∷ xs) ys c = all_back P xs ys c.1

-- a place weighs no more than the whole state
weight_of_key-le : (w : Slot → ℕ) (m : State) (x : Key) → weight_of_key w m x ≤ standing_weight w m
weight_of_key-le w m (Handle h) = omega (arith, total-remove (holding_weight w) m.handles h)
weight_of_key-le w m (Cell c) = omega (arith, total-remove w m.cells c)
weight_of_key-le w m (Object o) = omega (arith, total-remove (entry_weight w) m.objects o)
weight_of_key-le w m (Scope t) = omega arith

module _ (r : Frame) where
  -- no event is of an object that is near
  abbrev pub AreSpared : List Event → Type 0
  AreSpared es = AllByRecursion (λ e. r.a (event_object e) ≡ false) es

  -- ---- one item
  -- an item brings about the same in both, of an object that is alike
  record SameFate (f g : Fate) : Type 0 where
    pub same : f ≡ g
    pub of : IsOf r.k f

  module _ (m n : State) (p : List Item) (f : Fit r m n) where
    -- the last Arc of an object that is near is not dropped in the first state
    not_last : (o : ℕ) (e d : Option Entry) (b : Bool) → r.a o ≡ true → AreEntriesNear (r.loose o) e d → AreSpared (left_by m p (if b then fall o e else Stays)).events → b ≡ false
    not_last o (Some (Alive fields)) d true c near spared = let fell : r.a o ≡ false = spared.0 in absurd cc
    not_last o (Some Husk) d true c near spared = absurd near
    not_last o None d true c near spared = absurd near
    not_last o e d false c near spared = refl

    some_left : (x : ℕ) → (x == 0) ≡ false → 0 < x
    some_left x c = grind (arith, nat_tests)

    none_not : (x : ℕ) → 0 < x → (x == 0) ≡ false
    none_not x c = grind (arith, nat_tests)

    -- nor in the second
    some_too : (o : ℕ) → r.a o ≡ true → r.touched (Object o) ≡ true → 0 < strong m p o → 0 < strong n p o
    some_too o c t some = ⊎_elim (λ le. omega (arith, le, some))
        (λ h. omega (arith, h.holds, weight_of_key-le (names_alike (Strong o)) n h.place)) (f.alive o c t)

    -- such an object is no husk
    not_husk : (l : ℕ → Bool) (e d : Option Entry) → AreEntriesNear l e d → (is_husk e ≡ false) × (is_husk d ≡ false)
    not_husk l (Some (Alive fs)) (Some (Alive gs)) c = (refl, refl)
    not_husk l (Some (Alive fs)) (Some Husk) c = absurd c
    not_husk l (Some (Alive fs)) None c = absurd c
    not_husk l (Some Husk) d c = absurd c
    not_husk l None d c = absurd c

    -- the end of an object that is near is not pending
    no_end : (l : ℕ → Bool) (s w e : ℕ) (x y : Option Entry) → AreEntriesNear l x y → IsSoundAt s w (1 + e) x → ⊥
    no_end l s w e (Some (Alive fs)) y c h = omega (arith, h.1)
    no_end l s w e (Some Husk) y c h = c
    no_end l s w e None y c h = c

    not_all : (a b c : Bool) → b ≡ false → (a && (b && c)) ≡ false
    not_all true b c e = ap (λ x. x && c) e
    not_all false b c e = refl

    -- an object that is alike has one fate; one that is near stays
    near_fate : (x : Item) → AreCountsSound m (x ∷ p) → AreWithin r.touched (item_keys x) → AreSpared (drop_first m x p).events → SameFate (fate m x p) (fate n x p)
    near_fate (item.Slot Nothing) h c spared = record { same = refl; of = tt }
    near_fate (item.Slot Dangling) h c spared = record { same = refl; of = tt }
    near_fate (item.Slot (Strong o)) h c spared = ⊎_elim
        (λ alike. record { same = same_fate r.k m n (item.Slot (Strong o)) p f.alike (alike, tt); of = fate_of r.k m (item.Slot (Strong o)) p (alike, tt) })
        (λ close.
        let one : (strong m p o == 0) ≡ false = not_last o (get m.objects o) (get n.objects o) (strong m p o == 0) close (f.near o close) spared in
        let two : (strong n p o == 0) ≡ false = none_not (strong n p o) (some_too o close c.0 (some_left (strong m p o) one)) in
        let here : fate m (item.Slot (Strong o)) p ≡ Stays = ap (λ b. if b then fall o (get m.objects o) else Stays) one in
        let there : fate n (item.Slot (Strong o)) p ≡ Stays = ap (λ b. if b then fall o (get n.objects o) else Stays) two in
        record { same = here ∙ sym there; of = subst (IsOf r.k) (sym here) tt })
        (near.object_within r o c.0)
    near_fate (item.Slot (Weak o)) h c spared = ⊎_elim
        (λ alike. record { same = same_fate r.k m n (item.Slot (Weak o)) p f.alike (alike, tt); of = fate_of r.k m (item.Slot (Weak o)) p (alike, tt) })
        (λ close.
        let live : (is_husk (get m.objects o) ≡ false) × (is_husk (get n.objects o) ≡ false) = not_husk (r.loose o) (get m.objects o) (get n.objects o) (f.near o close) in
        let here : fate m (item.Slot (Weak o)) p ≡ Stays = ap (λ b. if b then Goes o else Stays) (not_all (weak m p o == 0) (is_husk (get m.objects o)) (ends o p == 0) live.0) in
        let there : fate n (item.Slot (Weak o)) p ≡ Stays = ap (λ b. if b then Goes o else Stays) (not_all (weak n p o == 0) (is_husk (get n.objects o)) (ends o p == 0) live.1) in
        record { same = here ∙ sym there; of = subst (IsOf r.k) (sym here) tt })
        (near.object_within r o c.0)
    near_fate (item.End o) h c spared = ⊎_elim
        (λ alike. record { same = same_fate r.k m n (item.End o) p f.alike (alike, tt); of = fate_of r.k m (item.End o) p (alike, tt) })
        (λ close.
        let one : (o == o) ≡ true = grind (arith, nat_tests) in
        let here : IsSoundAt (strong m p o) (weak m p o) (1 + ends o p) (get m.objects o) =
        subst (λ (x : ℕ). IsSoundAt (strong m p o) (weak m p o) (x + ends o p) (get m.objects o)) (ap (λ b. if b then 1 else 0) one) (h o) in
        absurd (no_end (r.loose o) (strong m p o) (weak m p o) (ends o p) (get m.objects o) (get n.objects o) (f.near o close) here))
        (near.object_within r o c.0)

  -- both have dropped an item alike
  record Met (m n : State) (a b : Dropped) : Type 0 where
    pub goes : near.Goes r m a.state n b.state
    pub events : a.events ≡ b.events
    pub pending : a.pending ≡ b.pending

  -- what an item brings about is done to both alike
  meet : (m n : State) (p : List Item) (g : Fate) → IsOf r.k g → AreEventsOf r.set (left_by m p g).events → Fit r m n → Met m n (left_by m p g) (left_by n p g)
  meet m n p Stays c t f = record { goes = near.goes_none r m n (have r.k m n f.alike) f.near; events = refl; pending = refl }
  meet m n p (Falls o fields) c t f = record { goes = near.goes_put r m n o Husk c t.0 (have r.k m n f.alike) f.near; events = refl; pending = refl }
  meet m n p (Goes o) c t f = record { goes = near.goes_cut r m n o c t.0 (have r.k m n f.alike) f.near; events = refl; pending = refl }

  -- one item is dropped alike in both
  drop_near : (m n : State) (x : Item) (p : List Item) → IsSound m (x ∷ p) → AreWithin r.touched (item_keys x) → AreEventsOf r.set (drop_first m x p).events → AreSpared (drop_first m x p).events → Fit r m n
      → Met m n (drop_first m x p) (drop_first n x p)
  drop_near m n x p h c t spared f =
      let e : SameFate (fate m x p) (fate n x p) = near_fate m n p f x h.counts c spared in
      subst (λ (g : Fate). Met m n (drop_first m x p) (left_by n p g)) e.same (meet m n p (fate m x p) e.of t f)

  -- ---- a cascade
  -- both cascades have dropped the same, and leave what is near
  pub record SameEnd (m n : State) (a b : Released) (s t : List Item) : Type 0 where
    pub goes : near.Goes r m a.state n b.state
    pub events : a.events ≡ b.events
    pub taken : s ≡ t

  -- with any fuel
  within_near : (u : ℕ) (m n : State) (p : List Item) → IsSound m p → AreWithin r.touched (flat_map item_keys (taken_within u m p)) → AreEventsOf r.set (release_within u m p).events
      → AreSpared (release_within u m p).events → Fit r m n
      → SameEnd m n (release_within u m p) (release_within u n p) (taken_within u m p) (taken_within u n p)
  within_near u m n [] h c t spared f = record { goes = near.goes_none r m n (have r.k m n f.alike) f.near; events = refl; taken = refl }
  within_near zero m n (x ∷ p) h c t spared f = record { goes = near.goes_none r m n (have r.k m n f.alike) f.near; events = refl; taken = refl }
  within_near (suc u) m n (x ∷ p) h c t spared f =
      let d = drop_first m x p in
      let e = drop_first n x p in
      let set = events_of r.set d.events _ t in
      let first : AreSpared d.events = all_front (λ y. r.a (event_object y) ≡ false) d.events _ spared in
      let later : AreSpared (release_within u d.state d.pending).events = all_back (λ y. r.a (event_object y) ≡ false) d.events _ spared in
      let met : Met m n d e = drop_near m n x p h (within_front r.touched (item_keys x) _ c) set.0 first f in
      let next : Fit r d.state e.state = near.fit_after r m d.state n e.state f met.goes in
      let rest = within_near u d.state e.state d.pending (sound-drop_first m x p h) (within_back r.touched (item_keys x) _ c) set.1 later next in
      let q : SameEnd d.state e.state (release_within u d.state d.pending) (release_within u e.state e.pending) (taken_within u d.state d.pending) (taken_within u e.state e.pending) =
      subst (λ (q : List Item). SameEnd d.state e.state (release_within u d.state d.pending) (release_within u e.state q) (taken_within u d.state d.pending) (taken_within u e.state q)) met.pending rest in
      record {
        goes = near.goes_then r m d.state (release_within u d.state d.pending).state n e.state (release_within u e.state e.pending).state met.goes q.goes;
        events = λ i. met.events i ++ q.events i;
        taken = ap (λ xs. x ∷ xs) q.taken;
      }

  -- both release alike
  pub release_near : (m n : State) (p : List Item) → IsSound m p → AreWithin r.touched (flat_map item_keys (taken m p)) → AreEventsOf r.set (release m p).events → AreSpared (release m p).events → Fit r m n
      → SameEnd m n (release m p) (release n p) (taken m p) (taken n p)
  release_near m n p h c t spared f =
      let u : ℕ = work m p + work n p in
      let e : taken m p ≡ taken_within u m p = taken-enough u m p (omega arith) in
      let g : taken n p ≡ taken_within u n p = taken-enough u n p (omega arith) in
      let s : release m p ≡ release_within u m p = release-enough u m p (omega arith) in
      let q : release n p ≡ release_within u n p = release-enough u n p (omega arith) in
      let w = within_near u m n p h (subst (λ (xs : List Item). AreWithin r.touched (flat_map item_keys xs)) e c) (subst (λ (x : Released). AreEventsOf r.set x.events) s t) (subst (λ (x : Released). AreSpared x.events) s spared) f in
      subst (λ (x : Released). SameEnd m n x (release n p) (taken m p) (taken n p)) (sym s)
      (subst (λ (x : Released). SameEnd m n (release_within u m p) x (taken m p) (taken n p)) (sym q)
      (subst (λ (xs : List Item). SameEnd m n (release_within u m p) (release_within u n p) xs (taken n p)) (sym e)
      (subst (λ (xs : List Item). SameEnd m n (release_within u m p) (release_within u n p) (taken_within u m p) xs) (sym g) w)))
