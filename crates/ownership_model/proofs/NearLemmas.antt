-- Two states that are alike but for some objects, which are alive in both: how they stay so where both are set alike.
use Rattle.std.proofs.Common.{◌≡◌, ℕ, suc, zero, ◌+◌, List, [], ◌∷◌, refl, ap, ◌∙◌, sym, subst, arith, Bool, true, false}
use Rattle.std.specs.Prelude.{Option, Some, None, ◌==◌, ◌||◌, ◌⊎◌, if◌then◌else◌, slice_get, slice_set}
use Rattle.std.specs.FinMap.{get, insert, remove}
use mathlib.Core.Logic.{⊎_elim, inl, inr}
use Rattle.trace_types.specs.declared.slots.Slot.{Slot}
use Rattle.trace_types.specs.declared.slots.Slot.TheVariants.{Strong}
use Rattle.trace_types.specs.declared.slots.Entry.{Entry}
use Rattle.trace_types.specs.declared.slots.Entry.TheVariants.{Alive, Husk}
use Rattle.ownership_model.specs.State.{State, entry_weight, slots_weight, names_alike, is_alive}
use Rattle.ownership_model.specs.Changes.{with_field}
use Rattle.ownership_model.specs.Table.{fields_of}
use Rattle.ownership_model.specs.declared.key.Key.{Key}
use Rattle.ownership_model.specs.declared.key.Key.TheVariants.{Handle, Cell, Object, Scope}
use Rattle.ownership_model.specs.Alike.{AreAlike, WeightsMoveAlike, ScopesMoveAlike}
use Rattle.ownership_model.specs.Near.{is_object_of, AreFieldsNear, AreEntriesNear, weight_of_key, AreKeptAlive}
use Rattle.ownership_model.proofs.TotalLemmas.{weight_at, total-insert}
use Rattle.ownership_model.proofs.CountLemmas.{get_set_other, get_cut_other, same_number}
use Rattle.ownership_model.proofs.MapLemmas.{get_inserted}
use Rattle.ownership_model.proofs.AlikeLemmas.{HaveAlike, have_put, have_cut, alike_after, move_none, move_then, move_put, move_cut}
use Rattle.ownership_model.proofs.OutsideLemmas.{apart}
use Rattle.ownership_model.proofs.ScopeMoves.{scope_none, scope_then}

-- ---- fields that are the same but for the loose ones
-- a field may be set to the same in both
set_near : (loose : ℕ → Bool) (fs gs : List Slot) (i : ℕ) (s : Slot) → AreFieldsNear loose fs gs → AreFieldsNear loose (slice_set fs i s) (slice_set gs i s)
set_near loose [] [] i s c = tt
set_near loose [] (g ∷ gs) i s c = absurd c
set_near loose (f ∷ fs) [] i s c = absurd c
set_near loose (f ∷ fs) (g ∷ gs) zero s c = (λ d. refl, c.1)
set_near loose (f ∷ fs) (g ∷ gs) (suc i) s c = (c.0, set_near (λ j. loose (suc j)) fs gs i s c.1)

-- a field that is not loose is the same in both
pub get_near : (loose : ℕ → Bool) (fs gs : List Slot) (i : ℕ) → AreFieldsNear loose fs gs → loose i ≡ false → slice_get fs i ≡ slice_get gs i
get_near loose [] [] i c d = refl
get_near loose [] (g ∷ gs) i c d = absurd c
get_near loose (f ∷ fs) [] i c d = absurd c
get_near loose (f ∷ fs) (g ∷ gs) zero c d = ap Some (c.0 d)
get_near loose (f ∷ fs) (g ∷ gs) (suc i) c d = get_near (λ j. loose (suc j)) fs gs i c.1 d

-- where it is set, both weigh as much more
set_moves : (w : Slot → ℕ) (loose : ℕ → Bool) (fs gs : List Slot) (i : ℕ) (s : Slot) → AreFieldsNear loose fs gs → loose i ≡ false
    → slots_weight w (slice_set fs i s) + slots_weight w gs ≡ slots_weight w (slice_set gs i s) + slots_weight w fs
set_moves w loose [] [] i s c d = refl
set_moves w loose [] (g ∷ gs) i s c d = absurd c
set_moves w loose (f ∷ fs) [] i s c d = absurd c
set_moves w loose (f ∷ fs) (g ∷ gs) zero s c d = let same : w f ≡ w g = ap w (c.0 d) in omega (arith, same)
set_moves w loose (f ∷ fs) (g ∷ gs) (suc i) s c d = omega (arith, set_moves w (λ j. loose (suc j)) fs gs i s c.1 d)

-- other fields than the one that is set hold what they held
set_other : (fs : List Slot) (i j : ℕ) (s : Slot) → (i ≡ j → ⊥) → slice_get (slice_set fs i s) j ≡ slice_get fs j
set_other [] i j s c = refl
set_other (f ∷ fs) zero zero s c = absurd (c refl)
set_other (f ∷ fs) zero (suc j) s c = refl
set_other (f ∷ fs) (suc i) zero s c = refl
set_other (f ∷ fs) (suc i) (suc j) s c = set_other fs i j s (λ e. c (ap suc e))

-- ---- entries with such fields
module _ (loose : ℕ → Bool) where
  -- both are alive
  pub alive_near : (e f : Option Entry) → AreEntriesNear loose e f → is_alive e ≡ is_alive f
  alive_near (Some (Alive fs)) (Some (Alive gs)) c = refl
  alive_near (Some (Alive fs)) (Some Husk) c = absurd c
  alive_near (Some (Alive fs)) None c = absurd c
  alive_near (Some Husk) f c = absurd c
  alive_near None f c = absurd c

  -- a field may be set to the same in both
  field_near : (e f : Option Entry) (i : ℕ) (s : Slot) → AreEntriesNear loose e f → AreEntriesNear loose (Some (with_field e i s)) (Some (with_field f i s))
  field_near (Some (Alive fs)) (Some (Alive gs)) i s c = set_near loose fs gs i s c
  field_near (Some (Alive fs)) (Some Husk) i s c = absurd c
  field_near (Some (Alive fs)) None i s c = absurd c
  field_near (Some Husk) f i s c = absurd c
  field_near None f i s c = absurd c

  -- where it is not loose, both weigh as much more
  field_moves : (w : Slot → ℕ) (e f : Option Entry) (i : ℕ) (s : Slot) → AreEntriesNear loose e f → loose i ≡ false
      → entry_weight w (with_field e i s) + weight_at (entry_weight w) f ≡ entry_weight w (with_field f i s) + weight_at (entry_weight w) e
  field_moves w (Some (Alive fs)) (Some (Alive gs)) i s c d = set_moves w loose fs gs i s c d
  field_moves w (Some (Alive fs)) (Some Husk) i s c d = absurd c
  field_moves w (Some (Alive fs)) None i s c d = absurd c
  field_moves w (Some Husk) f i s c d = absurd c
  field_moves w None f i s c d = absurd c

  -- and held the same
  pub field_same : (e f : Option Entry) (i : ℕ) → AreEntriesNear loose e f → loose i ≡ false → slice_get (fields_of e) i ≡ slice_get (fields_of f) i
  field_same (Some (Alive fs)) (Some (Alive gs)) i c d = get_near loose fs gs i c d
  field_same (Some (Alive fs)) (Some Husk) i c d = absurd c
  field_same (Some (Alive fs)) None i c d = absurd c
  field_same (Some Husk) f i c d = absurd c
  field_same None f i c d = absurd c

-- other fields than the one that is set hold what they held
field_other : (e : Option Entry) (i j : ℕ) (s : Slot) → (i ≡ j → ⊥) → slice_get (fields_of (Some (with_field e i s))) j ≡ slice_get (fields_of e) j
field_other (Some (Alive fs)) i j s c = set_other fs i j s c
field_other (Some Husk) i j s c = refl
field_other None i j s c = refl

-- ---- what the law is about
-- the keys that are alike, those that are touched and those that are set, the objects that are alike but for their loose fields, and which
-- fields are loose
pub record Frame : Type 0 where
  pub k : Key → Bool
  pub touched : Key → Bool
  pub set : Key → Bool
  pub a : ℕ → Bool
  pub loose : ℕ → ℕ → Bool
  pub apart : (o : ℕ) → a o ≡ true → k (Object o) ≡ false
  pub within : (x : Key) → touched x ≡ true → (k x || is_object_of a x) ≡ true

module _ (r : Frame) where
  -- each of these objects is alive in both
  abbrev pub AllNear : State → State → Type 0
  AllNear m n = (o : ℕ) → r.a o ≡ true → AreEntriesNear (r.loose o) (get m.objects o) (get n.objects o)

  -- each place that is not set weighs what it weighed
  abbrev pub IsStill : State → State → Type 0
  IsStill n later = (w : Slot → ℕ) (x : Key) → r.set x ≡ false → weight_of_key w later x ≡ weight_of_key w n x

  -- each loose field holds what it held
  abbrev pub AreLooseKept : State → State → Type 0
  AreLooseKept n later = (o i : ℕ) → r.a o ≡ true → r.loose o i ≡ true → slice_get (fields_of (get later.objects o)) i ≡ slice_get (fields_of (get n.objects o)) i

  -- the states are near, and these objects stay alive in the second
  pub record Fit (m n : State) : Type 0 where
    pub alike : AreAlike r.k m n
    pub near : AllNear m n
    pub alive : AreKeptAlive r.touched r.set r.a m n

  -- both states have gone on alike, and are near, but for the counts
  pub record Goes (m later_m n later_n : State) : Type 0 where
    pub have : HaveAlike r.k later_m later_n
    pub near : AllNear later_m later_n
    pub moves : WeightsMoveAlike m later_m n later_n
    pub scopes : ScopesMoveAlike r.touched m.scopes later_m.scopes n.scopes later_n.scopes
    pub still : IsStill n later_n
    pub kept : AreLooseKept n later_n

  -- what fits has what stands there near
  pub fit_after : (m later_m n later_n : State) → Fit m n → Goes m later_m n later_n → Fit later_m later_n
  fit_after m later_m n later_n f g = record {
    alike = alike_after r.k m later_m n later_n f.alike g.have g.moves;
    near = g.near;
    alive = λ o c t. ⊎_elim (λ le. inl (omega (arith, le, g.moves (names_alike (Strong o)))))
        (λ h. inr (record { place = h.place; outside = h.outside; holds = omega (arith, h.holds, g.still (names_alike (Strong o)) h.place h.outside) })) (f.alive o c t);
  }

  -- neither has changed
  pub goes_none : (m n : State) → HaveAlike r.k m n → AllNear m n → Goes m m n n
  goes_none m n h near = record {
    have = h;
    near = near;
    moves = move_none m n;
    scopes = scope_none r.touched m.scopes n.scopes;
    still = λ w x d. refl;
    kept = λ o i c l. refl;
  }

  -- two ways alike in turn are one
  pub goes_then : (a b c x y z : State) → Goes a b x y → Goes b c y z → Goes a c x z
  goes_then a b c x y z p q = record {
    have = q.have;
    near = q.near;
    moves = move_then a b c x y z p.moves q.moves;
    scopes = scope_then r.touched a.scopes b.scopes c.scopes x.scopes y.scopes z.scopes p.scopes q.scopes;
    still = λ w k d. q.still w k d ∙ p.still w k d;
    kept = λ o i l d. q.kept o i l d ∙ p.kept o i l d;
  }

  -- ---- an object is set, or goes
  -- an entry that is near stays so where another object is set
  pub near_other : (l : ℕ → Bool) (e later_e f later_f : Option Entry) → later_e ≡ e → later_f ≡ f → AreEntriesNear l e f → AreEntriesNear l later_e later_f
  near_other l e later_e f later_f p q c = subst (λ (x : Option Entry). AreEntriesNear l x later_f) (sym p) (subst (λ (x : Option Entry). AreEntriesNear l e x) (sym q) c)

  -- the places that are not set weigh what they weighed
  still_put : (n : State) (o : ℕ) (e : Entry) → r.set (Object o) ≡ true → IsStill n (record n { objects = insert n.objects o e })
  still_put n o e c w (Handle h) d = refl
  still_put n o e c w (Cell x) d = refl
  still_put n o e c w (Object q) d = ap (weight_at (entry_weight w)) (get_set_other n.objects o e q (apart (λ x. r.set (Object x)) o q c d))
  still_put n o e c w (Scope t) d = refl

  still_cut : (n : State) (o : ℕ) → r.set (Object o) ≡ true → IsStill n (record n { objects = remove n.objects o })
  still_cut n o c w (Handle h) d = refl
  still_cut n o c w (Cell x) d = refl
  still_cut n o c w (Object q) d = ap (weight_at (entry_weight w)) (get_cut_other n.objects o q (apart (λ x. r.set (Object x)) o q c d))
  still_cut n o c w (Scope t) d = refl

  -- an object that is alike is another one than those that are near
  pub near_apart : (o q : ℕ) → r.k (Object o) ≡ true → r.a q ≡ true → (o == q) ≡ false
  near_apart o q c d = apart (λ x. r.k (Object x)) o q c (r.apart q d)

  -- the same is set at an object that is alike
  pub goes_put : (m n : State) (o : ℕ) (e : Entry) → r.k (Object o) ≡ true → r.set (Object o) ≡ true → HaveAlike r.k m n → AllNear m n
      → Goes m (record m { objects = insert m.objects o e }) n (record n { objects = insert n.objects o e })
  goes_put m n o e c t h near = record {
    have = have_put r.k m n o e h;
    near = λ q d. near_other (r.loose q) (get m.objects q) _ (get n.objects q) _ (get_set_other m.objects o e q (near_apart o q c d)) (get_set_other n.objects o e q (near_apart o q c d)) (near q d);
    moves = move_put m n o e (h.entries o c);
    scopes = scope_none r.touched m.scopes n.scopes;
    still = still_put n o e t;
    kept = λ q i d l. ap (λ x. slice_get (fields_of x) i) (get_set_other n.objects o e q (near_apart o q c d));
  }

  -- an object that is alike goes from both
  pub goes_cut : (m n : State) (o : ℕ) → r.k (Object o) ≡ true → r.set (Object o) ≡ true → HaveAlike r.k m n → AllNear m n
      → Goes m (record m { objects = remove m.objects o }) n (record n { objects = remove n.objects o })
  goes_cut m n o c t h near = record {
    have = have_cut r.k m n o h;
    near = λ q d. near_other (r.loose q) (get m.objects q) _ (get n.objects q) _ (get_cut_other m.objects o q (near_apart o q c d)) (get_cut_other n.objects o q (near_apart o q c d)) (near q d);
    moves = move_cut m n o (h.entries o c);
    scopes = scope_none r.touched m.scopes n.scopes;
    still = still_cut n o t;
    kept = λ q i d l. ap (λ x. slice_get (fields_of x) i) (get_cut_other n.objects o q (near_apart o q c d));
  }

  -- an object that is alike is not one of those that are near
  not_near : (o q : ℕ) → r.a o ≡ true → r.k (Object q) ≡ true → (o == q) ≡ false
  not_near o q c d = elim (o == q) as (λ b. (o == q) ≡ b → (o == q) ≡ false) [
    | true ↦ λ e. let same : r.k (Object o) ≡ r.k (Object q) = ap (λ x. r.k (Object x)) (same_number o q e) in let out : r.k (Object o) ≡ false = r.apart o c in absurd cc
    | false ↦ λ e. e
  ] refl

  -- a field that is not loose is set, of an object that is near
  module _ (m n : State) (o i : ℕ) (s : Slot) (c : r.a o ≡ true) (firm : r.loose o i ≡ false) (t : r.set (Object o) ≡ true) (h : HaveAlike r.k m n) (near : AllNear m n) where
    abbrev one : Entry
    one = with_field (get m.objects o) i s

    abbrev two : Entry
    two = with_field (get n.objects o) i s

    set_at : (q : ℕ) (b : Bool) → (o == q) ≡ b → r.a q ≡ true → AreEntriesNear (r.loose q) (if b then Some one else get m.objects q) (if b then Some two else get n.objects q)
    set_at q true e d = subst (λ x. AreEntriesNear (r.loose x) (Some one) (Some two)) (same_number o q e) (field_near (r.loose o) (get m.objects o) (get n.objects o) i s (near o c))
    set_at q false e d = near q d

    kept_at : (q j : ℕ) (b : Bool) → (o == q) ≡ b → r.loose q j ≡ true → slice_get (fields_of (if b then Some two else get n.objects q)) j ≡ slice_get (fields_of (get n.objects q)) j
    kept_at q j true e l =
        let same : o ≡ q = same_number o q e in
        let here : r.loose o j ≡ true = subst (λ x. r.loose x j ≡ true) (sym same) l in
        subst (λ x. slice_get (fields_of (Some two)) j ≡ slice_get (fields_of (get n.objects x)) j) same
        (field_other (get n.objects o) i j s (λ f. let there : r.loose o i ≡ r.loose o j = ap (r.loose o) f in cc))
    kept_at q j false e l = refl

    pub goes_set : Goes m (record m { objects = insert m.objects o one }) n (record n { objects = insert n.objects o two })
    goes_set = record {
      have = record {
        handles = h.handles;
        cells = h.cells;
        entries = λ q d. get_set_other m.objects o one q (not_near o q c d) ∙ h.entries q d ∙ sym (get_set_other n.objects o two q (not_near o q c d));
        scopes = h.scopes;
        within_scopes = h.within_scopes;
      };
      near = λ q d. near_other (r.loose q) _ _ _ _ (get_inserted m.objects o one q) (get_inserted n.objects o two q) (set_at q (o == q) refl d);
      moves = λ w. omega (
        arith,
        field_moves (r.loose o) w (get m.objects o) (get n.objects o) i s (near o c) firm,
        total-insert (entry_weight w) m.objects o one,
        total-insert (entry_weight w) n.objects o two,
      );
      scopes = scope_none r.touched m.scopes n.scopes;
      still = still_put n o two t;
      kept = λ q j d l. ap (λ x. slice_get (fields_of x) j) (get_inserted n.objects o two q) ∙ kept_at q j (o == q) refl l;
    }

  -- ---- what is touched
  or_false : (b : Bool) → (b || false) ≡ true → b ≡ true
  or_false true c = refl
  or_false false c = c

  -- a handle that is touched is alike
  pub handle_within : (h : ℕ) → r.touched (Handle h) ≡ true → r.k (Handle h) ≡ true
  handle_within h c = or_false (r.k (Handle h)) (r.within (Handle h) c)

  -- so is a cell
  pub cell_within : (x : ℕ) → r.touched (Cell x) ≡ true → r.k (Cell x) ≡ true
  cell_within x c = or_false (r.k (Cell x)) (r.within (Cell x) c)

  -- so is a scope
  pub scope_within : (t : ℕ) → r.touched (Scope t) ≡ true → r.k (Scope t) ≡ true
  scope_within t c = or_false (r.k (Scope t)) (r.within (Scope t) c)

  -- an object that is touched is alike, or one of those that are near
  either_of : (b d : Bool) → (b || d) ≡ true → (b ≡ true) ⊎ (d ≡ true)
  either_of true d c = inl refl
  either_of false d c = inr c

  pub object_within : (o : ℕ) → r.touched (Object o) ≡ true → (r.k (Object o) ≡ true) ⊎ (r.a o ≡ true)
  object_within o c = either_of (r.k (Object o)) (r.a o) (r.within (Object o) c)
