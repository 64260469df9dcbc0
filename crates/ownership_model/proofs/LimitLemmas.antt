-- Changes, releases, steps and whole replays keep the limits of a state.
use Rattle.std.proofs.Common.{◌≡◌, ℕ, zero, suc, List, [], ◌∷◌, length, refl, ap, sym, subst, arith, true, false}
use Rattle.std.specs.Prelude.{Option, Some, None, IsTrue, ◌==◌, ◌≤◌, ◌&&◌, if◌then◌else◌, not, nat_le, slice_set}
use Rattle.std.proofs.lemmas.Bool.Decides.{nat_tests}
use Rattle.std.specs.Ordering.{nat_cmp}
use Rattle.std.specs.FinMap.{FinMap, get, insert, remove, get-empty}
use Rattle.trace_types.specs.declared.slots.Slot.{Slot}
use Rattle.trace_types.specs.declared.slots.Slot.TheVariants.{Nothing, Strong, Weak, Dangling}
use Rattle.trace_types.specs.declared.slots.Holding.{Holding}
use Rattle.trace_types.specs.declared.slots.Scoped.{Scoped}
use Rattle.trace_types.specs.declared.slots.Entry.{Entry}
use Rattle.trace_types.specs.declared.slots.Entry.TheVariants.{Alive, Husk}
use Rattle.trace_types.specs.declared.slots.Item.{Item}
use Rattle.trace_types.specs.declared.slots.Item.TheVariants as item
use Rattle.trace_types.specs.declared.slots.Change.{Change}
use Rattle.trace_types.specs.declared.slots.Change.TheVariants.{SetHandle, EndHandle, SetCell, EndCell, SetField, Make, TurnHusk}
use Rattle.trace_types.specs.declared.limits.TheConstants.{MAX_THREAD}
use Rattle.ownership_model.specs.Scopes.{entered, kept_or_entered, left}
use Rattle.ownership_model.specs.State.{State, nothing_held, strong, weak, ends, is_alive}
use Rattle.ownership_model.specs.Release.{Fate, Goes, fall, fate, left_by, drop_first, is_husk, release, release_within, work}
use Rattle.ownership_model.specs.Changes.{with_field, changed_by, changed, HasField, CanBeDone, CanChange}
use Rattle.ownership_model.specs.Bounds.{HandleFits, CellFits, ObjectFits, LabelsFit, IsBounded, ChangeFits, ChangesFit}
use Rattle.ownership_model.proofs.MapLemmas.{get_inserted, get_removed}
use Rattle.ownership_model.proofs.ReleaseLemmas.{either}

-- what is put in or taken out is what may stand there, and so is all else
put_fits : {X : Type 0} (P : ℕ → Option X → Type 0) (m : FinMap nat_cmp X) (k : ℕ) (x : X) → P k (Some x) → ((q : ℕ) → P q (get m q)) → (q : ℕ) → P q (get (insert m k x) q)
put_fits P m k x fits all q = subst (P q) (sym (get_inserted m k x q)) (elim (k == q) as (λ b. (k == q) ≡ b → P q (if b then Some x else get m q)) [
  | true ↦ λ t. let same : k ≡ q = grind (arith, nat_tests) in subst (λ j. P j (Some x)) same fits
  | false ↦ λ f. all q
] refl)

cut_fits : {X : Type 0} (P : ℕ → Option X → Type 0) (m : FinMap nat_cmp X) (k : ℕ) → ((q : ℕ) → P q None) → ((q : ℕ) → P q (get m q)) → (q : ℕ) → P q (get (remove m k) q)
cut_fits P m k absent all q = subst (P q) (sym (get_removed m k q)) (elim (k == q) as (λ b. P q (if b then None else get m q)) [
  | true ↦ absent q
  | false ↦ all q
])

pub length-slice_set : (fields : List Slot) (i : ℕ) (s : Slot) → length (slice_set fields i s) ≡ length fields
length-slice_set [] i s = refl
length-slice_set (f ∷ fields) zero s = refl
length-slice_set (f ∷ fields) (suc i) s = omega (arith, length-slice_set fields i s)

husk_fits : (o : ℕ) (it : Option Entry) → ObjectFits o it → IsTrue (is_alive it) → ObjectFits o (Some Husk)
husk_fits o None fits alive = absurd cc
husk_fits o (Some (Alive fields)) fits alive = (fits.0, tt)
husk_fits o (Some Husk) fits alive = absurd cc

field_fits : (o i : ℕ) (s : Slot) (it : Option Entry) → ObjectFits o it → HasField it i → ObjectFits o (Some (with_field it i s))
field_fits o i s None fits has = absurd has
field_fits o i s (Some (Alive fields)) fits has = (fits.0, omega (arith, fits.1, length-slice_set fields i s))
field_fits o i s (Some Husk) fits has = absurd has

-- a label that enters is within its limit, and those that stay are
labels_entered : (t h : ℕ) (ss : List Scoped) → t ≤ MAX_THREAD → LabelsFit ss → LabelsFit (entered t h ss)
labels_entered t h [] fits all = (fits, tt)
labels_entered t h (s ∷ ss) fits all =
    elim (nat_le t s.label) as (λ b. LabelsFit (if b then record { label = t; handle = h } ∷ s ∷ ss else s ∷ entered t h ss)) [
      | true ↦ (fits, all)
      | false ↦ (all.0, labels_entered t h ss fits all.1)
    ]

labels_kept : (it : Option Holding) (t h : ℕ) (ss : List Scoped) → t ≤ MAX_THREAD → LabelsFit ss → LabelsFit (kept_or_entered it t h ss)
labels_kept None t h ss fits all = labels_entered t h ss fits all
labels_kept (Some x) t h ss fits all = all

labels_left : (h : ℕ) (ss : List Scoped) → LabelsFit ss → LabelsFit (left h ss)
labels_left h [] all = tt
labels_left h (s ∷ ss) all =
    elim (s.handle == h) as (λ b. LabelsFit (if not b then s ∷ left h ss else left h ss)) [
      | true ↦ labels_left h ss all.1
      | false ↦ (all.0, labels_left h ss all.1)
    ]

-- the empty state is within the limits
pub nothing_bounded : IsBounded nothing_held
nothing_bounded = record {
  handles = λ h. subst (HandleFits h) (sym (get-empty nat_cmp h)) tt;
  cells = λ c. subst (CellFits c) (sym (get-empty nat_cmp c)) tt;
  objects = λ o. subst (ObjectFits o) (sym (get-empty nat_cmp o)) tt;
  labels = tt;
}

pub change_bounded : (m : State) (c : Change) → IsBounded m → ChangeFits c → CanBeDone m c → IsBounded (changed_by m c)
change_bounded m (SetHandle t h x) b fits can = record { handles = put_fits HandleFits m.handles h x fits.1 b.handles; cells = b.cells; objects = b.objects; labels = labels_kept (get m.handles h) t h m.scopes fits.0 b.labels }
change_bounded m (EndHandle h) b fits can = record { handles = cut_fits HandleFits m.handles h (λ q. tt) b.handles; cells = b.cells; objects = b.objects; labels = labels_left h m.scopes b.labels }
change_bounded m (SetCell c s) b fits can = record { handles = b.handles; cells = put_fits CellFits m.cells c s fits b.cells; objects = b.objects; labels = b.labels }
change_bounded m (EndCell c) b fits can = record { handles = b.handles; cells = cut_fits CellFits m.cells c (λ q. tt) b.cells; objects = b.objects; labels = b.labels }
change_bounded m (SetField o i s) b fits can = record { handles = b.handles; cells = b.cells; objects = put_fits ObjectFits m.objects o (with_field (get m.objects o) i s) (field_fits o i s (get m.objects o) (b.objects o) can) b.objects; labels = b.labels }
change_bounded m (Make o fields) b fits can = record { handles = b.handles; cells = b.cells; objects = put_fits ObjectFits m.objects o (Alive fields) fits b.objects; labels = b.labels }
change_bounded m (TurnHusk o) b fits can = record { handles = b.handles; cells = b.cells; objects = put_fits ObjectFits m.objects o Husk (husk_fits o (get m.objects o) (b.objects o) can) b.objects; labels = b.labels }

pub changed_bounded : (changes : List Change) (m : State) → IsBounded m → ChangesFit changes → CanChange m changes → IsBounded (changed m changes)
changed_bounded [] m b fits can = b
changed_bounded (c ∷ changes) m b fits can = changed_bounded changes (changed_by m c) (change_bounded m c b fits.0 can.0) fits.1 can.1

module _ (m : State) (rest : List Item) (b : IsBounded m) where
  abbrev Kept : Fate → Type 0
  Kept f = IsBounded (left_by m rest f).state

  falls_bounded : (o : ℕ) (it : Option Entry) → get m.objects o ≡ it → Kept (fall o it)
  falls_bounded o None is = b
  falls_bounded o (Some (Alive fields)) is = change_bounded m (TurnHusk o) b tt (ap is_alive is)
  falls_bounded o (Some Husk) is = b

  goes_bounded : (o : ℕ) → Kept (Goes o)
  goes_bounded o = record { handles = b.handles; cells = b.cells; objects = cut_fits ObjectFits m.objects o (λ q. tt) b.objects; labels = b.labels }

  fate_bounded : (x : Item) → Kept (fate m x rest)
  fate_bounded (item.Slot Nothing) = b
  fate_bounded (item.Slot Dangling) = b
  fate_bounded (item.Slot (Strong o)) = either Kept (strong m rest o == 0) _ _ (falls_bounded o (get m.objects o) refl) b
  fate_bounded (item.Slot (Weak o)) = either Kept (weak m rest o == 0 && (is_husk (get m.objects o) && (ends o rest == 0))) _ _ (goes_bounded o) b
  fate_bounded (item.End o) = either Kept (weak m rest o == 0) _ _ (goes_bounded o) b

-- a step of a release, and a whole one
pub drop_bounded : (m : State) (x : Item) (rest : List Item) → IsBounded m → IsBounded (drop_first m x rest).state
drop_bounded m x rest b = fate_bounded m rest b x

within_bounded : (n : ℕ) (m : State) (pending : List Item) → IsBounded m → IsBounded (release_within n m pending).state
within_bounded n m [] b = b
within_bounded zero m (x ∷ pending) b = b
within_bounded (suc n) m (x ∷ pending) b = within_bounded n (drop_first m x pending).state (drop_first m x pending).pending (drop_bounded m x pending b)

pub release_bounded : (m : State) (pending : List Item) → IsBounded m → IsBounded (release m pending).state
unfolding release
release_bounded m pending b = within_bounded (work m pending) m pending b
