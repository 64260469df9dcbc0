-- A map with keys below n has at most n entries, so a sum over its values is bounded; and so are the counts of a state
-- within its limits.
use Rattle.std.proofs.Common.{◌≡◌, ℕ, ◌+◌, ◌*◌, ◌<◌, ◌≤◌, List, [], ◌∷◌, length, refl, sym, subst, arith, cond}
use Rattle.std.specs.Prelude.{Option, Some, None}
use Rattle.std.proofs.Math.Dec.{T}
use Rattle.std.proofs.lemmas.Bool.Decides.{nat_tests}
use Rattle.std.proofs.lemmas.Nat.{mul-le}
use Rattle.std.specs.declared.cmp.Ordering.TheVariants.{Less, Equal, Greater}
use Rattle.std.specs.Ordering.{nat_cmp, is_lt, is_eq}
use Rattle.std.specs.Cmp.{nat_cmp_total, tied_itself}
use Rattle.std.specs.FinMap.{FinMap, get, entries, entries_sorted, get-entries, nat_cmp-IsAntisymmetric}
use Rattle.std.specs.FinMap.Entries.{is_sorted, below_all, find}
use Rattle.trace_types.specs.declared.slots.Slot.{Slot}
use Rattle.trace_types.specs.declared.slots.Slot.TheVariants.{Nothing, Strong, Weak, Dangling}
use Rattle.trace_types.specs.declared.slots.Holding.{Holding}
use Rattle.trace_types.specs.declared.slots.Holding.TheVariants as holding
use Rattle.trace_types.specs.declared.slots.Entry.{Entry}
use Rattle.trace_types.specs.declared.slots.Entry.TheVariants.{Alive, Husk}
use Rattle.trace_types.specs.declared.slots.Item.{Item}
use Rattle.trace_types.specs.declared.slots.Item.TheVariants as item
use Rattle.trace_types.specs.declared.limits.TheConstants.{MAX_NAME, MAX_ID, MAX_FIELDS}
use Rattle.ownership_model.specs.Totals.{total_in, total}
use Rattle.ownership_model.specs.State.{State, slots_weight, holding_weight, entry_weight, items_weight, standing_weight, weight, names_alike, strong, weak}
use Rattle.ownership_model.specs.Bounds.{HandleFits, CellFits, ObjectFits, IsBounded, max_slots}
use Rattle.ownership_model.proofs.TotalLemmas.{first, second, less, find_below}

-- what stands at a key: the key is below n, and it weighs at most most
abbrev pub WithinAt : {X : Type 0} → (X → ℕ) → ℕ → ℕ → ℕ → Option X → Type 0
WithinAt w n most q None = Unit {0}
WithinAt w n most q (Some x) = (q < n) × (w x ≤ most)

-- so it is at each of these entries
abbrev pub AreWithin : {X : Type 0} → (X → ℕ) → ℕ → ℕ → List (ℕ × X) → Type 0
AreWithin w n most [] = Unit {0}
AreWithin w n most (e ∷ es) = WithinAt w n most e.0 (Some e.1) × AreWithin w n most es

module _ {X : Type 0} (w : X → ℕ) (n most : ℕ) where
  room : (e : ℕ × X) (es : List (ℕ × X)) → T (is_sorted nat_cmp (e ∷ es)) → AreWithin w n most (e ∷ es) → length es + e.0 < n
  room e [] sorted within = omega (arith, within.0.0)
  room e (f ∷ es) sorted within =
      let larger : nat_cmp e.0 f.0 ≡ Less = less (nat_cmp e.0 f.0) (first (is_lt (nat_cmp e.0 f.0)) _ (first _ (is_sorted nat_cmp (f ∷ es)) sorted)) in
      let above : e.0 < f.0 = grind (arith, nat_tests, larger) in
      omega (arith, above, room f es (second (below_all nat_cmp e.0 (f ∷ es)) _ sorted) within.1)

  pub few_entries : (es : List (ℕ × X)) → T (is_sorted nat_cmp es) → AreWithin w n most es → length es ≤ n
  few_entries [] sorted within = omega arith
  few_entries (e ∷ es) sorted within = omega (arith, room e es sorted within)

  pub total_in-le : (es : List (ℕ × X)) → AreWithin w n most es → total_in w es ≤ length es * most
  total_in-le [] within = omega arith
  total_in-le (e ∷ es) within = omega (arith, within.0.1, total_in-le es within.1)

  later : (e : ℕ × X) (es : List (ℕ × X)) → T (below_all nat_cmp e.0 es) → ((q : ℕ) → WithinAt w n most q (find nat_cmp q (e ∷ es))) → (q : ℕ) → WithinAt w n most q (find nat_cmp q es)
  later e es b z q = elim (nat_cmp q e.0) as (λ o. nat_cmp q e.0 ≡ o → WithinAt w n most q (cond (is_eq o) (Some e.1) (find nat_cmp q es)) → WithinAt w n most q (find nat_cmp q es)) [
    | Less ↦ λ p g. g
    | Equal ↦ λ p g. subst (WithinAt w n most q) (sym (subst (λ x. find nat_cmp x es ≡ None) (sym (nat_cmp-IsAntisymmetric q e.0 p)) (find_below e.0 es b))) tt
    | Greater ↦ λ p g. g
  ] refl (z q)

  all_within : (es : List (ℕ × X)) → T (is_sorted nat_cmp es) → ((q : ℕ) → WithinAt w n most q (find nat_cmp q es)) → AreWithin w n most es
  all_within [] sorted z = tt
  all_within (e ∷ es) sorted z = (
    subst (λ o. WithinAt w n most e.0 (cond (is_eq o) (Some e.1) (find nat_cmp e.0 es))) (tied_itself nat_cmp_total e.0) (z e.0),
    all_within es (second _ _ sorted) (later e es (first _ _ sorted) z),
  )

  -- few keys, and so a bounded sum
  pub total-le : (m : FinMap nat_cmp X) → ((q : ℕ) → WithinAt w n most q (get m q)) → total w m ≤ n * most
  total-le m z =
      let within : AreWithin w n most (entries m) = all_within (entries m) (entries_sorted m) (λ q. subst (WithinAt w n most q) (get-entries m q) (z q)) in
      let few : length (entries m) ≤ n = few_entries (entries m) (entries_sorted m) within in
      let more : length (entries m) * most ≤ n * most = mul-le (length (entries m)) most n most few (omega arith) in
      omega (arith, total_in-le (entries m) within, more)

-- a slot names an object at most once
pub names_alike-le : (s t : Slot) → names_alike s t ≤ 1
names_alike-le Nothing t = omega arith
names_alike-le (Strong o) Nothing = omega arith
names_alike-le (Strong o) (Strong p) = grind (arith, nat_tests)
names_alike-le (Strong o) (Weak p) = omega arith
names_alike-le (Strong o) Dangling = omega arith
names_alike-le (Weak o) Nothing = omega arith
names_alike-le (Weak o) (Strong p) = omega arith
names_alike-le (Weak o) (Weak p) = grind (arith, nat_tests)
names_alike-le (Weak o) Dangling = omega arith
names_alike-le Dangling t = omega arith

-- where no slot weighs more than one
module _ (w : Slot → ℕ) (light : (s : Slot) → w s ≤ 1) where
  pub slots_weight-le : (fields : List Slot) → slots_weight w fields ≤ length fields
  slots_weight-le [] = omega arith
  slots_weight-le (s ∷ fields) = omega (arith, light s, slots_weight-le fields)

  pub items_weight-le : (pending : List Item) → items_weight w pending ≤ length pending
  items_weight-le [] = omega arith
  items_weight-le (item.Slot s ∷ pending) = omega (arith, light s, items_weight-le pending)
  items_weight-le (item.End o ∷ pending) = omega (arith, items_weight-le pending)

  handle_within : (h : ℕ) (it : Option Holding) → HandleFits h it → WithinAt (holding_weight w) (MAX_NAME + 1) MAX_FIELDS h it
  handle_within h None fits = tt
  handle_within h (Some (holding.Slot s)) fits = (omega (arith, fits.0), omega (arith, light s))
  handle_within h (Some (holding.Bare fields)) fits = (omega (arith, fits.0), omega (arith, fits.1, slots_weight-le fields))

  cell_within : (c : ℕ) (it : Option Slot) → CellFits c it → WithinAt w (MAX_NAME + 1) 1 c it
  cell_within c None fits = tt
  cell_within c (Some s) fits = (omega (arith, fits), light s)

  object_within : (o : ℕ) (it : Option Entry) → ObjectFits o it → WithinAt (entry_weight w) (MAX_ID + 1) MAX_FIELDS o it
  object_within o None fits = tt
  object_within o (Some (Alive fields)) fits = (omega (arith, fits.0), omega (arith, fits.1, slots_weight-le fields))
  object_within o (Some Husk) fits = (omega (arith, fits.0), omega arith)

  -- how many slots may stand: those of each handle, of each cell, and of each object
  pub standing_weight-le : (m : State) → IsBounded m → standing_weight w m ≤ max_slots
  standing_weight-le m bounded =
      let handles : total (holding_weight w) m.handles ≤ (MAX_NAME + 1) * MAX_FIELDS = total-le (holding_weight w) (MAX_NAME + 1) MAX_FIELDS m.handles (λ h. handle_within h (get m.handles h) (bounded.handles h)) in
      let cells : total w m.cells ≤ (MAX_NAME + 1) * 1 = total-le w (MAX_NAME + 1) 1 m.cells (λ c. cell_within c (get m.cells c) (bounded.cells c)) in
      let objects : total (entry_weight w) m.objects ≤ (MAX_ID + 1) * MAX_FIELDS = total-le (entry_weight w) (MAX_ID + 1) MAX_FIELDS m.objects (λ o. object_within o (get m.objects o) (bounded.objects o)) in
      omega (arith, handles, cells, objects)

  pub weight-le : (m : State) (pending : List Item) → IsBounded m → weight w m pending ≤ max_slots + length pending
  weight-le m pending bounded = omega (arith, standing_weight-le m bounded, items_weight-le pending)

pub strong-le : (m : State) (pending : List Item) (o : ℕ) → IsBounded m → strong m pending o ≤ max_slots + length pending
strong-le m pending o bounded = weight-le (names_alike (Strong o)) (names_alike-le (Strong o)) m pending bounded

pub weak-le : (m : State) (pending : List Item) (o : ℕ) → IsBounded m → weak m pending o ≤ max_slots + length pending
weak-le m pending o bounded = weight-le (names_alike (Weak o)) (names_alike-le (Weak o)) m pending bounded
