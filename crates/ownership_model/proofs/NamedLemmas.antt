-- What is counted for an object is what names it.
use Rattle.std.proofs.Common.{◌≡◌, ℕ, List, [], ◌∷◌, refl, ◌∙◌, sym, arith, Bool, true, false}
use Rattle.std.specs.Prelude.{◌==◌, ◌||◌, not, Option, Some, None, flat_map}
use Rattle.std.specs.Ordering.{nat_cmp}
use Rattle.std.specs.FinMap.{FinMap, get, keys}
use Rattle.std.proofs.lemmas.Bool.Decides.{nat_tests}
use Rattle.trace_types.specs.declared.slots.Slot.{Slot}
use Rattle.trace_types.specs.declared.slots.Slot.TheVariants.{Nothing, Strong, Weak, Dangling}
use Rattle.trace_types.specs.declared.slots.Holding.{Holding}
use Rattle.trace_types.specs.declared.slots.Holding.TheVariants as holding
use Rattle.trace_types.specs.declared.slots.Entry.{Entry}
use Rattle.trace_types.specs.declared.slots.Entry.TheVariants.{Alive, Husk}
use Rattle.ownership_model.specs.Totals.{total}
use Rattle.ownership_model.specs.State.{State, names_alike, slots_weight, holding_weight, entry_weight}
use Rattle.ownership_model.specs.declared.link.Link.TheVariants.{StrongOnly}
use Rattle.ownership_model.specs.Reach.{has, named, slots_names, holding_names, cell_names, entry_names, handle_names, all_cell_names, root_names}
use Rattle.ownership_model.proofs.TotalLemmas.{weight_at, total-zero}
use Rattle.ownership_model.proofs.CountLemmas.{total-cut}
use Rattle.ownership_model.proofs.Searching.{has-append}
use Rattle.ownership_model.proofs.NameLemmas.{all_of_each, at_each_key, all_but, but_all}

-- a number is nothing just where the test fails
abbrev pub IsNone : ℕ → Bool → Type 0
IsNone n b = (n == 0) ≡ not b

pub none_named : (n : ℕ) (b : Bool) → IsNone n b → b ≡ false → n ≡ 0
none_named n b is h = grind (arith, nat_tests, is, h)

pub none_counted : (n : ℕ) (b : Bool) → IsNone n b → n ≡ 0 → b ≡ false
none_counted n true is h = absurd (grind (arith, nat_tests, is, h))
none_counted n false is h = refl

named_slot : (o : ℕ) (s : Slot) → IsNone (names_alike (Strong o) s) (has o (named StrongOnly s))
named_slot o Nothing = refl
named_slot o (Strong p) = grind (arith, nat_tests)
named_slot o (Weak p) = refl
named_slot o Dangling = refl

named_slots : (o : ℕ) (ss : List Slot) → IsNone (slots_weight (names_alike (Strong o)) ss) (has o (slots_names StrongOnly ss))
named_slots o [] = refl
named_slots o (s ∷ ss) = grind (arith, nat_tests, has-append o (named StrongOnly s) (slots_names StrongOnly ss), named_slot o s, named_slots o ss)

named_holding : (o : ℕ) (x : Option Holding) → IsNone (weight_at (holding_weight (names_alike (Strong o))) x) (has o (holding_names StrongOnly x))
named_holding o None = refl
named_holding o (Some (holding.Slot s)) = named_slot o s
named_holding o (Some (holding.Bare fields)) = named_slots o fields

named_cell : (o : ℕ) (x : Option Slot) → IsNone (weight_at (names_alike (Strong o)) x) (has o (cell_names StrongOnly x))
named_cell o None = refl
named_cell o (Some s) = named_slot o s

pub named_entry : (o : ℕ) (x : Option Entry) → IsNone (weight_at (entry_weight (names_alike (Strong o))) x) (has o (entry_names StrongOnly x))
named_entry o None = refl
named_entry o (Some (Alive fields)) = named_slots o fields
named_entry o (Some Husk) = refl

-- a map that weighs nothing has no key that does
pub each_zero : {X : Type 0} (w : X → ℕ) (map : FinMap nat_cmp X) → total w map ≡ 0 → (q : ℕ) → weight_at w (get map q) ≡ 0
each_zero w map z q = omega (arith, total-cut w map q (get map q) refl, z)

-- no name at any key, and no weight
module _ {X : Type 0} (o : ℕ) (w : X → ℕ) (names : Option X → List ℕ) (map : FinMap nat_cmp X) (told : (x : Option X) → IsNone (weight_at w x) (has o (names x))) where
  pub total_unnamed : names None ≡ [] → has o (flat_map (λ q. names (get map q)) (keys map)) ≡ false → total w map ≡ 0
  total_unnamed none h = total-zero w map (λ q. none_named (weight_at w (get map q)) (has o (names (get map q))) (told (get map q))
      (but_all o (names (get map q)) (at_each_key (λ p. not (p == o)) map names none (all_but o (flat_map (λ q. names (get map q)) (keys map)) h) q)))

  pub unnamed_total : total w map ≡ 0 → has o (flat_map (λ q. names (get map q)) (keys map)) ≡ false
  unnamed_total z = but_all o (flat_map (λ q. names (get map q)) (keys map))
      (all_of_each (λ p. not (p == o)) (λ q. names (get map q)) (keys map)
      (λ q. all_but o (names (get map q)) (none_counted (weight_at w (get map q)) (has o (names (get map q))) (told (get map q)) (each_zero w map z q))))

-- no root names the object just where no handle and no cell counts for it
pub roots_unnamed : (m : State) (o : ℕ) → has o (root_names StrongOnly m) ≡ false → (total (holding_weight (names_alike (Strong o))) m.handles ≡ 0) × (total (names_alike (Strong o)) m.cells ≡ 0)
roots_unnamed m o h =
    let split : (has o (handle_names StrongOnly m (keys m.handles)) || has o (all_cell_names StrongOnly m (keys m.cells))) ≡ false = sym (has-append o (handle_names StrongOnly m (keys m.handles)) (all_cell_names StrongOnly m (keys m.cells))) ∙ h in (
      total_unnamed o (holding_weight (names_alike (Strong o))) (holding_names StrongOnly) m.handles (named_holding o) refl (grind (arith, split)),
      total_unnamed o (names_alike (Strong o)) (cell_names StrongOnly) m.cells (named_cell o) refl (grind (arith, split)),
    )

pub unnamed_roots : (m : State) (o : ℕ) → total (holding_weight (names_alike (Strong o))) m.handles ≡ 0 → total (names_alike (Strong o)) m.cells ≡ 0 → has o (root_names StrongOnly m) ≡ false
unnamed_roots m o a b =
    let handles : has o (handle_names StrongOnly m (keys m.handles)) ≡ false = unnamed_total o (holding_weight (names_alike (Strong o))) (holding_names StrongOnly) m.handles (named_holding o) a in
    let cells : has o (all_cell_names StrongOnly m (keys m.cells)) ≡ false = unnamed_total o (names_alike (Strong o)) (cell_names StrongOnly) m.cells (named_cell o) b in
    has-append o (handle_names StrongOnly m (keys m.handles)) (all_cell_names StrongOnly m (keys m.cells)) ∙ grind (arith, handles, cells)
