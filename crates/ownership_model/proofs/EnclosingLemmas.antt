-- A set that is closed by strong or weak slots encloses what a program can ask about.
use Rattle.std.proofs.Common.{◌≡◌, ℕ, List, [], ◌∷◌, refl, arith, Bool, true, false}
use Rattle.std.specs.Prelude.{not, Option, Some, None}
use Rattle.std.specs.FinMap.{get, keys}
use Rattle.std.proofs.lemmas.Bool.Decides.{nat_tests}
use Rattle.trace_types.specs.declared.slots.Slot.{Slot}
use Rattle.trace_types.specs.declared.slots.Slot.TheVariants.{Nothing, Strong, Weak, Dangling}
use Rattle.trace_types.specs.declared.slots.Holding.{Holding}
use Rattle.trace_types.specs.declared.slots.Holding.TheVariants as holding
use Rattle.trace_types.specs.declared.slots.Entry.{Entry}
use Rattle.trace_types.specs.declared.slots.Entry.TheVariants.{Alive, Husk}
use Rattle.ownership_model.specs.State.{State}
use Rattle.ownership_model.proofs.Twins.{AvoidsSlot, AvoidSlots, AvoidsHolding, AvoidsEntry, IfThere, outside, Encloses}
use Rattle.ownership_model.specs.declared.link.Link.TheVariants.{StrongOrWeak}
use Rattle.ownership_model.specs.Reach.{IsClosed, named, slots_names, holding_names, cell_names, entry_names, handle_names, all_cell_names}
use Rattle.ownership_model.proofs.NameLemmas.{HasAll, all_left, all_right, at_each_key}

not_true : (b : Bool) → b ≡ true → not b ≡ false
not_true true h = refl
not_true false h = absurd cc

-- names in the set are names that avoid what is outside it
slot_avoids : (k : ℕ → Bool) (s : Slot) → HasAll k (named StrongOrWeak s) → AvoidsSlot (outside k) s
slot_avoids k Nothing h = tt
slot_avoids k (Strong o) h = not_true (k o) (h o (grind (arith, nat_tests)))
slot_avoids k (Weak o) h = not_true (k o) (h o (grind (arith, nat_tests)))
slot_avoids k Dangling h = tt

slots_avoid : (k : ℕ → Bool) (ss : List Slot) → HasAll k (slots_names StrongOrWeak ss) → AvoidSlots (outside k) ss
slots_avoid k [] h = tt
slots_avoid k (s ∷ ss) h = (
  slot_avoids k s (all_left k (named StrongOrWeak s) (slots_names StrongOrWeak ss) h),
  slots_avoid k ss (all_right k (named StrongOrWeak s) (slots_names StrongOrWeak ss) h),
)

holding_avoids : (k : ℕ → Bool) (x : Option Holding) → HasAll k (holding_names StrongOrWeak x) → IfThere (AvoidsHolding (outside k)) x
holding_avoids k None h = tt
holding_avoids k (Some (holding.Slot s)) h = slot_avoids k s h
holding_avoids k (Some (holding.Bare fields)) h = slots_avoid k fields h

cell_avoids : (k : ℕ → Bool) (x : Option Slot) → HasAll k (cell_names StrongOrWeak x) → IfThere (AvoidsSlot (outside k)) x
cell_avoids k None h = tt
cell_avoids k (Some s) h = slot_avoids k s h

entry_avoids : (k : ℕ → Bool) (x : Option Entry) → HasAll k (entry_names StrongOrWeak x) → IfThere (AvoidsEntry (outside k)) x
entry_avoids k None h = tt
entry_avoids k (Some (Alive fields)) h = slots_avoid k fields h
entry_avoids k (Some Husk) h = tt

pub encloses : (m : State) (k : ℕ → Bool) → IsClosed StrongOrWeak m k → Encloses k m
encloses m k r = record {
  roots = λ h. holding_avoids k (get m.handles h) (at_each_key k m.handles (holding_names StrongOrWeak) refl (all_left k (handle_names StrongOrWeak m (keys m.handles)) (all_cell_names StrongOrWeak m (keys m.cells)) r.roots) h);
  cell_roots = λ c. cell_avoids k (get m.cells c) (at_each_key k m.cells (cell_names StrongOrWeak) refl (all_right k (handle_names StrongOrWeak m (keys m.handles)) (all_cell_names StrongOrWeak m (keys m.cells)) r.roots) c);
  closed = λ x in'. entry_avoids k (get m.objects x) (λ o is. r.fields x o in' is);
}
