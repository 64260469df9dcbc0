-- What is reached is what a way leads to from handles and cells: each step of the one is a place of the other.
use Rattle.std.proofs.Common.{◌≡◌, ℕ, zero, suc, List, [], ◌∷◌, ◌++◌, refl, sym, ap, ◌∙◌, subst, Bool, true, false}
use Rattle.std.specs.Prelude.{Option, Some, None, ◌==◌, ◌||◌, ◌↔◌, flat_map, slice_get}
use Rattle.std.proofs.lemmas.Bool.Decides.{nat_tests}
use Rattle.std.proofs.Common.{arith}
use Rattle.std.specs.FinMap.{get, keys}
use Rattle.trace_types.specs.declared.slots.Slot.{Slot}
use Rattle.trace_types.specs.declared.slots.Slot.TheVariants.{Nothing, Strong, Weak, Dangling}
use Rattle.trace_types.specs.declared.slots.Holding.{Holding}
use Rattle.trace_types.specs.declared.slots.Holding.TheVariants as holding
use Rattle.trace_types.specs.declared.slots.Entry.{Entry}
use Rattle.trace_types.specs.declared.slots.Entry.TheVariants.{Alive, Husk}
use Rattle.ownership_model.specs.State.{State}
use Rattle.ownership_model.specs.declared.link.Link.TheVariants.{StrongOnly}
use Rattle.ownership_model.specs.Reach.{named, slots_names, holding_names, cell_names, entry_names, handle_names, all_cell_names, root_names, field_names, has, is_reached, Reaches, Reaches.by_root, Reaches.by_field}
use Rattle.ownership_model.proofs.Searching.{has-append, either, or_left, or_right}
use Rattle.ownership_model.proofs.LawsHold as model
use Rattle.retention_model.specs.declared.place.Place.{Place}
use Rattle.retention_model.specs.declared.place.Place.TheVariants.{Handle, Cell, Field}
use Rattle.retention_model.specs.Places.{at, held_at, field_at, IsRoot, IsFieldOf}
use Rattle.retention_model.specs.Ways.{LeadsTo, BeginsIn, IsWay}

-- Names and the slots that have them.

-- the one name of a list
only_name : (q o : ℕ) → has o (q ∷ []) ≡ true → q ≡ o
only_name q o h = grind (arith, nat_tests, h)

-- a slot that names o is the Arc to it
named_slot : (s : Slot) (o : ℕ) → has o (named StrongOnly s) ≡ true → s ≡ Strong o
named_slot Nothing o h = absurd cc
named_slot (Strong q) o h = ap Strong (only_name q o h)
named_slot (Weak q) o h = absurd cc
named_slot Dangling o h = absurd cc

-- slots that name o have the Arc to it at an index
named_field : (ss : List Slot) (o : ℕ) → has o (slots_names StrongOnly ss) ≡ true → (i : ℕ) × (slice_get ss i ≡ Some (Strong o))
named_field [] o h = absurd cc
named_field (s ∷ ss) o h =
    either ((i : ℕ) × (slice_get (s ∷ ss) i ≡ Some (Strong o))) (has o (named StrongOnly s)) (has o (slots_names StrongOnly ss)) (sym (has-append o (named StrongOnly s) (slots_names StrongOnly ss)) ∙ h)
    (λ e. (zero, ap Some (named_slot s o e))) (λ e. let later = named_field ss o e in (suc later.0, later.1))

-- and the other way round
same_name : (o : ℕ) → has o (o ∷ []) ≡ true
same_name o = grind (arith, nat_tests)

field_named : (ss : List Slot) (i o : ℕ) → slice_get ss i ≡ Some (Strong o) → has o (slots_names StrongOnly ss) ≡ true
field_named [] zero o e = absurd cc
field_named [] (suc i) o e = absurd cc
field_named (s ∷ ss) zero o e =
    let it : s ≡ Strong o = cc in
    has-append o (named StrongOnly s) (slots_names StrongOnly ss)
    ∙ or_left (has o (named StrongOnly s)) (has o (slots_names StrongOnly ss)) (subst (λ (x : Slot). has o (named StrongOnly x) ≡ true) (sym it) (same_name o))
field_named (s ∷ ss) (suc i) o e =
    has-append o (named StrongOnly s) (slots_names StrongOnly ss) ∙ or_right (has o (named StrongOnly s)) (has o (slots_names StrongOnly ss)) (field_named ss i o e)

pub held_named : (x : Option Holding) (i : Option ℕ) (o : ℕ) → held_at x i ≡ Some (Strong o) → has o (holding_names StrongOnly x) ≡ true
held_named None i o e = absurd cc
held_named (Some (holding.Slot s)) None o e = let it : s ≡ Strong o = cc in subst (λ (y : Slot). has o (named StrongOnly y) ≡ true) (sym it) (same_name o)
held_named (Some (holding.Slot s)) (Some i) o e = absurd cc
held_named (Some (holding.Bare fields)) None o e = absurd cc
held_named (Some (holding.Bare fields)) (Some i) o e = field_named fields i o e

named_held : (x : Option Holding) (o : ℕ) → has o (holding_names StrongOnly x) ≡ true → (i : Option ℕ) × (held_at x i ≡ Some (Strong o))
named_held None o h = absurd cc
named_held (Some (holding.Slot s)) o h = (None, ap Some (named_slot s o h))
named_held (Some (holding.Bare fields)) o h = let it = named_field fields o h in (Some it.0, it.1)

pub cell_named : (x : Option Slot) (o : ℕ) → x ≡ Some (Strong o) → has o (cell_names StrongOnly x) ≡ true
cell_named None o e = absurd cc
cell_named (Some s) o e = let it : s ≡ Strong o = cc in subst (λ (y : Slot). has o (named StrongOnly y) ≡ true) (sym it) (same_name o)

named_cell : (x : Option Slot) (o : ℕ) → has o (cell_names StrongOnly x) ≡ true → x ≡ Some (Strong o)
named_cell None o h = absurd cc
named_cell (Some s) o h = ap Some (named_slot s o h)

pub entry_named : (x : Option Entry) (i o : ℕ) → field_at x i ≡ Some (Strong o) → has o (entry_names StrongOnly x) ≡ true
entry_named None i o e = absurd cc
entry_named (Some (Alive fields)) i o e = field_named fields i o e
entry_named (Some Husk) i o e = absurd cc

pub named_entry : (x : Option Entry) (o : ℕ) → has o (entry_names StrongOnly x) ≡ true → (i : ℕ) × (field_at x i ≡ Some (Strong o))
named_entry None o h = absurd cc
named_entry (Some (Alive fields)) o h = named_field fields o h
named_entry (Some Husk) o h = absurd cc

-- Of a state m.
module _ (m : State) where
  -- a root place that holds o
  abbrev pub HeldByRoot : ℕ → Type 0
  HeldByRoot o = (p : Place) × IsRoot p × (at m p ≡ Some (Strong o))

  by_handles : (hs : List ℕ) (o : ℕ) → has o (handle_names StrongOnly m hs) ≡ true → HeldByRoot o
  by_handles [] o h = absurd cc
  by_handles (g ∷ hs) o h =
      either (HeldByRoot o) (has o (holding_names StrongOnly (get m.handles g))) (has o (handle_names StrongOnly m hs))
      (sym (has-append o (holding_names StrongOnly (get m.handles g)) (handle_names StrongOnly m hs)) ∙ h)
      (λ e. let it = named_held (get m.handles g) o e in (Handle g it.0, tt, it.1)) (λ e. by_handles hs o e)

  by_cells : (cs : List ℕ) (o : ℕ) → has o (all_cell_names StrongOnly m cs) ≡ true → HeldByRoot o
  by_cells [] o h = absurd cc
  by_cells (c ∷ cs) o h =
      either (HeldByRoot o) (has o (cell_names StrongOnly (get m.cells c))) (has o (all_cell_names StrongOnly m cs))
      (sym (has-append o (cell_names StrongOnly (get m.cells c)) (all_cell_names StrongOnly m cs)) ∙ h)
      (λ e. (Cell c, tt, named_cell (get m.cells c) o e)) (λ e. by_cells cs o e)

  pub by_roots : (o : ℕ) → has o (root_names StrongOnly m) ≡ true → HeldByRoot o
  by_roots o h =
      either (HeldByRoot o) (has o (handle_names StrongOnly m (keys m.handles))) (has o (all_cell_names StrongOnly m (keys m.cells)))
      (sym (has-append o (handle_names StrongOnly m (keys m.handles)) (all_cell_names StrongOnly m (keys m.cells))) ∙ h)
      (by_handles (keys m.handles) o) (by_cells (keys m.cells) o)

  -- a way goes on by a field
  leads_on : (way : List Place) (p i o : ℕ) → LeadsTo m p way → at m (Field p i) ≡ Some (Strong o) → LeadsTo m o (way ++ Field p i ∷ [])
  leads_on [] p i o leads e = absurd leads
  leads_on (q ∷ []) p i o leads e = ((p, leads, refl), e)
  leads_on (q ∷ r ∷ way) p i o leads e = (leads.0, leads_on (r ∷ way) p i o leads.1 e)

  begins_on : (From : Place → Type 0) (way more : List Place) → BeginsIn From way → BeginsIn From (way ++ more)
  begins_on From [] more begins = absurd begins
  begins_on From (q ∷ way) more begins = begins

  abbrev pub HasWay : ℕ → Type 0
  HasWay o = (way : List Place) × IsWay m IsRoot o way

  go_on : (p o : ℕ) → HasWay p → has o (field_names StrongOnly m p) ≡ true → HasWay o
  go_on p o there h =
      let it = named_entry (get m.objects p) o h in
      (there.0 ++ Field p it.0 ∷ [], (begins_on IsRoot there.0 (Field p it.0 ∷ []) there.1.0, leads_on there.0 p it.0 o there.1.1 it.1))

  by_way : (o : ℕ) → Reaches StrongOnly m o → HasWay o
  by_way _ (by_root o h) = let it = by_roots o h in (it.0 ∷ [], (it.1, it.2))
  by_way _ (by_field p o there h) = go_on p o (by_way p there) h

  reached : (o : ℕ) → is_reached StrongOnly m o ≡ true → Reaches StrongOnly m o
  reached o e = (model.reach.reached StrongOnly m o).0 e

  -- what a root place holds is reached
  pub root_reaches : (p : Place) (o : ℕ) → IsRoot p → at m p ≡ Some (Strong o) → Reaches StrongOnly m o
  root_reaches (Handle h i) o root e = reached o (model.named.by_handle StrongOnly m h o (held_named (get m.handles h) i o e))
  root_reaches (Cell c) o root e = reached o (model.named.by_cell StrongOnly m c o (cell_named (get m.cells c) o e))
  root_reaches (Field q i) o root e = absurd root

  -- and so is what a field of a reached object holds
  pub field_reaches : (r : ℕ) (p : Place) (o : ℕ) → Reaches StrongOnly m r → IsFieldOf r p → at m p ≡ Some (Strong o) → Reaches StrongOnly m o
  field_reaches r (Handle h i) o there field e = absurd field
  field_reaches r (Cell c) o there field e = absurd field
  field_reaches r (Field q i) o there field e = by_field r o there (subst (λ k. has o (field_names StrongOnly m k) ≡ true) field (entry_named (get m.objects q) i o e))

  pub along : (way : List Place) (p : Place) (o : ℕ) → ((r : ℕ) → at m p ≡ Some (Strong r) → Reaches StrongOnly m r) → LeadsTo m o (p ∷ way) → Reaches StrongOnly m o
  along [] p o first leads = first o leads
  along (q ∷ way) p o first leads =
      let step = leads.0 in
      along way q o (λ t e. field_reaches step.0 q t (first step.0 step.1) step.2 e) leads.1

  by_whole : (o : ℕ) (way : List Place) → IsWay m IsRoot o way → Reaches StrongOnly m o
  by_whole o [] is = absurd is.0
  by_whole o (p ∷ way) is = along way p o (λ r e. root_reaches p r is.0 e) is.1

  pub reached_by_ways : (o : ℕ) → Reaches StrongOnly m o ↔ HasWay o
  reached_by_ways o = (by_way o, λ it. by_whole o it.0 it.1)
