-- Whether a way leads from the fields of an object to another can be tested: it is whether the other would be reached, if the fields of
-- the one were all that handles and cells hold.
use Rattle.std.proofs.Common.{◌≡◌, ℕ, zero, suc, List, [], ◌∷◌, ◌++◌, refl, sym, ap, ◌∙◌, subst, Bool, true, false, inl, inr}
use Rattle.std.specs.Prelude.{Option, Some, None, ◌⊎◌, ◌==◌, slice_get, if◌then◌else◌}
use Rattle.std.specs.Ordering.{nat_cmp}
use Rattle.std.specs.FinMap.{get, insert, empty, get-empty}
use Rattle.trace_types.specs.declared.slots.Slot.{Slot}
use Rattle.trace_types.specs.declared.slots.Slot.TheVariants.{Strong}
use Rattle.trace_types.specs.declared.slots.Holding.{Holding}
use Rattle.trace_types.specs.declared.slots.Holding.TheVariants as holding
use Rattle.trace_types.specs.declared.slots.Entry.{Entry}
use Rattle.trace_types.specs.declared.slots.Entry.TheVariants.{Alive, Husk}
use Rattle.ownership_model.specs.State.{State}
use Rattle.ownership_model.specs.declared.link.Link.TheVariants.{StrongOnly}
use Rattle.ownership_model.specs.Reach.{has, root_names, field_names, is_reached, Reaches, Reaches.by_root, Reaches.by_field}
use Rattle.ownership_model.proofs.MapLemmas.{get_inserted}
use Rattle.ownership_model.proofs.LawsHold as model
use Rattle.retention_model.specs.declared.place.Place.{Place}
use Rattle.retention_model.specs.declared.place.Place.TheVariants.{Handle, Cell, Field}
use Rattle.retention_model.specs.Places.{at, held_at, field_at, IsRoot, IsFieldOf}
use Rattle.retention_model.specs.Ways.{LeadsTo, IsWay}
use Rattle.retention_model.specs.Cycles.{Keeps}
use Rattle.retention_model.proofs.WayLemmas.{by_roots, named_entry, entry_named, root_reaches}

-- the fields of what stands for an object
abbrev fields_of : Option Entry → List Slot
fields_of None = []
fields_of (Some (Alive fields)) = fields
fields_of (Some Husk) = []

-- the state in which they are all that is held
abbrev from_fields : State → ℕ → State
from_fields m a = record m { handles = insert empty 0 (holding.Bare (fields_of (get m.objects a))); cells = empty }

-- a field of h holds o
abbrev pub Holds : State → ℕ → ℕ → Type 0
Holds m h o = has o (field_names StrongOnly m h) ≡ true

-- a way leads from the fields of a to o
abbrev pub Leads : State → ℕ → ℕ → Type 0
Leads m a o = Reaches StrongOnly (from_fields m a) o

-- the same, as an answer
abbrev pub leads : State → ℕ → ℕ → Bool
leads m a o = is_reached StrongOnly (from_fields m a) o

pub leads_told : (m : State) (a o : ℕ) → leads m a o ≡ true → Leads m a o
leads_told m a o e = (model.reach.reached StrongOnly (from_fields m a) o).0 e

pub told_leads : (m : State) (a o : ℕ) → Leads m a o → leads m a o ≡ true
told_leads m a o r = (model.reach.reached StrongOnly (from_fields m a) o).1 r

-- the fields stand at the one handle

fields_slot : (x : Option Entry) (i : ℕ) → slice_get (fields_of x) i ≡ field_at x i
fields_slot None zero = refl
fields_slot None (suc i) = refl
fields_slot (Some (Alive fields)) i = refl
fields_slot (Some Husk) zero = refl
fields_slot (Some Husk) (suc i) = refl

handle_slot : (m : State) (a i : ℕ) → at (from_fields m a) (Handle 0 (Some i)) ≡ at m (Field a i)
handle_slot m a i =
    ap (λ (x : Option Holding). held_at x (Some i)) (get_inserted empty 0 (holding.Bare (fields_of (get m.objects a))) 0)
    ∙ fields_slot (get m.objects a) i

-- what one handle holds, if it is this one
held_field : (fs : List Slot) (b : Bool) (i : Option ℕ) (s : Slot) → held_at (if b then Some (holding.Bare fs) else None) i ≡ Some s → (j : ℕ) × (slice_get fs j ≡ Some s)
held_field fs true None s e = absurd cc
held_field fs true (Some j) s e = (j, e)
held_field fs false i s e = absurd cc

no_slot : (s : Slot) → None ≡ Some s → ⊥
no_slot s e = cc

root_field : (m : State) (a : ℕ) (q : Place) (s : Slot) → IsRoot q → at (from_fields m a) q ≡ Some s → (i : ℕ) × (at m (Field a i) ≡ Some s)
root_field m a (Handle h i) s root e =
    let fields : List Slot = fields_of (get m.objects a) in
    let only : get (from_fields m a).handles h ≡ (if 0 == h then Some (holding.Bare fields) else None) =
    get_inserted empty 0 (holding.Bare fields) h ∙ ap (λ (x : Option Holding). if 0 == h then Some (holding.Bare fields) else x) (get-empty nat_cmp h) in
    let it = held_field fields (0 == h) i s (ap (λ (x : Option Holding). held_at x i) (sym only) ∙ e) in
    (it.0, sym (fields_slot (get m.objects a) it.0) ∙ it.1)
root_field m a (Cell c) s root e = let none : get (from_fields m a).cells c ≡ None = get-empty nat_cmp c in absurd (no_slot s (sym none ∙ e))
root_field m a (Field p i) s root e = absurd root

-- what roots name there is what the fields hold
root_held : (m : State) (a o : ℕ) → has o (root_names StrongOnly (from_fields m a)) ≡ true → Holds m a o
root_held m a o h =
    let it = by_roots (from_fields m a) o h in
    let field = root_field m a it.0 (Strong o) it.1 it.2 in
    entry_named (get m.objects a) field.0 o field.1

pub leads_one : (m : State) (a o : ℕ) → Holds m a o → Leads m a o
leads_one m a o h =
    let it = named_entry (get m.objects a) o h in
    root_reaches (from_fields m a) (Handle 0 (Some it.0)) o tt (handle_slot m a it.0 ∙ it.1)

-- one way behind another
pub leads_on : (m : State) (a b o : ℕ) → Leads m a b → Leads m b o → Leads m a o
leads_on m a b _ there (by_root o h) = by_field b o there (root_held m b o h)
leads_on m a b _ there (by_field p o way h) = by_field p o (leads_on m a b p there way) h

-- the last object of a way, which holds that to which the way leads
pub last_holder : (m : State) (a o : ℕ) → Leads m a o → (h : ℕ) × ((h ≡ a) ⊎ Leads m a h) × Holds m h o
last_holder m a _ (by_root o h) = (a, inl refl, root_held m a o h)
last_holder m a _ (by_field p o way h) = (p, inr way, h)

-- Ways.

way_on : (m : State) (b o : ℕ) (way : List Place) (q : Place) (more : List Place) → LeadsTo m b (q ∷ way) → IsWay m (IsFieldOf b) o more → LeadsTo m o (q ∷ way ++ more)
way_on m b o [] q [] held is = absurd is.0
way_on m b o [] q (r ∷ more) held is = ((b, held, is.0), is.1)
way_on m b o (r ∷ way) q more held is = (held.0, way_on m b o way r more held.1 is)

keeps_on : (m : State) (a b o : ℕ) → Keeps m a b → Keeps m b o → Keeps m a o
keeps_on m a b o first then' = by_way first.0 first.1
  where
    by_way : (way : List Place) → IsWay m (IsFieldOf a) b way → Keeps m a o
    by_way [] is = absurd is.0
    by_way (q ∷ way) is = (q ∷ way ++ then'.0, (is.0, way_on m b o way q then'.0 is.1 then'.1))

keeps_one : (m : State) (a o : ℕ) → Holds m a o → Keeps m a o
keeps_one m a o h = let it = named_entry (get m.objects a) o h in (Field a it.0 ∷ [], (refl, it.1))

pub leads_keeps : (m : State) (a o : ℕ) → Leads m a o → Keeps m a o
leads_keeps m a _ (by_root o h) = keeps_one m a o (root_held m a o h)
leads_keeps m a _ (by_field p o way h) = keeps_on m a p o (leads_keeps m a p way) (keeps_one m p o h)

field_held : (m : State) (a : ℕ) (q : Place) (o : ℕ) → IsFieldOf a q → at m q ≡ Some (Strong o) → Holds m a o
field_held m a (Handle h i) o field e = absurd field
field_held m a (Cell c) o field e = absurd field
field_held m a (Field p i) o field e = subst (λ k. Holds m k o) field (entry_named (get m.objects p) i o e)

follow : (m : State) (a o : ℕ) (way : List Place) (q : Place) → ((r : ℕ) → at m q ≡ Some (Strong r) → Leads m a r) → LeadsTo m o (q ∷ way) → Leads m a o
follow m a o [] q first held = first o held
follow m a o (r ∷ way) q first held =
    let step = held.0 in
    follow m a o way r (λ t e. by_field step.0 t (first step.0 step.1) (field_held m step.0 r t step.2 e)) held.1

pub keeps_leads : (m : State) (a o : ℕ) → Keeps m a o → Leads m a o
keeps_leads m a o keeps = by_way keeps.0 keeps.1
  where
    by_way : (way : List Place) → IsWay m (IsFieldOf a) o way → Leads m a o
    by_way [] is = absurd is.0
    by_way (q ∷ way) is = follow m a o way q (λ r e. leads_one m a r (field_held m a q r is.0 e)) is.1
