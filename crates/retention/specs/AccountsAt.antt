-- What is told of an object, by the numbers of a graph (profile of this project).
use Rattle.std.specs.Prelude.{ℕ, ◌≡◌, List, length, map, filter, Option, Some, None, Bool, true, false, not, unwrap_or, slice_index, slice_index_or}
use Rattle.trace_types.specs.declared.slots.Slot.{Slot}
use Rattle.retention_model.specs.Turns.{is_weak_slot}
use Rattle.retention_model.specs.declared.account.Account.{Account}
use Rattle.retention_model.specs.declared.account.Why.{Why}
use Rattle.retention_model.specs.declared.account.Why.TheVariants.{Husk, Reached, InCycle, Under}
use Rattle.retention_model.specs.declared.place.Held.{Held}
use Rattle.retention.specs.declared.ending.Ending.{Ending}
use Rattle.retention.specs.declared.graph.Graph.{Graph}
use Rattle.retention.specs.declared.account.Accounts.{Accounts}
use Rattle.retention.specs.declared.walk.Step.{Step}
use Rattle.retention.specs.Layout.{naming}
use Rattle.retention.specs.Graph.{size, alive_at, held_at, is_root_at, is_field_at, is_field_of}
use Rattle.retention.specs.Walked.{has_come, IsFresh, IsWalkFrom, IsToldWay}
use Rattle.retention.specs.Components.{IsCyclic, size_of}
use Rattle.retention.specs.Retaining.{AreRetained}
use Rattle.retention.specs.RetainingSteps.{IsReady}

-- whether a slot is a Weak, or whether it is none
abbrev pub is_such : Bool → Slot → Bool
is_such true s = is_weak_slot s
is_such false s = not (is_weak_slot s)

-- the places that name an object, weakly or strongly
abbrev pub holders_at : Graph → Bool → ℕ → List Held
holders_at g weakly i = filter (λ (h : Held). is_such weakly h.slot) (map (held_at g) (naming g.targets.items i))

-- why the object is there, where this is its date; the walk from cycles came to these
abbrev pub IsWhyAt : Ending → List Step → Option ℕ → ℕ → Why → Type 0
IsWhyAt e came date i Husk = alive_at e.graph i ≡ false
IsWhyAt e came date i (Reached way) = (alive_at e.graph i ≡ true) × (has_come e.from_roots.steps.items i ≡ true) × IsToldWay e.graph (is_root_at e.graph) i way.items
IsWhyAt e came date i (InCycle since way count) =
    IsCyclic e.graph e.leaked.items i × (since ≡ unwrap_or date 0) × IsToldWay e.graph (is_field_at e.graph i) i way.items
    × (count ≡ size_of e.cycles.parts.items (slice_index e.cycles.parts.items i))
IsWhyAt e came date i (Under since way) =
    (slice_index_or e.leaked.items i false ≡ true) × (IsCyclic e.graph e.leaked.items i → ⊥) × (since ≡ unwrap_or date 0)
    × (has_come came i ≡ true → IsToldWay e.graph (is_field_of e.graph e.cycles.marks.items) i way.items)

-- how many objects it retains
abbrev pub RetainsAt : Graph → ℕ → Option ℕ → Type 0
RetainsAt g i None = alive_at g i ≡ false
RetainsAt g i (Some count) = (alive_at g i ≡ true) × ((xs : List ℕ) × AreRetained g i xs × (count ≡ length xs))

-- all that is told of it
pub record IsAccountAt (e : Ending) (came : List Step) (date : Option ℕ) (i : ℕ) (a : Account) : Type 0 where
  pub held : a.held.items ≡ holders_at e.graph false i
  pub kept : a.kept.items ≡ holders_at e.graph true i
  pub why : IsWhyAt e came date i a.why
  pub retained : RetainsAt e.graph i a.retained

-- what is kept to tell one object after another
pub record AreAccounts (e : Ending) (a : Accounts) : Type 0 where
  pub from_cycles : IsWalkFrom e.graph (is_field_of e.graph e.cycles.marks.items) a.from_cycles
  pub long : length a.since.items ≡ size e.graph
  pub own : IsFresh (size e.graph) a.own.steps.items a.own.came.items
  pub retained : IsReady e.graph a.retained.missing.items a.retained.passed.items
