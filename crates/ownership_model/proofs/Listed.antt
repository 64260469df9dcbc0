-- A replay over plain lists in place of finite maps, since these compute: so outcomes of whole traces are found by
-- computation. `ListedLemmas` shows that it is the replay.
use Rattle.std.specs.Prelude.{ℕ, zero, suc, ◌+◌, ◌==◌, List, [], ◌∷◌, ◌++◌, length, Option, Some, None, ◌&&◌, if◌then◌else◌, option_to_list}
use Rattle.trace_types.specs.declared.slots.Slot.{Slot}
use Rattle.trace_types.specs.declared.slots.Slot.TheVariants.{Nothing, Strong, Weak, Dangling}
use Rattle.trace_types.specs.declared.slots.Holding.{Holding}
use Rattle.trace_types.specs.declared.slots.Entry.{Entry}
use Rattle.trace_types.specs.declared.slots.Entry.TheVariants.{Alive, Husk}
use Rattle.trace_types.specs.declared.slots.Item.{Item}
use Rattle.trace_types.specs.declared.slots.Item.TheVariants as item
use Rattle.trace_types.specs.declared.slots.Change.{Change}
use Rattle.trace_types.specs.declared.slots.Change.TheVariants.{SetHandle, EndHandle, SetCell, EndCell, SetField, Make, TurnHusk}
use Rattle.trace_types.specs.declared.kinds.Field.{Field}
use Rattle.trace_types.specs.declared.kinds.Field.TheVariants as field
use Rattle.trace_types.specs.declared.outcomes.Answer.{Answer}
use Rattle.trace_types.specs.declared.outcomes.Event.{Event}
use Rattle.trace_types.specs.declared.outcomes.Event.TheVariants as event
use Rattle.trace_types.specs.declared.outcomes.Outcome.{Outcome}
use Rattle.trace_types.specs.declared.outcomes.Counts.{Counts}
use Rattle.trace_types.specs.declared.outcomes.Verdict.TheVariants.{Did, Skipped}
use Rattle.trace_types.specs.Operation.{Operation}
use Rattle.ownership_model.specs.Totals.{total_in}
use Rattle.ownership_model.specs.State.{holding_weight, entry_weight, items_weight, names_alike, ends}
use Rattle.ownership_model.specs.Release.{Fate, Stays, Falls, Goes, fall, is_husk, drops, alive_size}
use Rattle.trace_types.specs.declared.slots.Scoped.{Scoped}
use Rattle.ownership_model.specs.Scopes.{scope_of, kept_or_entered, left}
use Rattle.ownership_model.specs.Changes.{with_field}
use Rattle.ownership_model.specs.View.{Members, members, Element, Read, Null, Me, Seen, View, named_in}
use Rattle.ownership_model.specs.Table.{row}
use Rattle.ownership_model.specs.declared.plan.Plan.{Plan}
use Rattle.ownership_model.specs.declared.plan.Plan.TheVariants.{Skip, Act}

pub record Lists : Type 0 where
  pub handles : List (ℕ × Holding)
  pub cells : List (ℕ × Slot)
  pub objects : List (ℕ × Entry)
  pub scopes : List Scoped

abbrev pub look : {X : Type 0} → ℕ → List (ℕ × X) → Option X
look k [] = None
look k (e ∷ es) = if e.0 == k then Some e.1 else look k es

abbrev pub cut : {X : Type 0} → ℕ → List (ℕ × X) → List (ℕ × X)
cut k [] = []
cut k (e ∷ es) = if e.0 == k then cut k es else e ∷ cut k es

abbrev pub set : {X : Type 0} → ℕ → X → List (ℕ × X) → List (ℕ × X)
set k x es = (k, x) ∷ cut k es

abbrev pub count : Slot → Lists → List Item → ℕ
count s m p = total_in (holding_weight (names_alike s)) m.handles + total_in (names_alike s) m.cells + total_in (entry_weight (names_alike s)) m.objects + items_weight (names_alike s) p

abbrev pub fate_in : Lists → Item → List Item → Fate
fate_in m (item.Slot Nothing) rest = Stays
fate_in m (item.Slot Dangling) rest = Stays
fate_in m (item.Slot (Strong o)) rest = if count (Strong o) m rest == 0 then fall o (look o m.objects) else Stays
fate_in m (item.Slot (Weak o)) rest = if count (Weak o) m rest == 0 && (is_husk (look o m.objects) && (ends o rest == 0)) then Goes o else Stays
fate_in m (item.End o) rest = if count (Weak o) m rest == 0 then Goes o else Stays

pub record Left : Type 0 where
  pub state : Lists
  pub events : List Event
  pub pending : List Item

abbrev pub meet_in : Lists → List Item → Fate → Left
meet_in m rest Stays = record { state = m; events = []; pending = rest }
meet_in m rest (Falls o fields) = record { state = record m { objects = set o Husk m.objects }; events = event.Destroyed o ∷ []; pending = drops fields (item.End o ∷ rest) }
meet_in m rest (Goes o) = record { state = record m { objects = cut o m.objects }; events = event.Freed o ∷ []; pending = rest }

pub record Ended : Type 0 where
  pub state : Lists
  pub events : List Event

abbrev pub more_events : List Event → Ended → Ended
more_events es x = record { state = x.state; events = es ++ x.events }

-- the events es come first
abbrev pub dropped_in : ℕ → Lists → List Event → List Item → Ended
dropped_in n m es [] = record { state = m; events = es }
dropped_in zero m es (x ∷ xs) = record { state = m; events = es }
dropped_in (suc n) m es (x ∷ xs) = more_events es (let d = meet_in m xs (fate_in m x xs) in dropped_in n d.state d.events d.pending)

abbrev pub change_in : Lists → Change → Lists
change_in m (SetHandle t h x) = record m { handles = set h x m.handles; scopes = kept_or_entered (look h m.handles) t h m.scopes }
change_in m (EndHandle h) = record m { handles = cut h m.handles; scopes = left h m.scopes }
change_in m (SetCell c s) = record m { cells = set c s m.cells }
change_in m (EndCell c) = record m { cells = cut c m.cells }
change_in m (SetField o i s) = record m { objects = set o (with_field (look o m.objects) i s) m.objects }
change_in m (Make o fields) = record m { objects = set o (Alive fields) m.objects }
change_in m (TurnHusk o) = record m { objects = set o Husk m.objects }

abbrev pub changes_in : Lists → List Change → Lists
changes_in m [] = m
changes_in m (c ∷ cs) = changes_in (change_in m c) cs

abbrev pub look_if : {X : Type 0} → Option ℕ → List (ℕ × X) → Option X
look_if None es = None
look_if (Some k) es = look k es

abbrev pub elements_in : Lists → List Field → List Element
elements_in m [] = []
elements_in m (field.Held h ∷ fs) = Read h (look h m.handles) ∷ elements_in m fs
elements_in m (field.Null ∷ fs) = Null ∷ elements_in m fs
elements_in m (field.Me ∷ fs) = Me ∷ elements_in m fs

abbrev pub seen_in : Lists → Option ℕ → Seen
seen_in m None = record { entry = None; strong = 0; weak = 0 }
seen_in m (Some o) = record { entry = look o m.objects; strong = count (Strong o) m []; weak = count (Weak o) m [] }

abbrev pub view_in : Lists → Members → View
view_in m a = record {
  first = look_if a.first m.handles;
  second = look_if a.second m.handles;
  cell = look_if a.cell m.cells;
  elements = elements_in m a.fields;
  object = seen_in m (named_in (look_if a.first m.handles));
}

abbrev pub counts_in : Lists → Option ℕ → Option Counts
counts_in m None = None
counts_in m (Some o) = Some (record { object = o; strong = count (Strong o) m []; weak = count (Weak o) m [] })

pub record Stepped : Type 0 where
  pub state : Lists
  pub outcome : Outcome

abbrev pub finished : ℕ → Answer → Option Event → Option ℕ → Ended → Stepped
finished id answer event object x = record { state = x.state; outcome = record { id = id; verdict = Did answer; events = option_to_list event ++ x.events; counts = counts_in x.state object } }

abbrev pub cascade_in : Lists → List Item → Ended
cascade_in m pending = dropped_in (total_in alive_size m.objects + length pending) m [] pending

abbrev pub carried_in : Lists → ℕ → Plan → Stepped
carried_in m id (Skip reason) = record { state = m; outcome = record { id = id; verdict = Skipped reason; events = []; counts = None } }
carried_in m id (Act answer changes event pending object) = finished id answer event object (cascade_in (changes_in m changes) pending)

abbrev pub step_in : Lists → Operation → Stepped
step_in m op = carried_in m op.id (row op (view_in m (members (scope_of op.thread m.scopes) op.kind)))

-- the outcomes done so far, and those of the operations
abbrev pub told_after : List Outcome → Lists → List Operation → List Outcome
told_after done m [] = done
told_after done m (op ∷ ops) = let s = step_in m op in told_after (done ++ s.outcome ∷ []) s.state ops

abbrev pub nothing_listed : Lists
nothing_listed = record { handles = []; cells = []; objects = []; scopes = [] }

abbrev pub told : List Operation → List Outcome
told ops = told_after [] nothing_listed ops
