-- The text of `picture` (profile of this project).
use Rattle.std.specs.Prelude.{ℕ, ◌≡◌, ◌==◌, ◌↔◌, List, [], ◌∷◌, ◌++◌, codes, flat_map, filter, Option, Some, None, Bool, true, false, is_some, ◌&&◌, unwrap_or, if◌then◌else◌}
use Rattle.std.specs.FinMap.{get, keys}
use Rattle.trace_types.specs.Operation.{Operation}
use Rattle.trace_types.specs.Slots.{named_by}
use Rattle.trace_types.specs.declared.slots.Slot.TheVariants.{Nothing}
use Rattle.ownership_model.specs.State.{State, nothing_held, strong, weak}
use Rattle.ownership_model.specs.Release.{is_husk}
use Rattle.ownership_model.specs.Leaks.{IsLeaked}
use Rattle.ownership_model.specs.Reach.{has}
use Rattle.ownership_model.specs.Step.{end_from}
use Rattle.retention_model.specs.declared.place.Place.{Place}
use Rattle.retention_model.specs.declared.place.Place.TheVariants.{Handle, Cell, Field}
use Rattle.retention_model.specs.Places.{at, places_of}
use Rattle.retention_model.specs.Since.{since_from}
use Rattle.retention_model.specs.Cycles.{AreInOneCycle}
use Rattle.retention_model.specs.Shown.{IsOfInterest, IsShown}
use Rattle.retention_model.specs.declared.totals.Totals.{Totals}
use Rattle.retention.specs.Told.{is_weak_to}
use Rattle.retention.specs.Ends.{AreTotals}
use Rattle.retention_text.specs.Pictures.{head_text, root_text, object_text, edge_text}
use Rattle.retention_report.specs.Explained.{missing_text}

-- what is asked for: the objects given, or what leaked and the husks
abbrev pub Asked : State → List ℕ → ℕ → Type 0
Asked m [] p = IsOfInterest m p
Asked m (o ∷ os) p = has p (o ∷ os) ≡ true

-- which objects are shown
abbrev pub Shows : Bool → State → List ℕ → (ℕ → Bool) → Type 0
Shows true m os k = (p : ℕ) → k p ≡ is_some (get m.objects p)
Shows false m os k = (p : ℕ) → (k p ≡ true) ↔ IsShown m (Asked m os) p

-- which objects are told as leaked, and which pairs as in one cycle
pub record Sorts (m : State) (leaked : ℕ → Bool) (joined : ℕ → ℕ → Bool) : Type 0 where
  pub each_leaked : (o : ℕ) → (leaked o ≡ true) ↔ IsLeaked m o
  pub each_joined : (o p : ℕ) → (joined o p ≡ true) ↔ AreInOneCycle m o p

-- Places, where k are the objects that are shown.

-- whether a place is one of a root, or a field of a shown object
abbrev pub stands_in_shown : (ℕ → Bool) → Place → Bool
stands_in_shown k (Handle h i) = true
stands_in_shown k (Cell c) = true
stands_in_shown k (Field o i) = k o

-- whether the object that a place names is shown
abbrev pub names_shown : (ℕ → Bool) → Option ℕ → Bool
names_shown k None = false
names_shown k (Some o) = k o

-- the handle or cell that a place is in; none for a field of an object
abbrev pub roots_of : Place → List Place
roots_of (Handle h i) = Handle h None ∷ []
roots_of (Cell c) = Cell c ∷ []
roots_of (Field o i) = []

-- whether a handle or cell is another
abbrev pub is_root_at : Place → Place → Bool
is_root_at (Handle h i) (Handle g j) = h == g
is_root_at (Handle h i) (Cell d) = false
is_root_at (Handle h i) (Field p j) = false
is_root_at (Cell c) (Handle g j) = false
is_root_at (Cell c) (Cell d) = c == d
is_root_at (Cell c) (Field p j) = false
is_root_at (Field o i) q = false

-- each once, where equal ones stand next to each other
abbrev pub once : List Place → List Place
once [] = []
once (p ∷ []) = p ∷ []
once (p ∷ q ∷ ps) = if is_root_at p q then once (q ∷ ps) else p ∷ once (q ∷ ps)

-- whether the slot is a field of an object of the same cycle as what it names
abbrev pub is_bold : (ℕ → ℕ → Bool) → Place → ℕ → Bool
is_bold joined (Handle h i) o = false
is_bold joined (Cell c) o = false
is_bold joined (Field p i) o = joined p o

-- Of a trace with the end m; k are the objects that are shown.
module _ (ops : List Operation) (m : State) (k : ℕ → Bool) (leaked : ℕ → Bool) (joined : ℕ → ℕ → Bool) where
  -- the object that a place names
  abbrev pub named_at : Place → Option ℕ
  named_at p = named_by (unwrap_or (at m p) Nothing)

  -- the places that are drawn, in order
  abbrev pub drawn : List Place
  drawn = filter (λ p. stands_in_shown k p && names_shown k (named_at p)) (places_of m)

  -- the line of a slot
  abbrev pub slot_line : Place → List ℕ
  slot_line p =
      let o : ℕ = unwrap_or (named_at p) 0 in
      edge_text p o (since_from nothing_held ops p 0) (is_weak_to o (at m p)) (is_bold joined p o)

  -- the line of an object, where os were given
  abbrev pub object_line : List ℕ → ℕ → List ℕ
  object_line os o = object_text o (strong m [] o) (weak m [] o) (leaked o) (is_husk (get m.objects o)) (has o os)

  -- the whole
  abbrev pub picture_text : Totals → List ℕ → List ℕ
  picture_text totals os =
      head_text totals ++ flat_map root_text (once (flat_map roots_of drawn)) ++ flat_map (object_line os) (filter k (keys m.objects))
      ++ flat_map slot_line drawn ++ codes "}\n"

-- the first number of the list that is none of an object at the end
abbrev pub first_gone : State → List ℕ → Option ℕ
first_gone m [] = None
first_gone m (o ∷ os) = if is_some (get m.objects o) then first_gone m os else Some o

-- the text, and whether it tells a number that is none
abbrev pub IsPictureOf : Bool → List Operation → State → List ℕ → Option ℕ → List ℕ → Bool → Type 0
IsPictureOf with_all ops m os (Some o) text is_missing = (text ≡ missing_text o) × (is_missing ≡ true)
IsPictureOf with_all ops m os None text is_missing =
    ((k : ℕ → Bool) × (leaked : ℕ → Bool) × (joined : ℕ → ℕ → Bool) × (totals : Totals)
    × Shows with_all m os k × Sorts m leaked joined × AreTotals m totals × (text ≡ picture_text ops m k leaked joined totals os))
    × (is_missing ≡ false)

-- the same of the trace and the numbers given
abbrev pub Pictures : Bool → List Operation → List ℕ → List ℕ → Bool → Type 0
Pictures with_all ops os text is_missing = IsPictureOf with_all ops (end_from nothing_held ops) os (first_gone (end_from nothing_held ops) os) text is_missing
