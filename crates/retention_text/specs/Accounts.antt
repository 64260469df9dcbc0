-- The lines of an object that is there: what holds it, why it is there, and what it retains (profile of this project).
use Rattle.std.specs.Prelude.{ℕ, List, [], ◌∷◌, ◌++◌, codes, decimal, flat_map, Option, Some, None}
use Rattle.retention_model.specs.declared.place.Place.{Place}
use Rattle.retention_model.specs.declared.place.Place.TheVariants.{Handle, Cell, Field}
use Rattle.retention_model.specs.declared.place.Held.{Held}
use Rattle.retention_model.specs.declared.account.Account.{Account}
use Rattle.retention_model.specs.declared.account.Why.{Why}
use Rattle.retention_model.specs.declared.account.Why.TheVariants.{Husk, Reached, InCycle, Under}
use Rattle.retention_text.specs.Pieces.{held_text}

-- the places of a way
abbrev pub through_text : List Held → List ℕ
through_text way = flat_map (held_text (codes "    through ")) way

-- the way from handles and cells, whose first place has a line of its own kind
abbrev pub reached_text : List Held → List ℕ
reached_text [] = []
reached_text (first ∷ further) = held_text (codes "  reached by ") first ++ through_text further

-- the object of which a place is a field
abbrev pub field_owner_text : Place → List ℕ
field_owner_text (Handle h i) = []
field_owner_text (Cell c) = []
field_owner_text (Field o i) = decimal o

-- the object with whose field a way begins
abbrev pub owner_text : List Held → List ℕ
owner_text [] = []
owner_text (first ∷ further) = field_owner_text first.place

-- where it is in a cycle of so many objects, and where it is under one
abbrev pub in_cycle_text : (since : ℕ) → List Held → (size : ℕ) → List ℕ
in_cycle_text since way size = codes "  leaked since " ++ decimal since ++ codes " in a cycle among " ++ decimal size ++ codes " objects\n" ++ through_text way

abbrev pub under_text : (since : ℕ) → List Held → List ℕ
under_text since way = codes "  leaked since " ++ decimal since ++ codes " under " ++ owner_text way ++ 10 ∷ through_text way

-- why it is there
abbrev pub why_text : Why → List ℕ
why_text Husk = codes "  husk\n"
why_text (Reached way) = reached_text way.items
why_text (InCycle since way size) = in_cycle_text since way.items size
why_text (Under since way) = under_text since way.items

-- how many objects it retains, where it is alive
abbrev pub retained_text : Option ℕ → List ℕ
retained_text None = []
retained_text (Some count) = codes "  retains " ++ decimal count ++ codes " objects\n"

-- the places that hold it, those that keep no more than its allocation, why it is there, and what it retains
abbrev pub account_text : Account → List ℕ
account_text a =
    flat_map (held_text (codes "  held by ")) a.held.items ++ flat_map (held_text (codes "  kept by weak ")) a.kept.items ++ why_text a.why ++ retained_text a.retained
