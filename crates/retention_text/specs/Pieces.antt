-- The text of places and totals (profile of this project).
use Rattle.std.specs.Prelude.{ℕ, List, [], ◌∷◌, ◌++◌, codes, decimal, Option, Some, None}
use Rattle.retention_model.specs.declared.place.Place.{Place}
use Rattle.retention_model.specs.declared.place.Place.TheVariants.{Handle, Cell, Field}
use Rattle.retention_model.specs.declared.place.Held.{Held}
use Rattle.retention_model.specs.declared.totals.Totals.{Totals}

-- `.1`, where there is a field
abbrev pub index_text : Option ℕ → List ℕ
index_text None = []
index_text (Some i) = codes "." ++ decimal i

-- a place by its kind and numbers: `handle 3`, `handle 3.1`, `cell 0`, `field 5.0`
abbrev pub place_text : Place → List ℕ
place_text (Handle h i) = codes "handle " ++ decimal h ++ index_text i
place_text (Cell c) = codes "cell " ++ decimal c
place_text (Field o i) = codes "field " ++ decimal o ++ codes "." ++ decimal i

-- a line with a place, and since when it holds what it does, behind a label: `  held by handle 3 since 7`
abbrev pub held_text : List ℕ → Held → List ℕ
held_text label held = label ++ place_text held.place ++ codes " since " ++ decimal held.since ++ 10 ∷ []

-- how many objects leaked, how many cycles they form, and how many husks are left: `total 2 leaks 1 cycles 0 husks`
abbrev pub totals_text : Totals → List ℕ
totals_text t = codes "total " ++ decimal t.leaks ++ codes " leaks " ++ decimal t.cycles ++ codes " cycles " ++ decimal t.husks ++ codes " husks"
