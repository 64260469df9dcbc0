-- The lines of a life: what each operation did to an object (profile of this project).
use Rattle.std.specs.Prelude.{ℕ, ◌==◌, List, [], ◌∷◌, ◌++◌, codes, decimal, Option, Some, None, Bool, true, false, slice_get, if◌then◌else◌}
use Rattle.trace_types.specs.declared.outcomes.Event.{Event}
use Rattle.trace_types.specs.declared.outcomes.Event.TheVariants.{Destroyed, Unwrapped, Moved, Freed}
use Rattle.trace_types.specs.Names.{name_text, name_of_kind}
use Rattle.trace_types.specs.Operation.{Operation}
use Rattle.retention_model.specs.declared.mark.Mark.{Mark}
use Rattle.retention_model.specs.declared.mark.Mark.TheVariants.{Lost, Gained, Ended}
use Rattle.retention_model.specs.declared.mark.Marked.{Marked}
use Rattle.retention_text.specs.Pieces.{place_text}

-- what became of it
abbrev pub event_text : Event → List ℕ
event_text (Destroyed o) = codes " destroyed"
event_text (Unwrapped o) = codes " unwrapped"
event_text (Moved o) = codes " moved"
event_text (Freed o) = codes " freed"

-- before the place of a weak slot
abbrev pub weak_text : Bool → List ℕ
weak_text true = codes "weak "
weak_text false = []

-- a mark: ` +handle 3`, ` -weak field 5.0`, ` destroyed`
abbrev pub mark_text : Mark → List ℕ
mark_text (Lost place is_weak) = codes " -" ++ (weak_text is_weak ++ place_text place)
mark_text (Gained place is_weak) = codes " +" ++ (weak_text is_weak ++ place_text place)
mark_text (Ended event) = event_text event

-- how the line of an operation begins, with the counts after it: `  4 drop 0/0`
abbrev pub head_text : Operation → Marked → List ℕ
head_text op x = codes "  " ++ decimal op.id ++ codes " " ++ name_text (name_of_kind op.kind) ++ codes " " ++ decimal x.strong ++ codes "/" ++ decimal x.weak

-- the same of the operation at the position of the mark
abbrev pub line_head : Option Operation → Marked → List ℕ
line_head None x = []
line_head (Some op) x = head_text op x

-- the end of a line, where one was begun
abbrev pub line_end : Option ℕ → List ℕ
line_end None = []
line_end (Some position) = 10 ∷ []

-- whether this is the position of the last mark
abbrev pub is_at : Option ℕ → ℕ → Bool
is_at None position = false
is_at (Some last) position = last == position

-- a mark of another operation than the last one begins a line
abbrev pub line_start : List Operation → Option ℕ → Marked → List ℕ
line_start ops last x = if is_at last x.position then [] else line_end last ++ line_head (slice_get ops x.position) x

-- the rest of the lines of a life, after a mark at the last position
abbrev pub lines_from : List Operation → Option ℕ → List Marked → List ℕ
lines_from ops last [] = line_end last
lines_from ops last (x ∷ xs) = line_start ops last x ++ (mark_text x.mark ++ lines_from ops (Some x.position) xs)

-- the lines of a life, by its marks: those of one operation stand in one line, as in `  4 drop 0/0 -handle 1 destroyed freed`
abbrev pub life_lines : List Operation → List Marked → List ℕ
life_lines ops life = lines_from ops None life
