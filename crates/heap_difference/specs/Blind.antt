-- Whether operations, as their outcomes tell, read of some objects only what is the same in two states (profile of this project).
use Rattle.std.specs.Prelude.{ℕ, ◌^◌, nat_lt, ◌&&◌, ◌||◌, List, [], ◌∷◌, Option, Some, None, Bool, true, false, not}
use Rattle.std.specs.List.{list_any}
use Rattle.trace_types.specs.declared.kinds.Kind.{Kind}
use Rattle.trace_types.specs.declared.outcomes.Answer.{Answer}
use Rattle.trace_types.specs.declared.outcomes.Answer.TheVariants as answer
use Rattle.trace_types.specs.declared.outcomes.Event.{Event}
use Rattle.trace_types.specs.declared.outcomes.Verdict.{Verdict}
use Rattle.trace_types.specs.declared.outcomes.Verdict.TheVariants.{Did, Skipped}
use Rattle.trace_types.specs.declared.outcomes.Counts.{Counts}
use Rattle.trace_types.specs.declared.outcomes.Outcome.{Outcome}
use Rattle.trace_types.specs.Operation.{Operation}
use Rattle.ownership_model.specs.Touched.{event_object}
use Rattle.ownership_model.specs.Near.{asks_counts, copies_fields, field_index}
use Rattle.object_heap.specs.declared.put.FieldPut.{FieldPut}
use Rattle.heap_difference.specs.declared.shifts.Shift.{Shift}
use Rattle.heap_difference.specs.Alikes.{is_alike, is_loose}

-- whether an event names one of the objects
abbrev pub names_alike_event : List Shift → Event → Bool
names_alike_event shifts e = is_alike shifts (event_object e)

-- whether the answer is that a value was cloned
abbrev pub says_cloned : Answer → Bool
says_cloned answer.Cloned = true
says_cloned a = false

abbrev pub did_clone : Verdict → Bool
did_clone (Did a) = says_cloned a
did_clone (Skipped reason) = false

-- whether the operation copied the fields of its object
abbrev pub is_cloned : Kind → Verdict → Bool
is_cloned k v = copies_fields k && did_clone v

-- whether the field, if there is one, is none of these
abbrev pub is_field_blind : List FieldPut → ℕ → Option ℕ → Bool
is_field_blind fields o None = true
is_field_blind fields o (Some i) = not (is_loose fields o i)

-- whether counts may be told with others added to them: no count is as great as this, but here that isn't known
abbrev pub are_small : Counts → Bool
are_small c = nat_lt c.strong (2 ^ 62) && nat_lt c.weak (2 ^ 62)

-- whether an operation that tells these counts reads none of their object, if it is one of these, and no field that differs
abbrev pub is_blind_to : List Shift → List FieldPut → Kind → Option Counts → Bool
is_blind_to shifts fields k None = true
is_blind_to shifts fields k (Some c) = not (is_alike shifts c.object) || (are_small c && (not (asks_counts k) && is_field_blind fields c.object (field_index k)))

abbrev pub is_blind : List Shift → List FieldPut → Operation → Outcome → Bool
is_blind shifts fields op x =
    not (list_any (names_alike_event shifts) x.events) && (not (is_cloned op.kind x.verdict) && is_blind_to shifts fields op.kind x.counts)

-- so it is of operations with their outcomes
abbrev pub are_blind : List Shift → List FieldPut → List Operation → List Outcome → Bool
are_blind shifts fields [] xs = true
are_blind shifts fields (op ∷ ops) [] = true
are_blind shifts fields (op ∷ ops) (x ∷ xs) = is_blind shifts fields op x && are_blind shifts fields ops xs
