-- The canonical line of an operation: the compact text of its JSON object, whose members stand in the order of the bytes of
-- their names (serde_json's compact text; its Map is sorted by key). The canonical lines of a trace are these, each with a
-- newline.
use Rattle.std.specs.Prelude.{ℕ, List, [], ◌∷◌, ◌++◌, map, codes, Option, Some, None, Result}
use Rattle.std.specs.List.{flat_map}
use Rattle.serde_json.specs.Data.{Data, null, number, unsigned, string, array, object, Items, Members, no_members, member}
use Rattle.serde_json.specs.View.{items_of}
use Rattle.serde_json.specs.Written.{compact_text}
use Rattle.trace_types.specs.Members.{Value}
use Rattle.trace_types.specs.Members as table
use Rattle.trace_types.specs.Names.{name_text, name_of_kind}
use Rattle.trace_types.specs.Operation.{Operation}
use Rattle.trace_types.specs.declared.kinds.Field.{Field}
use Rattle.trace_types.specs.declared.kinds.Field.TheVariants.{Held, Null, Me}
use Rattle.trace_types.specs.declared.kinds.Kind.{Kind}
use Rattle.trace_reader.specs.declared.fault.LineCause.{LineCause}
use Rattle.trace_reader.specs.Members.{◌>>=◌}
use Rattle.trace_reader.specs.Reading.{json_of, read_op}

-- a number as JSON, written in decimal digits: `3`
abbrev pub natural : ℕ → Data
natural n = number (unsigned n)

-- a member that is a number, in front of others: `"id":3`
abbrev pub number_member : List ℕ → ℕ → Members → Members
number_member name n ms = member name (natural n) ms

-- an element of `fields` as JSON: a handle's number, null for an empty pointer, or the text `me`
abbrev pub field_data : Field → Data
field_data (Held h) = natural h
field_data Null = null
field_data Me = string (codes "me")

-- the elements of the array `fields`, in order
abbrev pub fields_data : List Field → Items
fields_data fields = items_of (map field_data fields)

-- a member in front of others, where it is there
abbrev pub with_value : List ℕ → Option Value → Members → Members
with_value name None ms = ms
with_value name (Some (table.Handle h)) ms = number_member name h ms
with_value name (Some (table.PerhapsHandle None)) ms = ms
with_value name (Some (table.PerhapsHandle (Some h))) ms = number_member name h ms
with_value name (Some (table.Cell c)) ms = number_member name c ms
with_value name (Some (table.Index i)) ms = number_member name i ms
with_value name (Some (table.Fields fields)) ms = member name (array (fields_data fields)) ms
with_value name (Some (table.CyclicFields fields)) ms = member name (array (fields_data fields)) ms

-- the members of these names, in front of others
abbrev pub with_members : List (List ℕ) → Kind → Members → Members
with_members [] k ms = ms
with_members (name ∷ names) k ms = with_value name (table.value_of name (table.members k)) (with_members names k ms)

-- the names that come before `id`, in the order of their bytes
abbrev pub names_before : List (List ℕ)
names_before = codes "a" ∷ codes "b" ∷ codes "c" ∷ codes "desired" ∷ codes "expected" ∷ codes "fields" ∷ codes "from" ∷ codes "h" ∷ codes "i" ∷ []

-- the members before `id`, and then the others
abbrev pub members_before : Kind → Members → Members
members_before k ms = with_members names_before k ms

-- the members whose names come after `t`
abbrev pub members_after : Kind → Members
members_after k = with_members (codes "to" ∷ []) k no_members

-- all members of an operation, in the order of the bytes of their names
unfoldable pub members_of : Operation → Members
members_of op = members_before op.kind (number_member (codes "id") op.id (member (codes "op") (string (name_text (name_of_kind op.kind))) (number_member (codes "t") op.thread (members_after op.kind))))

-- an operation as JSON
abbrev pub data_of : Operation → Data
data_of op = object (members_of op)

-- its canonical line, without the newline
abbrev pub line_of : Operation → List ℕ
line_of op = compact_text (data_of op)

-- the operation that a line is read as
abbrev pub op_of_line : List ℕ → Result Operation LineCause
op_of_line line = json_of line >>= read_op

-- the canonical lines of these operations
abbrev pub lines_text : List Operation → List ℕ
lines_text ops = flat_map (λ op. line_of op ++ 10 ∷ []) ops
