-- The pieces of a canonical line, as they are written: `Writing` says what the line is.
use Rattle.std.specs.Prelude.{ℕ, List, [], ◌∷◌, ◌++◌, codes, decimal, Bool, true, false, Option, Some, None}
use Rattle.std.specs.List.{flat_map}
use Rattle.std.specs.Option.{option_map}
use Rattle.serde_json.specs.Written.{comma_if}
use Rattle.trace_types.specs.Members.{Value}
use Rattle.trace_types.specs.Members as table
use Rattle.trace_types.specs.Names.{name_text, name_of_kind}
use Rattle.trace_types.specs.Operation.{Operation}
use Rattle.trace_types.specs.declared.kinds.Field.{Field}
use Rattle.trace_types.specs.declared.kinds.Field.TheVariants.{Held, Null, Me}
use Rattle.trace_types.specs.declared.kinds.Kind.{Kind}
use Rattle.trace_reader.specs.Writing.{names_before}

-- a member in front of others: `"from":3,`
unfoldable pub text_ahead : List ℕ → List ℕ → List ℕ
text_ahead name value = codes "\"" ++ name ++ codes "\":" ++ value ++ codes ","

-- a member behind others: `,"to":3`
abbrev pub text_behind : List ℕ → List ℕ → List ℕ
text_behind name value = codes ",\"" ++ name ++ codes "\":" ++ value

-- an element of `fields`: `3`, `null` or `"me"`
abbrev pub field_text : Field → List ℕ
field_text (Held h) = decimal h
field_text Null = codes "null"
field_text Me = codes "\"me\""

-- the elements with the closing bracket, after a comma where others stand before
abbrev pub elements_text : Bool → List Field → List ℕ
elements_text later [] = codes "]"
elements_text later (field ∷ fields) = comma_if later ++ (field_text field ++ elements_text true fields)

-- the elements as an array: `[3,null]`
abbrev pub fields_text : List Field → List ℕ
fields_text fields = codes "[" ++ elements_text false fields

-- the value of a member, where one is written
abbrev pub value_text : Option Value → Option (List ℕ)
value_text None = None
value_text (Some (table.Handle h)) = Some (decimal h)
value_text (Some (table.PerhapsHandle h)) = option_map decimal h
value_text (Some (table.Cell c)) = Some (decimal c)
value_text (Some (table.Index i)) = Some (decimal i)
value_text (Some (table.Fields fields)) = Some (fields_text fields)
value_text (Some (table.CyclicFields fields)) = Some (fields_text fields)

-- the text of a value, if one is written
abbrev pub text_if : (List ℕ → List ℕ) → Option (List ℕ) → List ℕ
text_if text None = []
text_if text (Some value) = text value

-- the value of the member of that name, where one is written
abbrev pub value_at : List ℕ → Kind → Option (List ℕ)
value_at name k = value_text (table.value_of name (table.members k))

-- the members of these names, in front of others
abbrev pub texts_ahead : List (List ℕ) → Kind → List ℕ
texts_ahead names k = flat_map (λ name. text_if (text_ahead name) (value_at name k)) names

-- the members before `id`
abbrev pub text_before : Kind → List ℕ
text_before k = texts_ahead names_before k

-- the member `to`, behind others
abbrev pub to_text : Option (List ℕ) → List ℕ
to_text value = text_if (text_behind (codes "to")) value

-- the members after `t`
abbrev pub text_after : Kind → List ℕ
text_after k = to_text (value_at (codes "to") k)

-- the members of every operation
abbrev pub text_between : Operation → List ℕ
text_between op = codes "\"id\":" ++ decimal op.id ++ codes ",\"op\":\"" ++ name_text (name_of_kind op.kind) ++ codes "\",\"t\":" ++ decimal op.thread

-- the whole line, without its newline: `{"h":0,"id":3,"op":"drop","t":0}`
unfoldable pub line_text : Operation → List ℕ
line_text op = codes "{" ++ text_before op.kind ++ text_between op ++ text_after op.kind ++ codes "}"
