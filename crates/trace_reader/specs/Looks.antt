-- What the reader keeps of a value, and of the members of an object: as much as an operation asks of them (profile of this
-- project). Private functions alone speak of it; `Reading` says what an operation is without it.
use Rattle.std.specs.Prelude.{◌≡◌, ◌≢◌, ℕ, List, [], ◌∷◌, ◌++◌, length, get_or, codes, nat_le, Bool, true, false, Option, Some, None, option_map, option_and_then, ok_or, Result, Ok, Err, if◌then◌else◌}
use Rattle.json.specs.Json as json
use Rattle.json.specs.Token.{Token}
use Rattle.serde_json.specs.Data.{Num, unsigned, negative, float, Data, null, boolean, number, string, array, object, Items, no_items, item, Members}
use Rattle.serde_json.specs.Find.{get_member, as_array}
use Rattle.std.specs.Str.{is_utf8}
use Rattle.json.specs.Lex.{tokens}
use Rattle.serde_json.specs.Read.{of_json, of_items, of_members, converted, max_depth}
use Rattle.trace_types.specs.declared.kinds.Field.{Field}
use Rattle.trace_types.specs.declared.kinds.Field.TheVariants.{Held, Null, Me}
use Rattle.trace_types.specs.declared.limits.TheConstants.{MAX_NAME, MAX_FIELDS}
use Rattle.trace_types.specs.Names as Names
use Rattle.trace_types.specs.declared.names.OpName.{OpName}
use Rattle.trace_reader.specs.declared.fault.LineCause.{LineCause}
use Rattle.trace_reader.specs.declared.fault.LineCause.TheVariants.{NotJson, WrongType, Missing, OutOfRange}
use Rattle.trace_reader.specs.declared.names.NumberName.{NumberName}
use Rattle.trace_reader.specs.declared.names.NumberName.TheVariants as names
use Rattle.trace_reader.specs.declared.names.MemberName.{MemberName}
use Rattle.trace_reader.specs.declared.names.MemberName.TheVariants as member
use Rattle.trace_reader.specs.declared.member_slots.KeptNumber.{KeptNumber}
use Rattle.trace_reader.specs.declared.member_slots.KeptNumber.TheVariants as kept_number
use Rattle.trace_reader.specs.declared.member_slots.KeptText.{KeptText}
use Rattle.trace_reader.specs.declared.member_slots.KeptText.TheVariants as kept_text
use Rattle.trace_reader.specs.declared.member_slots.KeptElements.{KeptElements}
use Rattle.trace_reader.specs.declared.member_slots.KeptElements.TheVariants as kept_elements
use Rattle.trace_reader.specs.declared.member_slots.MemberSlots.{MemberSlots}
use Rattle.trace_reader.specs.declared.look.Seen.{Seen}
use Rattle.trace_reader.specs.declared.look.Seen.TheVariants as seen
use Rattle.trace_reader.specs.Members.{◌>>=◌, within, field_of, field_named}

-- ---- names

-- how the name of a member that is a number is written
abbrev pub number_text : NumberName → List ℕ
number_text names.Id = codes "id"
number_text names.Thread = codes "t"
number_text names.To = codes "to"
number_text names.From = codes "from"
number_text names.Handle = codes "h"
number_text names.Index = codes "i"
number_text names.Cell = codes "c"
number_text names.First = codes "a"
number_text names.Second = codes "b"
number_text names.Expected = codes "expected"
number_text names.Desired = codes "desired"

-- how the name of a member is written, of those that an operation may ask for
abbrev pub name_text : MemberName → List ℕ
name_text (member.Number name) = number_text name
name_text member.Op = codes "op"
name_text member.Fields = codes "fields"

-- the key is written as the name, or as none that an operation may ask for
abbrev pub IsNamed : List ℕ → Option MemberName → Type 0
IsNamed key None = (name : MemberName) → key ≢ name_text name
IsNamed key (Some name) = key ≡ name_text name

-- the place of a member that is a number, among them
abbrev pub place : NumberName → ℕ
place names.Id = 0
place names.Thread = 1
place names.To = 2
place names.From = 3
place names.Handle = 4
place names.Index = 5
place names.Cell = 6
place names.First = 7
place names.Second = 8
place names.Expected = 9
place names.Desired = 10

-- ---- a value

-- null, a natural number, a text, or another value
pub data Look : Type 0 where
  nothing : Look
  natural : ℕ → Look
  text : List ℕ → Look
  other : Look

-- how a number looks: natural, where it is written as an integer from 0 to 2^64 - 1, and else `other`
abbrev pub number_look : Num → Look
number_look (unsigned n) = natural n
number_look (negative z) = other
number_look (float x) = other

-- how a value looks: an array, an object, a truth value and a number that isn't natural are `other`
abbrev pub look_of : Data → Look
look_of null = nothing
look_of (boolean b) = other
look_of (number n) = number_look n
look_of (string s) = text s
look_of (array ds) = other
look_of (object ms) = other

-- each element as a field of `new_cyclic`
abbrev pub elements_of : Items → List (Result Field LineCause)
elements_of no_items = []
elements_of (item d ds) = field_of true d ∷ elements_of ds

-- the elements of an array; another value has none
abbrev pub listed : Data → Option (List (Result Field LineCause))
listed d = option_map elements_of (as_array d)

-- what a `Seen` tells
abbrev pub told : Seen → Look
told seen.Nothing = nothing
told (seen.Natural n) = natural n
told (seen.Text s) = text s.now
told seen.Other = other

-- ---- the members of an object

-- what is kept of a member that has to be a number, by its look
abbrev pub number_of_look : Look → KeptNumber
number_of_look nothing = kept_number.Nothing
number_of_look (natural n) = kept_number.Natural n
number_of_look (text s) = kept_number.Other
number_of_look other = kept_number.Other

-- the same; None is a missing member
abbrev pub number_kept : Option Look → KeptNumber
number_kept None = kept_number.Missing
number_kept (Some look) = number_of_look look

-- the text that a look tells, if it tells one
abbrev pub text_of : Look → Option (List ℕ)
text_of nothing = None
text_of (natural n) = None
text_of (text s) = Some s
text_of other = None

-- what is kept of `op`: where it is there, its text, if it is one
abbrev pub op_told : KeptText → Option (Option (List ℕ))
op_told kept_text.Missing = None
op_told (kept_text.Text s) = Some (Some s.now)
op_told (kept_text.Named name) = Some (Some (Names.name_text name))
op_told kept_text.Other = Some None

-- what is kept of `fields`: where it is there, its elements, if it is an array
abbrev pub elements_told : KeptElements → Option (Option (List (Result Field LineCause)))
elements_told kept_elements.Missing = None
elements_told (kept_elements.Listed v) = Some (Some v.items)
elements_told kept_elements.Other = Some None

-- what is kept of the member of that name, a number
abbrev pub kept_at : MemberSlots → NumberName → KeptNumber
kept_at kept name = get_or kept.numbers (place name) kept_number.Missing

-- of each name that an operation may ask for, what the object's member is, is kept
pub record Tells (kept : MemberSlots) (ms : Members) : Type 0 where
  pub numbers : (name : NumberName) → kept_at kept name ≡ number_kept (option_map look_of (get_member (number_text name) ms))
  pub op : op_told kept.op ≡ option_map (λ d. text_of (look_of d)) (get_member (codes "op") ms)
  pub fields : elements_told kept.fields ≡ option_map listed (get_member (codes "fields") ms)

-- the number from low to high that is kept, or its fault
abbrev pub number_told : ℕ → ℕ → KeptNumber → Result ℕ LineCause
number_told low high kept_number.Missing = Err Missing
number_told low high kept_number.Nothing = Err WrongType
number_told low high (kept_number.Natural n) = within low high (Some n)
number_told low high kept_number.Other = Err WrongType

-- the handle's number that is kept; there is none where the member is missing or null
abbrev pub perhaps_told : KeptNumber → Result (Option ℕ) LineCause
perhaps_told kept_number.Missing = Ok None
perhaps_told kept_number.Nothing = Ok None
perhaps_told (kept_number.Natural n) = within 0 MAX_NAME (Some n) >>= λ h. Ok (Some h)
perhaps_told kept_number.Other = Err WrongType

-- the text that is kept, or the fault of the member
abbrev pub text_told : Option (Option (List ℕ)) → Result (List ℕ) LineCause
text_told None = Err Missing
text_told (Some o) = ok_or o WrongType

-- the operation that a text names, if it names one, or the fault of the text
abbrev pub named_by : Result (List ℕ) LineCause → Result (Option OpName) LineCause
named_by (Ok s) = Ok (Names.name_of s)
named_by (Err cause) = Err cause

-- ---- the fields of a new object

-- the field of `new_cyclic` that an element is, by its look
abbrev pub field_told : Look → Result Field LineCause
field_told nothing = Ok Null
field_told (natural n) = within 0 MAX_NAME (Some n) >>= λ h. Ok (Held h)
field_told (text s) = field_named true s
field_told other = Err WrongType

-- an element, which was read as one of `new_cyclic`, as the operation takes it: `new` takes no `me`
abbrev pub plain : Bool → Result Field LineCause → Result Field LineCause
plain cyclic (Ok (Held h)) = if nat_le h MAX_NAME then Ok (Held h) else Err OutOfRange
plain cyclic (Ok Null) = Ok Null
plain true (Ok Me) = Ok Me
plain false (Ok Me) = Err WrongType
plain cyclic (Err e) = Err e

-- the fields, after those that were read
abbrev pub fields_of : Bool → List Field → List (Result Field LineCause) → Result (List Field) LineCause
fields_of cyclic done [] = Ok done
fields_of cyclic done (r ∷ rs) = plain cyclic r >>= λ f. fields_of cyclic (done ++ f ∷ []) rs

-- the fields, where there are not too many; that is tried before the elements
abbrev pub few_told : Bool → List (Result Field LineCause) → Result (List Field) LineCause
few_told cyclic rs = if nat_le (length rs) MAX_FIELDS then fields_of cyclic [] rs else Err OutOfRange

-- the fields that are kept, or their first fault; what is no array is of the wrong type
abbrev pub fields_told : Bool → Option (Option (List (Result Field LineCause))) → Result (List Field) LineCause
fields_told cyclic None = Err Missing
fields_told cyclic (Some None) = Err WrongType
fields_told cyclic (Some (Some rs)) = few_told cyclic rs

-- ---- tokens

-- whether an array begins with this token
abbrev pub opens_array : Token → Bool
opens_array Token.begin_object = false
opens_array Token.end_object = false
opens_array Token.begin_array = true
opens_array Token.end_array = false
opens_array (Token.key s) = false
opens_array (Token.string s) = false
opens_array (Token.number s) = false
opens_array (Token.boolean b) = false
opens_array Token.null = false
opens_array Token.bad = false

-- whether an object begins with this token
abbrev pub opens_object : Token → Bool
opens_object Token.begin_object = true
opens_object Token.end_object = false
opens_object Token.begin_array = false
opens_object Token.end_array = false
opens_object (Token.key s) = false
opens_object (Token.string s) = false
opens_object (Token.number s) = false
opens_object (Token.boolean b) = false
opens_object Token.null = false
opens_object Token.bad = false

-- whether the value is an object, as that of each line has to be
abbrev pub is_object : Data → Bool
is_object null = false
is_object (boolean b) = false
is_object (number n) = false
is_object (string s) = false
is_object (array ds) = false
is_object (object ms) = true

-- whether the value is an array
abbrev pub is_array : Data → Bool
is_array null = false
is_array (boolean b) = false
is_array (number n) = false
is_array (string s) = false
is_array (array ds) = true
is_array (object ms) = false

-- the value that these tokens are, as serde_json reads a text of them
abbrev pub read_tokens : List Token → Option Data
read_tokens ts = option_and_then of_json (option_and_then (λ p. json.if_last p.0 p.1) (json.value max_depth ts))

-- the value that comes first in these tokens, in which arrays and objects nest at most `depth` deep, as serde_json reads it; and
-- the tokens behind it
abbrev pub first_value : ℕ → List Token → Option (Data × List Token)
first_value depth ts = converted of_json (json.value depth ts)

-- the elements that come first, with the closing bracket
abbrev pub first_items : ℕ → List Token → Option (Items × List Token)
first_items depth ts = converted of_items (json.items (json.value depth) (length ts) ts)

-- the members `before` and those that come first, with the closing brace
abbrev pub first_members : Members → ℕ → List Token → Option (Members × List Token)
first_members before depth ts = converted (λ js. of_members js before) (json.members (json.value depth) (length ts) ts)

-- the members, where no token is left
abbrev pub all_members : Option (Members × List Token) → Option Members
all_members None = None
all_members (Some (ms, [])) = Some ms
all_members (Some (ms, t ∷ ts)) = None

-- the members of a line's object, of which the first ones are `before`, and these tokens the others with the closing brace
unfoldable pub members_from : Members → List Token → Option Members
members_from before ts = all_members (first_members before 126 ts)

-- the value of a line, of whose object the first members are `before`, and which goes on with this text, as serde_json reads it
unfoldable pub json_from : Members → List ℕ → Result Data LineCause
json_from before rest = if is_utf8 rest then ok_or (option_map object (members_from before (tokens rest))) NotJson else Err NotJson
