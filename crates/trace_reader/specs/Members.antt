-- What a member of a JSON object is, or which fault it has: missing, of the wrong type or out of range, tried in this order
-- (RFC 8259, as serde_json::Value reads it; limits and faults are a profile of this project).
use Rattle.std.specs.Prelude.{◌≡◌, ℕ, List, [], ◌∷◌, ◌++◌, codes, Bool, true, false, ◌&&◌, nat_le, if◌then◌else◌, Option, Some, None, option_and_then, ok_or, Result, Ok, Err}
use Rattle.std.specs.Str.{bytes_eq}
use Rattle.serde_json.specs.Data.{Data, null, string, Items, no_items, item}
use Rattle.serde_json.specs.Events.{items_len}
use Rattle.serde_json.specs.Find.{get, as_number, as_u64, as_str, as_array}
use Rattle.trace_types.specs.Limits.{is_field, is_cyclic_field}
use Rattle.trace_types.specs.declared.limits.TheConstants.{MAX_NAME, MAX_FIELDS}
use Rattle.trace_types.specs.declared.kinds.Field.{Field}
use Rattle.trace_types.specs.declared.kinds.Field.TheVariants.{Held, Null, Me}
use Rattle.trace_reader.specs.declared.fault.LineCause.{LineCause}
use Rattle.trace_reader.specs.declared.fault.LineCause.TheVariants.{Missing, WrongType, OutOfRange, Memory}

-- one reading after another: the first fault stands
infixl 10 ◌>>=◌
abbrev pub ◌>>=◌ : {A B E : Type 0} → Result A E → (A → Result B E) → Result B E
(Ok x) >>= f = f x
(Err e) >>= f = Err e

-- the cause is that of the reading, unless memory ran out
abbrev pub FailsAs : {A : Type 0} → LineCause → Result A LineCause → Type 0
FailsAs Memory reading = Unit {0}
FailsAs cause reading = reading ≡ Err cause

-- what a function returned is what the reading gives, unless memory ran out
abbrev pub Gives : {A : Type 0} → Result A LineCause → Result A LineCause → Type 0
Gives (Ok x) reading = reading ≡ Ok x
Gives (Err cause) reading = FailsAs cause reading

-- ---- numbers and texts

-- the number that a value is, where it is written as an integer from 0 to 2^64 - 1 (serde_json::Value::as_u64)
abbrev pub number_of : Data → Option ℕ
number_of d = option_and_then as_u64 (as_number d)

-- the number, where it is from low to high
abbrev pub within : ℕ → ℕ → Option ℕ → Result ℕ LineCause
within low high None = Err WrongType
within low high (Some n) = if nat_le low n && nat_le n high then Ok n else Err OutOfRange

-- the number from low to high that a member is, or its fault; None is a missing member
abbrev pub number_in : ℕ → ℕ → Option Data → Result ℕ LineCause
number_in low high None = Err Missing
number_in low high (Some d) = within low high (number_of d)

-- the member of that name, a number from low to high
unfoldable pub number_at : List ℕ → ℕ → ℕ → Data → Result ℕ LineCause
number_at name low high d = number_in low high (get name d)

-- the number of a handle or a cell
abbrev pub handle_of : Data → Result ℕ LineCause
handle_of d = within 0 MAX_NAME (number_of d)

-- the member of that name, the number of a handle or a cell
abbrev pub handle_at : List ℕ → Data → Result ℕ LineCause
handle_at name d = number_at name 0 MAX_NAME d

-- the number of a handle; null stands for none
abbrev pub handle_or_null : Data → Result (Option ℕ) LineCause
handle_or_null null = Ok None
handle_or_null d = handle_of d >>= λ h. Ok (Some h)

-- the same, where the member may be missing: that stands for none too
abbrev pub perhaps_handle_in : Option Data → Result (Option ℕ) LineCause
perhaps_handle_in None = Ok None
perhaps_handle_in (Some d) = handle_or_null d

-- a handle that may be left out: where the member is missing or null, there is none
unfoldable pub perhaps_handle_at : List ℕ → Data → Result (Option ℕ) LineCause
perhaps_handle_at name d = perhaps_handle_in (get name d)

-- the text that a member is, or its fault; None is a missing member
abbrev pub text_in : Option Data → Result (List ℕ) LineCause
text_in None = Err Missing
text_in (Some d) = ok_or (as_str d) WrongType

-- the member of that name, a text
unfoldable pub text_at : List ℕ → Data → Result (List ℕ) LineCause
text_at name d = text_in (get name d)

-- ---- the fields of a new object

-- the text `me` stands for the object itself where it is made by `Arc::new_cyclic`
abbrev pub field_named : Bool → List ℕ → Result Field LineCause
field_named cyclic text = if cyclic && bytes_eq text (codes "me") then Ok Me else Err WrongType

-- an element: a handle, null for an empty pointer, or `me`
abbrev pub field_of : Bool → Data → Result Field LineCause
field_of cyclic null = Ok Null
field_of cyclic (string text) = field_named cyclic text
field_of cyclic d = handle_of d >>= λ h. Ok (Held h)

-- whether an element is within the limits, in `new_cyclic` or in `new`
abbrev pub field_test : Bool → Field → Bool
field_test true = is_cyclic_field
field_test false = is_field

-- the elements, after those that were read
abbrev pub fields_from : Bool → List Field → Items → Result (List Field) LineCause
fields_from cyclic done no_items = Ok done
fields_from cyclic done (item d ds) = field_of cyclic d >>= λ f. fields_from cyclic (done ++ f ∷ []) ds

-- the length is tried before the elements
abbrev pub few_fields : Bool → Option Items → Result (List Field) LineCause
few_fields cyclic None = Err WrongType
few_fields cyclic (Some ds) = if nat_le (items_len ds) MAX_FIELDS then fields_from cyclic [] ds else Err OutOfRange

-- the fields that a member is, or their first fault; None is a missing member
abbrev pub fields_in : Bool → Option Data → Result (List Field) LineCause
fields_in cyclic None = Err Missing
fields_in cyclic (Some d) = few_fields cyclic (as_array d)

-- the member `fields`, at most `MAX_FIELDS` elements
unfoldable pub fields_at : Bool → Data → Result (List Field) LineCause
fields_at cyclic d = fields_in cyclic (get (codes "fields") d)
