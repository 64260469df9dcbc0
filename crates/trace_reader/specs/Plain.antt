-- What a walk over the bytes of a plain line finds at the front of a text (RFC 8259). Private functions alone speak of it.
use Rattle.std.specs.Prelude.{◌≡◌, ◌↔◌, ◌==◌, ℕ, ◌<◌, ◌≤◌, List, ◌∷◌, length, Bool, true, false, not, ◌&&◌, nat_le, nat_lt, Some, None, Result, Ok}
use Rattle.std.specs.Str.{IsUtf8}
use Rattle.json.specs.Token.{Token}
use Rattle.json.specs.Word.{ends_word}
use Rattle.json.specs.Lex.{Place, fresh, after_value, may_begin, begins_colon, lex, between, punctuate}
use Rattle.json.specs.Json.{after_end_array}
use Rattle.serde_json.specs.Data.{Data, Items, Members, no_members, object}
use Rattle.trace_types.specs.Operation.{Operation}
use Rattle.trace_types.specs.declared.kinds.Field.{Field}
use Rattle.trace_reader.specs.declared.fault.LineCause.{LineCause}
use Rattle.trace_reader.specs.declared.member_slots.MemberSlots.{MemberSlots}
use Rattle.trace_reader.specs.declared.plain.line.Walk.{Walk}
use Rattle.trace_reader.specs.declared.plain.line.Walk.TheVariants as walk
use Rattle.trace_reader.specs.declared.look.Seen.{Seen}
use Rattle.trace_reader.specs.Members.{◌>>=◌, field_of}
use Rattle.trace_reader.specs.Looks.{told, look_of, field_told, elements_of, Tells, first_value, first_items, json_from}
use Rattle.trace_reader.specs.Reading.{json_of, read_op}

-- the tokens of a text that begins in that place
abbrev pub tokens_at : Place → List ℕ → List Token
tokens_at p text = punctuate p (lex between text)

-- a value that ends here has ended, and no colon makes it a key
pub record IsDelimited (text : List ℕ) : Type 0 where
  pub word : ends_word text ≡ true
  pub colon : begins_colon (lex between text) ≡ false

-- the rest is the text without spaces that come first
pub record IsAfterSpaces (text : List ℕ) (rest : List ℕ) : Type 0 where
  pub lexed : lex between rest ≡ lex between text
  pub no_longer : length rest ≤ length text
  pub utf8 : IsUtf8 text ↔ IsUtf8 rest

-- the byte is of ASCII and stands for itself between quotes
abbrev pub is_unescaped_byte : ℕ → Bool
is_unescaped_byte b = nat_le 32 b && nat_lt b 128 && not (b == 34) && not (b == 92)

-- behind the opening quote comes the rest of a member's name, its colon, and then the rest
pub record IsKey (text : List ℕ) (key : List ℕ) (rest : List ℕ) : Type 0 where
  pub reads : (p : Place) → may_begin p ≡ true → tokens_at p (34 ∷ text) ≡ Token.key key ∷ tokens_at fresh rest
  pub fewer : length rest < length text
  pub utf8 : IsUtf8 text ↔ IsUtf8 rest

-- a value of one token comes first, which is seen so, and then the rest
pub record IsScalar (text : List ℕ) (seen : Seen) (rest : List ℕ) : Type 0 where
  pub token : Token
  pub reads : (p : Place) → may_begin p ≡ true → tokens_at p text ≡ token ∷ tokens_at after_value rest
  pub datum : Data
  pub is : (depth : ℕ) (ts : List Token) → first_value depth (token ∷ ts) ≡ Some (datum, ts)
  pub goes_on : (ts : List Token) → after_end_array (token ∷ ts) ≡ None
  pub look : told seen ≡ look_of datum
  pub field : field_of true datum ≡ field_told (look_of datum)
  pub fewer : length rest < length text
  pub utf8 : IsUtf8 text ↔ IsUtf8 rest

-- the elements of an array come first, with its closing bracket, and then the rest
pub record AreElements (text : List ℕ) (found : List (Result Field LineCause)) (rest : List ℕ) : Type 0 where
  pub items : Items
  pub read : (depth : ℕ) → first_items depth (tokens_at fresh text) ≡ Some (items, tokens_at after_value rest)
  pub are : elements_of items ≡ found
  pub shorter : length (tokens_at after_value rest) < length (tokens_at fresh text)
  pub fewer : length rest < length text
  pub utf8 : IsUtf8 text ↔ IsUtf8 rest

-- a value comes first, and then the rest
pub record IsValue (text : List ℕ) (datum : Data) (rest : List ℕ) : Type 0 where
  pub read : (depth : ℕ) → 0 < depth → first_value depth (tokens_at fresh text) ≡ Some (datum, tokens_at after_value rest)
  pub shorter : length (tokens_at after_value rest) < length (tokens_at fresh text)
  pub fewer : length rest < length text
  pub utf8 : IsUtf8 text ↔ IsUtf8 rest

-- a member comes first of which the opening quote was read, and then the rest
pub record IsMember (text : List ℕ) (key : List ℕ) (datum : Data) (rest : List ℕ) : Type 0 where
  pub valued : List ℕ
  pub named : IsKey text key valued
  pub value : IsValue valued datum rest

-- how far a walk came over a line, from what was kept before it: over the whole line; or up to a member, and then those before it are kept
abbrev pub IsWalked : List ℕ → MemberSlots → MemberSlots → Walk → Type 0
IsWalked line old new walk.Whole = (ms : Members) × (json_of line ≡ Ok (object ms)) × (Tells old no_members → Tells new ms)
IsWalked line old new (walk.UpTo rest) = (ms : Members) × (json_of line ≡ json_from ms rest.now) × (Tells old no_members → Tells new ms)
IsWalked line old new walk.Nowhere = Unit {0}

-- the operation that a line is, of whose object the first members are `before`, and which goes on with this text
abbrev pub op_from : Members → List ℕ → Result Operation LineCause
op_from before rest = json_from before rest >>= read_op
