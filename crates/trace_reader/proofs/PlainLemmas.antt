-- What stands at the front of a plain line, token by token, and the turns of the walk over it.
use Rattle.std.proofs.Common.{Bool, Option, None, ◌≡◌, ◌↔◌, ◌⊎◌, inl, inr, ℕ, ◌-◌, ◌<◌, ◌≤◌, ◌^◌, List, [], ◌∷◌, ◌++◌, length, true, false, cond, Some, option_map, ◌==◌, ◌&&◌, ◌||◌, not, nat_le, nat_lt, ltb-true, get_or, take, drop, Result, Ok, Err, IfOk, MatchOption, refl, sym, ap, ap₂, subst, ◌∙◌, arith, decimal, codes, length-append}
use Rattle.std.proofs.lemmas.Bool.{false≢true, true≢false, eq-eqb, eqb-true, leb-true}
use Rattle.std.proofs.lemmas.Fmt.{decimal_nonempty, decimal-digits_value, IsAscii-decimal}
use Rattle.std.proofs.lemmas.List.{length-take-le, get_or-take, take-append-drop, take_rest}
use Rattle.std.proofs.lemmas.Str.Parse.{numerals_by_value, tells_digits}
use Rattle.std.proofs.lemmas.Str.{IsUtf8-from_ascii}
use Rattle.simdutf8.proofs.StepsLemmas.{IsUtf8-after_ascii}
use Rattle.std.proofs.lemmas.Str.Ascii.{IsAscii-nil, IsAscii-cons}
use Rattle.std.specs.List.{list_all}
use Rattle.std.specs.Str.{IsAscii, IsUtf8}
use Rattle.std.specs.Str.Parse.{AllDigits, digits_value}
use Rattle.json.specs.Token.{Token}
use Rattle.json.specs.Word.{ends_word, word}
use Rattle.json.specs.Lex.{Lexeme, tokens, token, colon, string_token, Place, fresh, after_value, after_comma, after_key, may_begin, may_close, begins_colon, place_token, class, space, lex_byte, lex, between, punctuate}
use Rattle.json.specs.Json.{value, items, members, parse_map, after_end_array, read_key}
use Rattle.json.specs.Print.{escape_byte, escape}
use Rattle.json.proofs.Printed.Decimals.{IsNumber-decimal}
use Rattle.json.proofs.Printed.Numbers.{lex-number, in_word-ended}
use Rattle.json.proofs.Printed.Strings.{content-escape, lex-escape, escape_byte_plain}
use Rattle.serde_json.specs.Data.{Data, null, boolean, number, unsigned, string, array, object, Items, no_items, item, Members, no_members, put}
use Rattle.serde_json.specs.Read.{of_items, of_members, converted}
use Rattle.serde_json.proofs.Numbers.{number_of-decimal}
use Rattle.trace_types.specs.Names as Names
use Rattle.trace_types.specs.declared.kinds.Field.{Field}
use Rattle.trace_types.specs.declared.names.OpName.{OpName}
use Rattle.trace_types.specs.declared.names.OpName.TheVariants as op
use Rattle.trace_reader.specs.declared.fault.LineCause.{LineCause}
use Rattle.trace_reader.specs.declared.member_slots.MemberSlots.{MemberSlots}
use Rattle.trace_reader.specs.declared.names.NumberName.TheVariants as names
use Rattle.trace_reader.specs.declared.names.MemberName.{MemberName}
use Rattle.trace_reader.specs.declared.names.MemberName.TheVariants as member
use Rattle.trace_reader.specs.declared.look.Seen.{Seen}
use Rattle.trace_reader.specs.declared.look.Seen.TheVariants as seen
use Rattle.trace_reader.specs.Members.{field_of}
use Rattle.trace_reader.specs.Looks.{told, field_told, elements_of, name_text, IsNamed, Tells, json_from, first_value}
use Rattle.trace_reader.specs.Looks as Looks
use Rattle.trace_reader.specs.Plain.{tokens_at, is_unescaped_byte, IsAfterSpaces, IsDelimited, IsKey, IsScalar, AreElements, IsValue, IsMember}
use Rattle.trace_reader.specs.Reading.{json_of, is_blank}
use Rattle.trace_reader.proofs.Json.{json_of-read}
use Rattle.trace_reader.proofs.OpLines.{both}
use Rattle.trace_reader.proofs.Rests.{json_goes_on}
use Rattle.trace_reader.proofs.Turns.{at_null, at_boolean, at_string, at_number, at_array, at_object, item_read, items_over, member_read, members_over}
use Rattle.trace_reader.proofs.Endings.{nothing_before, mapped_before, one_element, no_element, whole_read}

-- ---- texts

not_eq : (x y : ℕ) → not (x == y) ≡ true → x ≡ y → ⊥
not_eq x y h e = true≢false (sym h ∙ ap not (eq-eqb x y e))

-- no byte of the text is escaped, and each is of ASCII
abbrev IsPlain : List ℕ → Type 0
IsPlain s = (escape s ≡ s) × (list_all (λ b. nat_lt b 128) s ≡ true)

plain_name : (name : MemberName) → IsPlain (name_text name)
unfolding escape_byte
plain_name (member.Number names.Id) = (refl, refl)
plain_name (member.Number names.Thread) = (refl, refl)
plain_name (member.Number names.To) = (refl, refl)
plain_name (member.Number names.From) = (refl, refl)
plain_name (member.Number names.Handle) = (refl, refl)
plain_name (member.Number names.Index) = (refl, refl)
plain_name (member.Number names.Cell) = (refl, refl)
plain_name (member.Number names.First) = (refl, refl)
plain_name (member.Number names.Second) = (refl, refl)
plain_name (member.Number names.Expected) = (refl, refl)
plain_name (member.Number names.Desired) = (refl, refl)
plain_name member.Op = (refl, refl)
plain_name member.Fields = (refl, refl)

plain_op : (name : OpName) → IsPlain (Names.name_text name)
unfolding escape_byte
plain_op op.New = (refl, refl)
plain_op op.NewCyclic = (refl, refl)
plain_op op.NewFrom = (refl, refl)
plain_op op.WeakNew = (refl, refl)
plain_op op.Null = (refl, refl)
plain_op op.Clone = (refl, refl)
plain_op op.Drop = (refl, refl)
plain_op op.Downgrade = (refl, refl)
plain_op op.Upgrade = (refl, refl)
plain_op op.TryUnwrap = (refl, refl)
plain_op op.IntoInner = (refl, refl)
plain_op op.GetMut = (refl, refl)
plain_op op.MakeMut = (refl, refl)
plain_op op.Counts = (refl, refl)
plain_op op.PtrEq = (refl, refl)
plain_op op.Set = (refl, refl)
plain_op op.Take = (refl, refl)
plain_op op.Get = (refl, refl)
plain_op op.CellNew = (refl, refl)
plain_op op.CellLoad = (refl, refl)
plain_op op.CellSwap = (refl, refl)
plain_op op.CellCas = (refl, refl)
plain_op op.CellDrop = (refl, refl)
plain_op op.ScopeEnd = (refl, refl)

-- the text of an operation's name names it
pub named_back : (name : OpName) → Names.name_of (Names.name_text name) ≡ Some name
unfolding Names.name_of
named_back op.New = refl
named_back op.NewCyclic = refl
named_back op.NewFrom = refl
named_back op.WeakNew = refl
named_back op.Null = refl
named_back op.Clone = refl
named_back op.Drop = refl
named_back op.Downgrade = refl
named_back op.Upgrade = refl
named_back op.TryUnwrap = refl
named_back op.IntoInner = refl
named_back op.GetMut = refl
named_back op.MakeMut = refl
named_back op.Counts = refl
named_back op.PtrEq = refl
named_back op.Set = refl
named_back op.Take = refl
named_back op.Get = refl
named_back op.CellNew = refl
named_back op.CellLoad = refl
named_back op.CellSwap = refl
named_back op.CellCas = refl
named_back op.CellDrop = refl
named_back op.ScopeEnd = refl

all_ascii : (xs : List ℕ) → list_all (λ b. nat_lt b 128) xs ≡ true → IsAscii xs
all_ascii [] h = IsAscii-nil
all_ascii (x ∷ xs) h = let p = both (nat_lt x 128) _ h in IsAscii-cons x xs (ltb-true x 128 p.0) (all_ascii xs p.1)

-- a text without escapes
unescaped : (s : List ℕ) → list_all is_unescaped_byte s ≡ true → IsPlain s
unescaped [] h = (refl, refl)
unescaped (x ∷ xs) h =
    let p = both (is_unescaped_byte x) _ h in
    let q = both (nat_le 32 x && nat_lt x 128 && not (x == 34)) (not (x == 92)) p.0 in
    let r = both (nat_le 32 x && nat_lt x 128) (not (x == 34)) q.0 in
    let t = both (nat_le 32 x) (nat_lt x 128) r.0 in
    let rest = unescaped xs p.1 in
    (ap₂ (λ a b. a ++ b) (escape_byte_plain x (not_eq x 34 r.1) (not_eq x 92 q.1) (leb-true 32 x t.0)) rest.0, rw (t.1, rest.1))

-- ---- UTF-8

-- one text is UTF-8 where the other one is
abbrev pub AreLike : List ℕ → List ℕ → Type 0
AreLike text rest = IsUtf8 text ↔ IsUtf8 rest

like_itself : (text : List ℕ) → AreLike text text
like_itself text = (λ u. u, λ u. u)

pub and_then_like : (text middle rest : List ℕ) → AreLike text middle → AreLike middle rest → AreLike text rest
and_then_like text middle rest first second = (λ u. second.0 (first.0 u), λ u. first.1 (second.1 u))

-- a byte of ASCII more
like_after : (b : ℕ) (rest : List ℕ) → b < 128 → AreLike (b ∷ rest) rest
like_after b rest low = IsUtf8-after_ascii (b ∷ []) rest (IsAscii-cons b [] low IsAscii-nil)

pub like_after_byte : (text rest : List ℕ) (b : ℕ) → text ≡ b ∷ rest → b < 128 → AreLike text rest
like_after_byte text rest b is low = subst (λ t. AreLike t rest) (sym is) (like_after b rest low)

like_after_text : (text s rest : List ℕ) → text ≡ s ++ rest → IsAscii s → AreLike text rest
like_after_text text s rest is low = subst (λ t. AreLike t rest) (sym is) (IsUtf8-after_ascii s rest low)

-- a text between quotes more
like_after_quoted : (text s r : List ℕ) → text ≡ 34 ∷ s ++ 34 ∷ r → IsPlain s → AreLike text r
like_after_quoted text s r is h =
    subst (λ t. AreLike t r) (sym is)
    (and_then_like (34 ∷ s ++ 34 ∷ r) (s ++ 34 ∷ r) r (like_after 34 (s ++ 34 ∷ r) (omega arith)) (and_then_like (s ++ 34 ∷ r) (34 ∷ r) r (IsUtf8-after_ascii s (34 ∷ r) (all_ascii s h.1)) (like_after 34 r (omega arith))))

-- a text between quotes is one lexeme
lex-text : (s r : List ℕ) → IsPlain s → lex between (34 ∷ s ++ 34 ∷ r) ≡ token (Token.string s) ∷ lex between r
unfolding lex
lex-text s r h =
    ap (λ t. lex between (34 ∷ (t ++ 34 ∷ r))) (sym h.0) ∙ ap₂ (λ o l. token (string_token o) ∷ l) (content-escape s r) (lex-escape s r)

-- a truth value as it is written
abbrev pub truth_text : Bool → List ℕ
truth_text true = codes "true"
truth_text false = codes "false"

lex-null : (r : List ℕ) → ends_word r ≡ true → lex between (110 ∷ 117 ∷ 108 ∷ 108 ∷ r) ≡ token Token.null ∷ lex between r
unfolding lex word
lex-null r ended = ap₂ (λ b l. token (cond b Token.null Token.bad) ∷ l) ended (in_word-ended r ended)

lex-truth : (b : Bool) (r : List ℕ) → ends_word r ≡ true → lex between (truth_text b ++ r) ≡ token (Token.boolean b) ∷ lex between r
unfolding lex word
lex-truth true r ended = ap₂ (λ b l. token (cond b (Token.boolean true) Token.bad) ∷ l) ended (in_word-ended r ended)
lex-truth false r ended = ap₂ (λ b l. token (cond b (Token.boolean false) Token.bad) ∷ l) ended (in_word-ended r ended)

-- ---- tokens in their places

key_placed : (p : Place) (s : List ℕ) (ls : List Lexeme) → may_begin p ≡ true → punctuate p (token (Token.string s) ∷ colon ∷ ls) ≡ Token.key s ∷ punctuate fresh ls
unfolding punctuate
key_placed fresh s ls h = refl
key_placed after_value s ls h = absurd (false≢true h)
key_placed after_comma s ls h = refl
key_placed after_key s ls h = absurd (false≢true h)

string_placed : (p : Place) (s : List ℕ) (ls : List Lexeme) → may_begin p ≡ true → begins_colon ls ≡ false → punctuate p (token (Token.string s) ∷ ls) ≡ Token.string s ∷ punctuate after_value ls
unfolding punctuate
string_placed fresh s ls h c = rw c refl
string_placed after_value s ls h c = absurd (false≢true h)
string_placed after_comma s ls h c = rw c refl
string_placed after_key s ls h c = absurd (false≢true h)

number_placed : (p : Place) (s : List ℕ) (ls : List Lexeme) → may_begin p ≡ true → punctuate p (token (Token.number s) ∷ ls) ≡ Token.number s ∷ punctuate after_value ls
unfolding punctuate
number_placed fresh s ls h = refl
number_placed after_value s ls h = absurd (false≢true h)
number_placed after_comma s ls h = refl
number_placed after_key s ls h = absurd (false≢true h)

null_placed : (p : Place) (ls : List Lexeme) → may_begin p ≡ true → punctuate p (token Token.null ∷ ls) ≡ Token.null ∷ punctuate after_value ls
unfolding punctuate
null_placed fresh ls h = refl
null_placed after_value ls h = absurd (false≢true h)
null_placed after_comma ls h = refl
null_placed after_key ls h = absurd (false≢true h)

-- the key of a member
key_at : (text key rest : List ℕ) → IsPlain key → text ≡ key ++ 34 ∷ 58 ∷ rest → IsKey text key rest
unfolding lex
key_at text key rest plain is = record {
  reads = λ p begins. ap (λ t. tokens_at p (34 ∷ t)) is ∙ ap (punctuate p) (lex-text key (58 ∷ rest) plain) ∙ key_placed p key (lex between rest) begins;
  fewer = omega (arith, ap length is, length-append key (34 ∷ 58 ∷ rest));
  utf8 = and_then_like text (34 ∷ 58 ∷ rest) rest (like_after_text text key (34 ∷ 58 ∷ rest) is (all_ascii key plain.1)) (and_then_like (34 ∷ 58 ∷ rest) (58 ∷ rest) rest (like_after 34 (58 ∷ rest) (omega arith)) (like_after 58 rest (omega arith)));
}

-- one that an operation asks for
pub key_named : (text rest : List ℕ) (name : MemberName) → text ≡ name_text name ++ 34 ∷ 58 ∷ rest → IsKey text (name_text name) rest
key_named text rest name is = key_at text (name_text name) rest (plain_name name) is

-- a key that is told to be `fields`
pub fields_key : (name : Option MemberName) → name ≡ Some member.Fields → (key : List ℕ) → IsNamed key name → key ≡ codes "fields"
fields_key name is key named = subst (IsNamed key) is named

-- any other one without escapes
pub key_unescaped : (text key after rest : List ℕ) → text ≡ key ++ 34 ∷ after → after ≡ 58 ∷ rest → list_all is_unescaped_byte key ≡ true → IsKey text key rest
key_unescaped text key after rest quoted joint plain = key_at text key rest (unescaped key plain) (quoted ∙ ap (λ t. key ++ 34 ∷ t) joint)

comma_at : (r : List ℕ) → tokens_at after_value (44 ∷ r) ≡ tokens_at after_comma r
unfolding lex punctuate
comma_at r = refl

open_array_at : (r : List ℕ) → tokens_at fresh (91 ∷ r) ≡ Token.begin_array ∷ tokens_at fresh r
unfolding lex punctuate
open_array_at r = refl

close_array_at : (p : Place) (r : List ℕ) → may_close p ≡ true → tokens_at p (93 ∷ r) ≡ Token.end_array ∷ tokens_at after_value r
unfolding lex punctuate
close_array_at fresh r h = refl
close_array_at after_value r h = refl
close_array_at after_comma r h = absurd (false≢true h)
close_array_at after_key r h = absurd (false≢true h)

open_object_at : (r : List ℕ) → tokens_at fresh (123 ∷ r) ≡ Token.begin_object ∷ tokens_at fresh r
unfolding lex punctuate
open_object_at r = refl

-- the closing brace is the end of a line, where blanks alone are behind it
pub close_object_at : (r : List ℕ) → lex between r ≡ [] → tokens_at after_value (125 ∷ r) ≡ Token.end_object ∷ []
unfolding lex punctuate
close_object_at r none = ap (λ ls. Token.end_object ∷ punctuate after_value ls) none

-- where a text between quotes may begin, it begins in any place
string_placed_anywhere : (p : Place) (o : Option (List ℕ)) (ls : List Lexeme) → may_begin p ≡ true → punctuate p (token (string_token o) ∷ ls) ≡ punctuate fresh (token (string_token o) ∷ ls)
unfolding punctuate
string_placed_anywhere fresh o ls h = refl
string_placed_anywhere after_value o ls h = absurd (false≢true h)
string_placed_anywhere after_comma None ls h = refl
string_placed_anywhere after_comma (Some s) ls h = elim (begins_colon ls) as (λ b. place_token after_comma (Token.string s) b (λ next. punctuate next ls) ≡ place_token fresh (Token.string s) b (λ next. punctuate next ls)) [ true ↦ refl | false ↦ refl ]
string_placed_anywhere after_key o ls h = absurd (false≢true h)

quote_placed : (p : Place) (r : List ℕ) → may_begin p ≡ true → tokens_at p (34 ∷ r) ≡ tokens (34 ∷ r)
unfolding lex
quote_placed p r h = string_placed_anywhere p _ _ h

space_at : (r : List ℕ) → lex between (32 ∷ r) ≡ lex between r
unfolding lex
space_at r = refl

boolean_placed : (b : Bool) (ls : List Lexeme) → punctuate fresh (token (Token.boolean b) ∷ ls) ≡ Token.boolean b ∷ punctuate after_value ls
unfolding punctuate
boolean_placed b ls = refl

truth_len : (b : Bool) → 0 < length (truth_text b)
truth_len true = omega arith
truth_len false = omega arith

truth_ascii : (b : Bool) → IsAscii (truth_text b)
truth_ascii true = all_ascii (codes "true") refl
truth_ascii false = all_ascii (codes "false") refl

-- ---- spaces

pub no_spaces : (text : List ℕ) → IsAfterSpaces text text
no_spaces text = record { lexed = refl; no_longer = omega arith; utf8 = like_itself text }

pub one_space : (text rest next : List ℕ) → IsAfterSpaces text rest → rest ≡ 32 ∷ next → IsAfterSpaces text next
one_space text rest next spaces is = record {
  lexed = sym (space_at next) ∙ ap (lex between) (sym is) ∙ spaces.lexed;
  no_longer = omega (arith, ap length is, spaces.no_longer);
  utf8 = and_then_like text rest next spaces.utf8 (like_after_byte rest next 32 is (omega arith));
}

same_tokens : (p : Place) (text rest : List ℕ) → IsAfterSpaces text rest → tokens_at p text ≡ tokens_at p rest
same_tokens p text rest spaces = ap (punctuate p) (sym spaces.lexed)

-- blanks are no tokens
blank_class : (x : ℕ) → (x == 32 || x == 9 || x == 13) ≡ true → (class x ≡ space) × (x < 128)
blank_class x h = elim (x == 32) as (λ b. (x == 32) ≡ b → (b || x == 9 || x == 13) ≡ true → (class x ≡ space) × (x < 128)) [
  | true ↦ λ e k. subst (λ y. (class y ≡ space) × (y < 128)) (sym (eqb-true x 32 e)) (refl, omega arith)
  | false ↦ λ e k. elim (x == 9) as (λ b. (x == 9) ≡ b → (b || x == 13) ≡ true → (class x ≡ space) × (x < 128)) [
    | true ↦ λ f m. subst (λ y. (class y ≡ space) × (y < 128)) (sym (eqb-true x 9 f)) (refl, omega arith)
    | false ↦ λ f m. subst (λ y. (class y ≡ space) × (y < 128)) (sym (eqb-true x 13 m)) (refl, omega arith)
  ] refl k
] refl h

pub lex-blank : (r : List ℕ) → is_blank r ≡ true → lex between r ≡ []
unfolding lex
lex-blank [] h = refl
lex-blank (x ∷ xs) h =
    let p = both (x == 32 || x == 9 || x == 13) _ h in
    ap (λ c. lex_byte between c x xs (λ next. lex next xs)) (blank_class x p.0).0 ∙ lex-blank xs p.1

blank_ascii : (r : List ℕ) → is_blank r ≡ true → IsAscii r
blank_ascii [] h = IsAscii-nil
blank_ascii (x ∷ xs) h = let p = both (x == 32 || x == 9 || x == 13) _ h in IsAscii-cons x xs (blank_class x p.0).1 (blank_ascii xs p.1)

-- the end of a line is of ASCII
pub end_utf8 : (text rest behind : List ℕ) → IsAfterSpaces text rest → rest ≡ 125 ∷ behind → is_blank behind ≡ true → IsUtf8 text
end_utf8 text rest behind spaces is blank =
    let like = and_then_like text rest behind spaces.utf8 (like_after_byte rest behind 125 is (omega arith)) in
    like.1 (IsUtf8-from_ascii behind (blank_ascii behind blank))

pub end_tokens : (text rest behind : List ℕ) → IsAfterSpaces text rest → rest ≡ 125 ∷ behind → is_blank behind ≡ true → tokens_at after_value text ≡ Token.end_object ∷ []
end_tokens text rest behind spaces is blank = same_tokens after_value text rest spaces ∙ ap (tokens_at after_value) is ∙ close_object_at behind (lex-blank behind blank)

-- ---- values of one token

pub scalar_number : (text rest : List ℕ) (n : ℕ) → text ≡ decimal n ++ rest → n < 2 ^ 64 → IsDelimited rest → IsScalar text (seen.Natural n) rest
scalar_number text rest n is fits d =
    let some = decimal_nonempty n fits in record {
      token = Token.number (decimal n);
      reads = λ p begins. ap (tokens_at p) is ∙ ap (punctuate p) (lex-number (decimal n) rest (IsNumber-decimal n fits) d.word) ∙ number_placed p (decimal n) (lex between rest) begins;
      datum = number (unsigned n);
      is = λ depth ts. at_number depth ts (decimal n) ∙ ap (λ o. option_map (λ y. (y, ts)) (option_map number o)) (number_of-decimal n fits);
      goes_on = λ ts. refl;
      look = refl;
      field = refl;
      fewer = omega (arith, some, ap length is, length-append (decimal n) rest);
      utf8 = like_after_text text (decimal n) rest is (IsAscii-decimal n fits);
    }

pub scalar_null : (text rest : List ℕ) → text ≡ 110 ∷ 117 ∷ 108 ∷ 108 ∷ rest → IsDelimited rest → IsScalar text seen.Nothing rest
scalar_null text rest is d = record {
  token = Token.null;
  reads = λ p begins. ap (tokens_at p) is ∙ ap (punctuate p) (lex-null rest d.word) ∙ null_placed p (lex between rest) begins;
  datum = null;
  is = λ depth ts. at_null depth ts;
  goes_on = λ ts. refl;
  look = refl;
  field = refl;
  fewer = omega (arith, ap length is);
  utf8 = like_after_text text (codes "null") rest is (all_ascii (codes "null") refl);
}

pub scalar_me : (text rest : List ℕ) (s : Seen) → text ≡ 34 ∷ codes "me" ++ 34 ∷ rest → told s ≡ Looks.text (codes "me") → IsDelimited rest → IsScalar text s rest
unfolding escape_byte
scalar_me text rest s is tells d = record {
  token = Token.string (codes "me");
  reads = λ p begins. ap (tokens_at p) is ∙ ap (punctuate p) (lex-text (codes "me") rest (refl, refl)) ∙ string_placed p (codes "me") (lex between rest) begins d.colon;
  datum = string (codes "me");
  is = λ depth ts. at_string depth ts (codes "me");
  goes_on = λ ts. refl;
  look = tells;
  field = refl;
  fewer = omega (arith, ap length is);
  utf8 = like_after_quoted text (codes "me") rest is (refl, refl);
}

-- ---- values of a member

pub value_of_op : (text rest : List ℕ) (name : OpName) → text ≡ 34 ∷ Names.name_text name ++ 34 ∷ rest → IsDelimited rest → IsValue text (string (Names.name_text name)) rest
value_of_op text rest name is d =
    let s = Names.name_text name in
    let one : tokens_at fresh text ≡ Token.string s ∷ tokens_at after_value rest =
    ap (tokens_at fresh) is ∙ ap (punctuate fresh) (lex-text s rest (plain_op name)) ∙ string_placed fresh s (lex between rest) refl d.colon in record {
      read = λ depth deep. ap (first_value depth) one ∙ at_string depth (tokens_at after_value rest) s;
      shorter = omega (arith, ap length one);
      fewer = omega (arith, ap length is, length-append s (34 ∷ rest));
      utf8 = like_after_quoted text s rest is (plain_op name);
    }

pub value_of_text : (inside s rest : List ℕ) → inside ≡ s ++ 34 ∷ rest → list_all is_unescaped_byte s ≡ true → IsDelimited rest → IsValue (34 ∷ inside) (string s) rest
value_of_text inside s rest closes plain d =
    let is : 34 ∷ inside ≡ 34 ∷ s ++ 34 ∷ rest = ap (λ t. 34 ∷ t) closes in
    let one : tokens_at fresh (34 ∷ inside) ≡ Token.string s ∷ tokens_at after_value rest =
    ap (tokens_at fresh) is ∙ ap (punctuate fresh) (lex-text s rest (unescaped s plain)) ∙ string_placed fresh s (lex between rest) refl d.colon in record {
      read = λ depth deep. ap (first_value depth) one ∙ at_string depth (tokens_at after_value rest) s;
      shorter = omega (arith, ap length one);
      fewer = omega (arith, ap length is, length-append s (34 ∷ rest));
      utf8 = like_after_quoted (34 ∷ inside) s rest is (unescaped s plain);
    }

pub value_of_truth : (text rest : List ℕ) (b : Bool) → text ≡ truth_text b ++ rest → IsDelimited rest → IsValue text (boolean b) rest
value_of_truth text rest b is d =
    let one : tokens_at fresh text ≡ Token.boolean b ∷ tokens_at after_value rest =
    ap (tokens_at fresh) is ∙ ap (punctuate fresh) (lex-truth b rest d.word) ∙ boolean_placed b (lex between rest) in record {
      read = λ depth deep. ap (first_value depth) one ∙ at_boolean depth (tokens_at after_value rest) b;
      shorter = omega (arith, ap length one);
      fewer = omega (arith, truth_len b, ap length is, length-append (truth_text b) rest);
      utf8 = like_after_text text (truth_text b) rest is (truth_ascii b);
    }

pub value_of_array : (text listed rest : List ℕ) (found : List (Result Field LineCause)) → text ≡ 91 ∷ listed → (elements : AreElements listed found rest) → IsValue text (array elements.items) rest
value_of_array text listed rest found is elements =
    let opens : tokens_at fresh text ≡ Token.begin_array ∷ tokens_at fresh listed = ap (tokens_at fresh) is ∙ open_array_at listed in record {
      read = λ depth deep. ap (first_value depth) opens ∙ at_array depth (tokens_at fresh listed) deep ∙ ap (parse_map array) (elements.read (depth - 1));
      shorter = omega (arith, ap length opens, elements.shorter);
      fewer = omega (arith, ap length is, elements.fewer);
      utf8 = and_then_like text listed rest (like_after_byte text listed 91 is (omega arith)) elements.utf8;
    }

pub value_after_spaces : (text spaced rest : List ℕ) (d : Data) → IsAfterSpaces spaced text → IsValue text d rest → IsValue spaced d rest
value_after_spaces text spaced rest d spaces v =
    let is = same_tokens fresh spaced text spaces in record {
      read = λ depth deep. ap (first_value depth) is ∙ v.read depth deep;
      shorter = omega (arith, ap length is, v.shorter);
      fewer = omega (arith, spaces.no_longer, v.fewer);
      utf8 = and_then_like spaced text rest spaces.utf8 v.utf8;
    }

-- ---- numbers

-- digits with no needless zero at the front are what `decimal` writes
pub decimal_at : (text : List ℕ) (k n : ℕ) → n ≡ digits_value 10 (take k text) → AllDigits 10 (take k text) → 0 < k → k ≤ length text → n < 2 ^ 64 → (get_or text 0 0 ≡ 48 → k ≡ 1)
    → text ≡ decimal n ++ take (length text - k) (drop k text)
decimal_at text k n value digits some inside fits lone =
    let len : length (take k text) ≡ k = length-take-le k text inside in
    let same : decimal n ≡ take k text =
    ap decimal value
    ∙ decimal-digits_value (numerals_by_value _ tells_digits) (take k text) digits (omega (arith, len, some)) (λ zero. len ∙ lone (sym (get_or-take k text 0 0 some) ∙ zero)) (omega (arith, value, fits)) in
    sym (ap₂ (λ a b. a ++ b) same (take_rest text k) ∙ take-append-drop k text)

-- ---- what ends a value

delimited_at : (b : ℕ) (text : List ℕ) → 0 < length text → get_or text 0 0 ≡ b → ((r : List ℕ) → IsDelimited (b ∷ r)) → IsDelimited text
delimited_at b [] some is d = absurd (omega arith)
delimited_at b (x ∷ r) some is d = subst (λ y. IsDelimited (y ∷ r)) (sym is) (d r)

pub delimited_by : (text : List ℕ) → 0 < length text → (get_or text 0 0 ≡ 44) ⊎ ((get_or text 0 0 ≡ 93) ⊎ (get_or text 0 0 ≡ 125)) → IsDelimited text
unfolding lex
delimited_by text some (inl is) = delimited_at 44 text some is (λ r. record { word = refl; colon = refl })
delimited_by text some (inr (inl is)) = delimited_at 93 text some is (λ r. record { word = refl; colon = refl })
delimited_by text some (inr (inr is)) = delimited_at 125 text some is (λ r. record { word = refl; colon = refl })

-- a closing bracket behind a space
delimited_later_at : (b : ℕ) (after : List ℕ) → 0 < length after → get_or after 0 0 ≡ b → ((r : List ℕ) → IsDelimited (32 ∷ b ∷ r)) → IsDelimited (32 ∷ after)
delimited_later_at b [] some is d = absurd (omega arith)
delimited_later_at b (x ∷ r) some is d = subst (λ y. IsDelimited (32 ∷ y ∷ r)) (sym is) (d r)

delimited_behind : (after : List ℕ) → 0 < length after → (get_or after 0 0 ≡ 93) ⊎ (get_or after 0 0 ≡ 125) → IsDelimited (32 ∷ after)
unfolding lex
delimited_behind after some (inl is) = delimited_later_at 93 after some is (λ r. record { word = refl; colon = refl })
delimited_behind after some (inr is) = delimited_later_at 125 after some is (λ r. record { word = refl; colon = refl })

pub delimited_later : (text after : List ℕ) → text ≡ 32 ∷ after → (0 < length after) × ((get_or after 0 0 ≡ 93) ⊎ (get_or after 0 0 ≡ 125)) → IsDelimited text
delimited_later text after is closes = subst IsDelimited (sym is) (delimited_behind after closes.0 closes.1)

-- ---- the elements of an array, a turn at a time

-- the elements before those of `rest`, which begins in place p, of those of `text`
pub record IsAfterElements (text : List ℕ) (found : List (Result Field LineCause)) (rest : List ℕ) : Type 0 where
  pub place : Place
  pub begins : may_begin place ≡ true
  pub turns : ℕ
  pub enough : length (tokens_at place rest) ≤ turns
  pub before : Items → Items
  pub read : (depth : ℕ) → converted of_items (items (value depth) (length (tokens_at fresh text)) (tokens_at fresh text)) ≡ parse_map before (converted of_items (items (value depth) turns (tokens_at place rest)))
  pub are : (ds : Items) → elements_of (before ds) ≡ found ++ elements_of ds
  pub no_more : length (tokens_at place rest) ≤ length (tokens_at fresh text)
  pub no_longer : length rest ≤ length text
  pub utf8 : AreLike text rest

pub no_elements_yet : (text rest : List ℕ) → IsAfterSpaces text rest → IsAfterElements text [] rest
no_elements_yet text rest spaces =
    let is = same_tokens fresh text rest spaces in record {
      place = fresh;
      begins = refl;
      turns = length (tokens_at fresh text);
      enough = omega (arith, ap length is);
      before = λ ds. ds;
      read = λ depth. nothing_before _ ∙ ap (λ ts. parse_map (λ ds. ds) (converted of_items (items (value depth) (length (tokens_at fresh text)) ts))) is;
      are = λ ds. refl;
      no_more = omega (arith, ap length is);
      no_longer = spaces.no_longer;
      utf8 = spaces.utf8;
    }

-- the array that closes at once
pub no_elements_at_all : (text rest after : List ℕ) → IsAfterSpaces text rest → rest ≡ 93 ∷ after → AreElements text [] after
no_elements_at_all text rest after spaces is =
    let closes : tokens_at fresh text ≡ Token.end_array ∷ tokens_at after_value after = same_tokens fresh text rest spaces ∙ ap (tokens_at fresh) is ∙ close_array_at fresh after refl in record {
      items = no_items;
      read = λ depth. items_over (value depth) (length (tokens_at fresh text)) (tokens_at fresh text) (tokens_at after_value after) (omega (arith, ap length closes)) (ap after_end_array closes);
      are = refl;
      shorter = omega (arith, ap length closes);
      fewer = omega (arith, spaces.no_longer, ap length is);
      utf8 = and_then_like text rest after spaces.utf8 (like_after_byte rest after 93 is (omega arith));
    }

module _ (text rest after behind : List ℕ) (found : List (Result Field LineCause)) (s : Seen) (l : IsAfterElements text found rest) (scalar : IsScalar rest s after) (gap : IsAfterSpaces after behind) where
  one_read : tokens_at l.place rest ≡ scalar.token ∷ tokens_at after_value after
  one_read = scalar.reads l.place l.begins

  turn : (depth : ℕ) → converted of_items (items (value depth) l.turns (tokens_at l.place rest)) ≡ parse_map (item scalar.datum) (converted of_items (items (value depth) (l.turns - 1) (tokens_at after_value after)))
  turn depth =
      item_read (value depth) l.turns (tokens_at l.place rest) (tokens_at after_value after) scalar.datum (omega (arith, l.enough, ap length one_read)) (ap after_end_array one_read ∙ scalar.goes_on (tokens_at after_value after))
      (ap (first_value depth) one_read ∙ scalar.is depth (tokens_at after_value after))

  one_more : (depth : ℕ) → converted of_items (items (value depth) (length (tokens_at fresh text)) (tokens_at fresh text))
      ≡ parse_map (λ ds. l.before (item scalar.datum ds)) (converted of_items (items (value depth) (l.turns - 1) (tokens_at after_value after)))
  one_more depth = l.read depth ∙ ap (parse_map l.before) (turn depth) ∙ mapped_before l.before (item scalar.datum) _

  joined : (r : Result Field LineCause) (ds : Items) → r ≡ field_told (told s) → elements_of (l.before (item scalar.datum ds)) ≡ (found ++ r ∷ []) ++ elements_of ds
  joined r ds is = l.are (item scalar.datum ds) ∙ one_element found (elements_of ds) (field_of true scalar.datum) r (scalar.field ∙ sym (is ∙ ap field_told scalar.look))

  like_behind : AreLike text behind
  like_behind = and_then_like text rest behind l.utf8 (and_then_like rest after behind scalar.utf8 gap.utf8)

  -- an element before a comma
  pub element_and_comma : (next spaced : List ℕ) (r : Result Field LineCause) → behind ≡ 44 ∷ spaced → IsAfterSpaces spaced next → r ≡ field_told (told s) → IsAfterElements text (found ++ r ∷ []) next
  element_and_comma next spaced r comma spaces is =
      let goes : tokens_at after_value after ≡ tokens_at after_comma next = same_tokens after_value after behind gap ∙ ap (tokens_at after_value) comma ∙ comma_at spaced ∙ same_tokens after_comma spaced next spaces in record {
        place = after_comma;
        begins = refl;
        turns = l.turns - 1;
        enough = omega (arith, l.enough, ap length one_read, ap length goes);
        before = λ ds. l.before (item scalar.datum ds);
        read = λ depth. one_more depth ∙ ap (λ ts. parse_map (λ ds. l.before (item scalar.datum ds)) (converted of_items (items (value depth) (l.turns - 1) ts))) goes;
        are = λ ds. joined r ds is;
        no_more = omega (arith, l.no_more, ap length one_read, ap length goes);
        no_longer = omega (arith, l.no_longer, scalar.fewer, gap.no_longer, ap length comma, spaces.no_longer);
        utf8 = and_then_like text behind next like_behind (and_then_like behind spaced next (like_after_byte behind spaced 44 comma (omega arith)) spaces.utf8);
      }

  -- the last element
  pub element_and_bracket : (next : List ℕ) (r : Result Field LineCause) → behind ≡ 93 ∷ next → r ≡ field_told (told s) → AreElements text (found ++ r ∷ []) next
  element_and_bracket next r bracket is =
      let closes : tokens_at after_value after ≡ Token.end_array ∷ tokens_at after_value next = same_tokens after_value after behind gap ∙ ap (tokens_at after_value) bracket ∙ close_array_at after_value next refl in record {
        items = l.before (item scalar.datum no_items);
        read = λ depth. one_more depth
            ∙ ap (parse_map (λ ds. l.before (item scalar.datum ds)))
            (items_over (value depth) (l.turns - 1) (tokens_at after_value after) (tokens_at after_value next) (omega (arith, l.enough, ap length one_read, ap length closes)) (ap after_end_array closes));
        are = joined r no_items is ∙ no_element (found ++ r ∷ []);
        shorter = omega (arith, l.no_more, ap length one_read, ap length closes);
        fewer = omega (arith, l.no_longer, scalar.fewer, gap.no_longer, ap length bracket);
        utf8 = and_then_like text behind next like_behind (like_after_byte behind next 93 bracket (omega arith));
      }

-- ---- the members of a line, a turn at a time

-- what a reading says of what comes after it, where more is known
pub if_read : {A E : Type 0} (r : Result (Option A) E) (P : Type 0) (Q R : A → Type 0) → ((a : A) → Q a → R a) → IfOk r (λ o. MatchOption o P Q) → IfOk r (λ o. MatchOption o P R)
if_read (Ok None) P Q R f h = h
if_read (Ok (Some a)) P Q R f h = f a h
if_read (Err e) P Q R f h = tt

pub member_of : (text key valued spaced rest : List ℕ) (d : Data) → IsKey text key spaced → IsAfterSpaces spaced valued → IsValue valued d rest → IsMember text key d rest
member_of text key valued spaced rest d named spaces v = record { valued = spaced; named = named; value = value_after_spaces valued spaced rest d spaces v }

-- the members before those of `rest`, which are kept, of those of `text`
pub record IsAfterMembers (old : MemberSlots) (text : List ℕ) (kept : MemberSlots) (rest : List ℕ) : Type 0 where
  pub place : Place
  pub begins : may_begin place ≡ true
  pub turns : ℕ
  pub enough : length (tokens_at place rest) ≤ turns
  pub grown : Members
  pub read : converted (λ js. of_members js no_members) (members (value 126) (length (tokens_at fresh text)) (tokens_at fresh text)) ≡ converted (λ js. of_members js grown) (members (value 126) turns (tokens_at place rest))
  pub tells : Tells old no_members → Tells kept grown
  pub utf8 : AreLike text rest

pub no_members_yet : (old : MemberSlots) (text rest : List ℕ) → IsAfterSpaces text rest → IsAfterMembers old text old rest
no_members_yet old text rest spaces =
    let is = same_tokens fresh text rest spaces in record {
      place = fresh;
      begins = refl;
      turns = length (tokens_at fresh text);
      enough = omega (arith, ap length is);
      grown = no_members;
      read = ap (λ ts. converted (λ js. of_members js no_members) (members (value 126) (length (tokens_at fresh text)) ts)) is;
      tells = λ tells. tells;
      utf8 = spaces.utf8;
    }

-- an object's text, behind its brace
object_read : (line text : List ℕ) → line ≡ 123 ∷ text → first_value 127 (tokens line) ≡ parse_map object (converted (λ js. of_members js no_members) (members (value 126) (length (tokens_at fresh text)) (tokens_at fresh text)))
object_read line text opens =
    ap (λ t. first_value 127 (tokens_at fresh t)) opens ∙ ap (first_value 127) (open_object_at text) ∙ at_object 127 (tokens_at fresh text) (omega arith)

-- the tokens go on with a member that the walk has not read
pub member_is_left : (old kept : MemberSlots) (line text rest named : List ℕ) → IsAfterMembers old text kept rest → line ≡ 123 ∷ text → rest ≡ 34 ∷ named
    → (ms : Members) × (json_of line ≡ json_from ms rest) × (Tells old no_members → Tells kept ms)
member_is_left old kept line text rest named l opens quoted =
    let same : tokens_at l.place rest ≡ tokens rest = ap (tokens_at l.place) quoted ∙ quote_placed l.place named l.begins ∙ ap tokens (sym quoted) in
    let read = object_read line text opens ∙ ap (parse_map object) (l.read ∙ ap (λ ts. converted (λ js. of_members js l.grown) (members (value 126) l.turns ts)) same) in
    (l.grown, json_goes_on line rest l.grown l.turns (and_then_like line text rest (like_after_byte line text 123 opens (omega arith)) l.utf8) (omega (arith, l.enough, ap length same)) read, l.tells)

module _ (old kept new : MemberSlots) (text rest named key after : List ℕ) (d : Data) (l : IsAfterMembers old text kept rest) (quoted : rest ≡ 34 ∷ named) (m : IsMember named key d after)
    (joins : (ms : Members) → Tells kept ms → Tells new (put key d ms)) where
  key_read : tokens_at l.place rest ≡ Token.key key ∷ tokens_at fresh m.valued
  key_read = ap (tokens_at l.place) quoted ∙ m.named.reads l.place l.begins

  with_one : converted (λ js. of_members js no_members) (members (value 126) (length (tokens_at fresh text)) (tokens_at fresh text))
      ≡ converted (λ js. of_members js (put key d l.grown)) (members (value 126) (l.turns - 1) (tokens_at after_value after))
  with_one =
      l.read
      ∙ member_read (value 126) l.grown l.turns key (tokens_at l.place rest) (tokens_at fresh m.valued) (tokens_at after_value after) d (omega (arith, l.enough, ap length key_read)) (ap read_key key_read) (m.value.read 126 (omega arith))

  like_after_it : AreLike text after
  like_after_it = and_then_like text rest after l.utf8 (and_then_like rest named after (like_after_byte rest named 34 quoted (omega arith)) (and_then_like named m.valued after m.named.utf8 m.value.utf8))

  -- a member before a comma
  pub member_and_comma : (next spaced : List ℕ) → after ≡ 44 ∷ spaced → IsAfterSpaces spaced next → IsAfterMembers old text new next
  member_and_comma next spaced comma spaces =
      let goes : tokens_at after_value after ≡ tokens_at after_comma next = ap (tokens_at after_value) comma ∙ comma_at spaced ∙ same_tokens after_comma spaced next spaces in record {
        place = after_comma;
        begins = refl;
        turns = l.turns - 1;
        enough = omega (arith, l.enough, ap length key_read, m.value.shorter, ap length goes);
        grown = put key d l.grown;
        read = with_one ∙ ap (λ ts. converted (λ js. of_members js (put key d l.grown)) (members (value 126) (l.turns - 1) ts)) goes;
        tells = λ tells. joins l.grown (l.tells tells);
        utf8 = and_then_like text after next like_after_it (and_then_like after spaced next (like_after_byte after spaced 44 comma (omega arith)) spaces.utf8);
      }

  -- the last member of a line
  pub member_and_end : (line : List ℕ) → line ≡ 123 ∷ text → tokens_at after_value after ≡ Token.end_object ∷ [] → IsUtf8 after → (ms : Members) × (json_of line ≡ Ok (object ms)) × (Tells old no_members → Tells new ms)
  member_and_end line opens closes utf8 =
      let ms = put key d l.grown in
      let all : converted (λ js. of_members js no_members) (members (value 126) (length (tokens_at fresh text)) (tokens_at fresh text)) ≡ Some (ms, []) =
      with_one ∙ members_over (value 126) ms (l.turns - 1) (tokens_at after_value after) [] (omega (arith, l.enough, ap length key_read, m.value.shorter, ap length closes)) (ap read_key closes) in
      let whole : first_value 127 (tokens line) ≡ Some (object ms, []) = object_read line text opens ∙ ap (parse_map object) all in
      let like = and_then_like line text after (like_after_byte line text 123 opens (omega arith)) like_after_it in
      (ms, json_of-read line (object ms) (like.1 utf8) (whole_read (value 127 (tokens line)) (object ms) whole), λ tells. joins l.grown (l.tells tells))
