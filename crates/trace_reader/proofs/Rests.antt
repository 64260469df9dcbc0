-- What a line is whose first members are kept, by the tokens of the rest.
use Rattle.std.proofs.Common.{◌≡◌, ◌↔◌, ℕ, zero, suc, ◌<◌, ◌≤◌, List, [], ◌∷◌, length, true, false, Option, Some, None, option_map, option_and_then, Result, Ok, Err, OnOk, refl, sym, ap, subst, ◌∙◌, arith}
use Rattle.std.specs.Bool.{if◌then◌else◌}
use Rattle.std.specs.Option.{ok_or}
use Rattle.std.specs.Str.{IsUtf8, is_utf8}
use Rattle.std.proofs.lemmas.Str.{IsUtf8-from_is_utf8, is_utf8-from_IsUtf8}
use Rattle.json.specs.Token.{Token}
use Rattle.json.specs.Lex.{tokens}
use Rattle.json.specs.Json as json
use Rattle.json.specs.Json.{Parse, members, members_step, value, parse_map, read_key}
use Rattle.json.proofs.Grammar.{left, Takes, read_key-shorter, skip_value-shorter}
use Rattle.serde_json.specs.Data.{object, Members, no_members}
use Rattle.serde_json.specs.Read.{of_json, of_members, converted, read}
use Rattle.trace_types.specs.Operation.{Operation}
use Rattle.trace_reader.specs.declared.fault.LineCause.{LineCause}
use Rattle.trace_reader.specs.declared.fault.LineCause.TheVariants.{NotJson}
use Rattle.trace_reader.specs.Members.{◌>>=◌, Gives}
use Rattle.trace_reader.specs.Looks.{read_tokens, all_members, members_from, json_from, first_value}
use Rattle.trace_reader.specs.Plain.{op_from}
use Rattle.trace_reader.specs.Reading.{json_of, read_op, members_of_op}
use Rattle.trace_reader.proofs.Turns.{at_object}
use Rattle.trace_reader.proofs.Endings.{whole_read, whole_and_more, whole_refused}

-- ---- any number of turns that reaches the last token gives the same

module _ (p : Parse json.Json) (takes : Takes p) where
  same_after_value : (k : List ℕ) (more other : Parse json.Members) (o : Option (json.Json × List Token)) → ((x : List Token) → left o ≡ Some x → more x ≡ other x)
      → option_and_then (λ q. parse_map (json.member k q.0) (more q.1)) o ≡ option_and_then (λ q. parse_map (json.member k q.0) (other q.1)) o
  same_after_value k more other None same = refl
  same_after_value k more other (Some q) same = ap (parse_map (json.member k q.0)) (same q.1 refl)

  same_after_key : (more other : Parse json.Members) (ts : List Token) (o : Option (Option (List ℕ) × List Token)) → read_key ts ≡ o → ((x : List Token) → length x < length ts → more x ≡ other x)
      → option_and_then (λ q. members_step p more q.0 q.1) o ≡ option_and_then (λ q. members_step p other q.0 q.1) o
  same_after_key more other ts None key same = refl
  same_after_key more other ts (Some (None, s)) key same = refl
  same_after_key more other ts (Some (Some k, s)) key same = same_after_value k more other (p s) (λ x left. same x (omega (arith, read_key-shorter ts (Some k) s key, takes s x left)))

  pub members_enough : (n m : ℕ) (ts : List Token) → length ts ≤ n → length ts ≤ m → members p n ts ≡ members p m ts
  unfolding members
  members_enough zero zero ts a b = refl
  members_enough zero (suc m) [] a b = refl
  members_enough zero (suc m) (t ∷ ts) a b = let never : ⊥ = omega (arith, a) in absurd never
  members_enough (suc n) zero [] a b = refl
  members_enough (suc n) zero (t ∷ ts) a b = let never : ⊥ = omega (arith, b) in absurd never
  members_enough (suc n) (suc m) ts a b = same_after_key (members p n) (members p m) ts (read_key ts) refl (λ x less. members_enough n m x (omega (arith, a, less)) (omega (arith, b, less)))

-- ---- a line

last_of : (o : Option (json.Json × List Token)) (ms : Option (Members × List Token)) → converted of_json o ≡ parse_map object ms
    → option_and_then of_json (option_and_then (λ p. json.if_last p.0 p.1) o) ≡ option_map object (all_members ms)
last_of o None e = whole_refused o e
last_of o (Some (ms, [])) e = whole_read o (object ms) e
last_of o (Some (ms, t ∷ ts)) e = whole_and_more o (object ms) t ts e

-- the members from these tokens on, by what was read of them
module _ (before : Members) (ts : List Token) where
  pub members_from-refused : converted (λ js. of_members js before) (members (value 126) (length ts) ts) ≡ None → members_from before ts ≡ None
  unfolding members_from
  members_from-refused e = ap all_members e

  pub members_from-more : (ms : Members) (t : Token) (r : List Token) → converted (λ js. of_members js before) (members (value 126) (length ts) ts) ≡ Some (ms, t ∷ r) → members_from before ts ≡ None
  unfolding members_from
  members_from-more ms t r e = ap all_members e

  pub members_from-read : (ms : Members) → converted (λ js. of_members js before) (members (value 126) (length ts) ts) ≡ Some (ms, []) → members_from before ts ≡ Some ms
  unfolding members_from
  members_from-read ms e = ap all_members e

-- an object's tokens, behind its brace
pub object_tokens : (ts : List Token) → read_tokens (Token.begin_object ∷ ts) ≡ option_map object (members_from no_members ts)
unfolding members_from
object_tokens ts = last_of (value 127 (Token.begin_object ∷ ts)) _ (at_object 127 ts (omega arith))

-- what an Ok says, where more is known
pub on_ok : {A E : Type 0} (r : Result A E) (P Q : Type 0) → (P → Q) → OnOk r P → OnOk r Q
on_ok (Ok a) P Q f h = f h
on_ok (Err e) P Q f h = tt

same_test : (line rest : List ℕ) → (IsUtf8 line ↔ IsUtf8 rest) → is_utf8 line ≡ is_utf8 rest
same_test line rest like =
    elim (is_utf8 rest) as (λ b. is_utf8 rest ≡ b → is_utf8 line ≡ b) [
      | true ↦ λ e. is_utf8-from_IsUtf8 line (like.1 (IsUtf8-from_is_utf8 rest e))
      | false ↦ λ e. elim (is_utf8 line) as (λ b. is_utf8 line ≡ b → b ≡ false) [
        | true ↦ λ f. sym (is_utf8-from_IsUtf8 rest (like.0 (IsUtf8-from_is_utf8 line f))) ∙ e
        | false ↦ λ f. refl
      ] refl
    ] refl

-- the line of which a walk has read these members, and then the rest comes
pub json_goes_on : (line rest : List ℕ) (grown : Members) (turns : ℕ) → (IsUtf8 line ↔ IsUtf8 rest) → length (tokens rest) ≤ turns
    → first_value 127 (tokens line) ≡ parse_map object (converted (λ js. of_members js grown) (members (value 126) turns (tokens rest))) → json_of line ≡ json_from grown rest
unfolding json_of json_from members_from
json_goes_on line rest grown turns like enough is =
    let same = members_enough (value 126) (skip_value-shorter 126) turns (length (tokens rest)) (tokens rest) enough (omega arith) in
    let whole : read line ≡ option_map object (members_from grown (tokens rest)) =
    last_of (value 127 (tokens line)) _ (is ∙ ap (λ o. parse_map object (converted (λ js. of_members js grown) o)) same) in
    ap (λ b. if b then ok_or (read line) NotJson else Err NotJson) (same_test line rest like) ∙ ap (λ o. if is_utf8 rest then ok_or o NotJson else Err NotJson) whole

-- what the rest says of it
pub json_from-read : (before : Members) (rest : List ℕ) (ms : Members) → IsUtf8 rest → members_from before (tokens rest) ≡ Some ms → json_from before rest ≡ Ok (object ms)
unfolding json_from
json_from-read before rest ms u r = let e : is_utf8 rest ≡ true = is_utf8-from_IsUtf8 rest u in rw e (ap (λ o. ok_or (option_map object o) NotJson) r)

pub json_from-refused : (before : Members) (rest : List ℕ) → (IsUtf8 rest → members_from before (tokens rest) ≡ None) → json_from before rest ≡ Err NotJson
unfolding json_from
json_from-refused before rest h =
    elim (is_utf8 rest) as (λ b. is_utf8 rest ≡ b → (if b then ok_or (option_map object (members_from before (tokens rest))) NotJson else Err NotJson) ≡ Err NotJson) [
      | true ↦ λ e. ap (λ o. ok_or (option_map object o) NotJson) (h (IsUtf8-from_is_utf8 rest e))
      | false ↦ λ e. refl
    ] refl

-- the operation of such a line
pub op_goes_on : (r : Result Operation LineCause) (before : Members) (rest : List ℕ) (ms : Members) → json_from before rest ≡ Ok (object ms) → Gives r (members_of_op (object ms)) → Gives r (op_from before rest)
unfolding read_op
op_goes_on r before rest ms is gives = subst (λ j. Gives r (j >>= read_op)) (sym is) gives
