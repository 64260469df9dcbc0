-- What is kept tells what the definitions say of the data.
use Rattle.std.proofs.Common.{◌≡◌, ℕ, suc, List, [], ◌∷◌, ◌++◌, length, Bool, true, false, nat_le, ◌&&◌, le-leb, arith, Option, Some, None, option_map, ok_or, Ok, Err, refl, sym, ap, ◌∙◌}
use Rattle.std.specs.Bool.{if◌then◌else◌}
use Rattle.std.specs.Str.{bytes_eq}
use Rattle.std.specs.Prelude.{codes}
use Rattle.serde_json.specs.Data.{unsigned, negative, float, Data, null, boolean, number, string, array, object, Items, no_items, item, Members}
use Rattle.serde_json.specs.Events.{items_len}
use Rattle.serde_json.specs.Find.{get_member, as_str}
use Rattle.trace_types.specs.declared.limits.TheConstants.{MAX_NAME, MAX_FIELDS}
use Rattle.trace_types.specs.declared.kinds.Field.{Field}
use Rattle.trace_types.specs.declared.kinds.Field.TheVariants.{Held, Me}
use Rattle.trace_reader.specs.declared.fault.LineCause.TheVariants.{WrongType, OutOfRange}
use Rattle.trace_reader.specs.Members.{◌>>=◌, within, number_in, number_at, perhaps_handle_in, perhaps_handle_at, text_in, text_at, field_of, fields_from, few_fields, fields_in, fields_at}
use Rattle.trace_reader.specs.Looks.{look_of, elements_of, listed, number_kept, number_told, perhaps_told, text_of, text_told, plain, fields_of, few_told, fields_told}

pub number_asked : (low high : ℕ) (o : Option Data) → number_told low high (number_kept (option_map look_of o)) ≡ number_in low high o
number_asked low high None = refl
number_asked low high (Some null) = refl
number_asked low high (Some (boolean b)) = refl
number_asked low high (Some (number (unsigned n))) = refl
number_asked low high (Some (number (negative z))) = refl
number_asked low high (Some (number (float x))) = refl
number_asked low high (Some (string s)) = refl
number_asked low high (Some (array ds)) = refl
number_asked low high (Some (object ms)) = refl

pub number_at-told : (name : List ℕ) (low high : ℕ) (ms : Members) → number_told low high (number_kept (option_map look_of (get_member name ms))) ≡ number_at name low high (object ms)
unfolding number_at
number_at-told name low high ms = number_asked low high (get_member name ms)

pub perhaps_asked : (o : Option Data) → perhaps_told (number_kept (option_map look_of o)) ≡ perhaps_handle_in o
perhaps_asked None = refl
perhaps_asked (Some null) = refl
perhaps_asked (Some (boolean b)) = refl
perhaps_asked (Some (number (unsigned n))) = refl
perhaps_asked (Some (number (negative z))) = refl
perhaps_asked (Some (number (float x))) = refl
perhaps_asked (Some (string s)) = refl
perhaps_asked (Some (array ds)) = refl
perhaps_asked (Some (object ms)) = refl

pub perhaps_at-told : (name : List ℕ) (ms : Members) → perhaps_told (number_kept (option_map look_of (get_member name ms))) ≡ perhaps_handle_at name (object ms)
unfolding perhaps_handle_at
perhaps_at-told name ms = perhaps_asked (get_member name ms)

text_as : (d : Data) → text_of (look_of d) ≡ as_str d
text_as null = refl
text_as (boolean b) = refl
text_as (number (unsigned n)) = refl
text_as (number (negative z)) = refl
text_as (number (float x)) = refl
text_as (string s) = refl
text_as (array ds) = refl
text_as (object ms) = refl

pub text_asked : (o : Option Data) → text_told (option_map (λ d. text_of (look_of d)) o) ≡ text_in o
text_asked None = refl
text_asked (Some d) = ap (λ o. ok_or o WrongType) (text_as d)

pub text_at-told : (name : List ℕ) (ms : Members) → text_told (option_map (λ d. text_of (look_of d)) (get_member name ms)) ≡ text_at name (object ms)
unfolding text_at
text_at-told name ms = text_asked (get_member name ms)

-- ---- fields

held_in : (c : Bool) (cyclic : Bool) (n : ℕ) → nat_le n MAX_NAME ≡ c → ((if c then Ok n else Err OutOfRange) >>= λ h. Ok (Held h)) ≡ plain cyclic ((if c then Ok n else Err OutOfRange) >>= λ h. Ok (Held h))
held_in true cyclic n e = sym (ap (λ b. if b then Ok (Held n) else Err OutOfRange) e)
held_in false cyclic n e = refl

held : (cyclic : Bool) (n : ℕ) → (within 0 MAX_NAME (Some n) >>= λ h. Ok (Held h)) ≡ plain cyclic (within 0 MAX_NAME (Some n) >>= λ h. Ok (Held h))
held cyclic n = rw (le-leb 0 n (omega arith)) (held_in (nat_le n MAX_NAME) cyclic n refl)

named : (b cyclic : Bool) → (if cyclic && b then Ok Me else Err WrongType) ≡ plain cyclic (if b then Ok Me else Err WrongType)
named true true = refl
named true false = refl
named false true = refl
named false false = refl

plain_field : (cyclic : Bool) (d : Data) → field_of cyclic d ≡ plain cyclic (field_of true d)
plain_field cyclic null = refl
plain_field cyclic (boolean b) = refl
plain_field cyclic (number (unsigned n)) = held cyclic n
plain_field cyclic (number (negative z)) = refl
plain_field cyclic (number (float x)) = refl
plain_field cyclic (string s) = named (bytes_eq s (codes "me")) cyclic
plain_field cyclic (array ds) = refl
plain_field cyclic (object ms) = refl

fields_asked : (cyclic : Bool) (done : List Field) (ds : Items) → fields_of cyclic done (elements_of ds) ≡ fields_from cyclic done ds
fields_asked cyclic done no_items = refl
fields_asked cyclic done (item d ds) =
    ap (λ r. r >>= λ f. fields_of cyclic (done ++ f ∷ []) (elements_of ds)) (sym (plain_field cyclic d)) ∙ ap (λ k. field_of cyclic d >>= k) (λ i f. fields_asked cyclic (done ++ f ∷ []) ds i)

count_asked : (ds : Items) → length (elements_of ds) ≡ items_len ds
count_asked no_items = refl
count_asked (item d ds) = ap suc (count_asked ds)

pub few_asked : (cyclic : Bool) (ds : Items) → few_told cyclic (elements_of ds) ≡ few_fields cyclic (Some ds)
few_asked cyclic ds =
    ap (λ n. if nat_le n MAX_FIELDS then fields_of cyclic [] (elements_of ds) else Err OutOfRange) (count_asked ds)
    ∙ ap (λ r. if nat_le (items_len ds) MAX_FIELDS then r else Err OutOfRange) (fields_asked cyclic [] ds)

elements_asked : (cyclic : Bool) (o : Option Data) → fields_told cyclic (option_map listed o) ≡ fields_in cyclic o
elements_asked cyclic None = refl
elements_asked cyclic (Some null) = refl
elements_asked cyclic (Some (boolean b)) = refl
elements_asked cyclic (Some (number (unsigned n))) = refl
elements_asked cyclic (Some (number (negative z))) = refl
elements_asked cyclic (Some (number (float x))) = refl
elements_asked cyclic (Some (string s)) = refl
elements_asked cyclic (Some (array ds)) = few_asked cyclic ds
elements_asked cyclic (Some (object ms)) = refl

pub fields_at-told : (cyclic : Bool) (ms : Members) → fields_told cyclic (option_map listed (get_member (codes "fields") ms)) ≡ fields_at cyclic (object ms)
unfolding fields_at
fields_at-told cyclic ms = elements_asked cyclic (get_member (codes "fields") ms)
