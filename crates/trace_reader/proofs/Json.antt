-- What a line's value is.
use Rattle.std.proofs.Common.{◌≡◌, ℕ, true, false, List, Some, None, Ok, Err, refl, ap}
use Rattle.std.specs.Bool.{if◌then◌else◌}
use Rattle.std.specs.Option.{ok_or}
use Rattle.std.specs.Str.{IsUtf8, is_utf8}
use Rattle.std.proofs.lemmas.Str.{IsUtf8-from_is_utf8, is_utf8-from_IsUtf8}
use Rattle.serde_json.specs.Data.{Data}
use Rattle.serde_json.specs.Read.{read}
use Rattle.trace_reader.specs.Reading.{json_of}
use Rattle.trace_reader.specs.declared.fault.LineCause.TheVariants.{NotJson}

pub json_of-read : (line : List ℕ) (d : Data) → IsUtf8 line → read line ≡ Some d → json_of line ≡ Ok d
unfolding json_of
json_of-read line d u r = let e : is_utf8 line ≡ true = is_utf8-from_IsUtf8 line u in rw e (ap (λ o. ok_or o NotJson) r)

pub json_of-refused : (line : List ℕ) → (IsUtf8 line → read line ≡ None) → json_of line ≡ Err NotJson
unfolding json_of
json_of-refused line h =
    elim (is_utf8 line) as (λ b. is_utf8 line ≡ b → (if b then ok_or (read line) NotJson else Err NotJson) ≡ Err NotJson) [
      | true ↦ λ e. ap (λ o. ok_or o NotJson) (h (IsUtf8-from_is_utf8 line e))
      | false ↦ λ e. refl
    ] refl
