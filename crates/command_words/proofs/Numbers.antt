-- The number of workers that the text of an option is.
use Rattle.std.proofs.Common.{◌≡◌, ◌≤◌, ◌<◌, ◌^◌, ℕ, Option, Some, None, arith}
use Rattle.std.specs.Prelude.{IfNone}
use Rattle.std.specs.Str.Parse.{IsNumeral, digits_value, without_leading_plus}
use Rattle.clap.specs.Words.{Text}
use Rattle.trace_types.specs.declared.limits.TheConstants.{MAX_WORKERS}
use Rattle.command_words.specs.Named.{IsWorkers}

-- it was read, and is from 1 to the most
pub some_workers : (found o : Option Text) (n : ℕ) → found ≡ o → (found ≡ None → Some n ≡ None)
    → ((t : Text) → found ≡ Some t → (IsNumeral 10 (without_leading_plus t) × (digits_value 10 (without_leading_plus t) < 2 ^ 32)) × (n ≡ digits_value 10 (without_leading_plus t)))
    → 1 ≤ n → n ≤ MAX_WORKERS → IsWorkers o n
some_workers found None n e none reads low high = let no = none e in absurd cc
some_workers found (Some t) n e none reads low high = let is = reads t e in (is.0.0, is.1, low, high)

-- it was not read
pub no_workers : (found o : Option Text) → found ≡ o
    → ((t : Text) → found ≡ Some t → IsNumeral 10 (without_leading_plus t) × (digits_value 10 (without_leading_plus t) < 2 ^ 32) → ⊥)
    → (n : ℕ) → IsWorkers o n → ⊥
no_workers found None e reads n is = is
no_workers found (Some t) e reads n is = reads t e (is.0, omega (arith, is.1, is.3))

-- it was read, and is another number
pub other_workers : (found o : Option Text) (k : ℕ) → found ≡ o
    → ((t : Text) → found ≡ Some t → (IsNumeral 10 (without_leading_plus t) × (digits_value 10 (without_leading_plus t) < 2 ^ 32)) × (k ≡ digits_value 10 (without_leading_plus t)))
    → ((n : ℕ) → n ≡ k → 1 ≤ n → n ≤ MAX_WORKERS → ⊥) → (n : ℕ) → IsWorkers o n → ⊥
other_workers found None k e reads out n is = is
other_workers found (Some t) k e reads out n is = out n (omega (arith, is.1, (reads t e).1)) is.2 is.3

pub if_none : {A : Type 0} (r : Option A) (P : Type 0) → P → IfNone r P
if_none None P p = p
if_none (Some x) P p = tt
