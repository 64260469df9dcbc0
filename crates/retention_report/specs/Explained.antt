-- The text of `explain` (profile of this project).
use Rattle.std.specs.Prelude.{ℕ, ◌≡◌, List, [], ◌∷◌, ◌++◌, codes, decimal, Option, Some, None, Bool, true, false, if◌then◌else◌}
use Rattle.std.specs.FinMap.{get}
use Rattle.trace_types.specs.declared.slots.Entry.{Entry}
use Rattle.trace_types.specs.Operation.{Operation}
use Rattle.ownership_model.specs.State.{nothing_held}
use Rattle.ownership_model.specs.Reach.{has}
use Rattle.ownership_model.specs.Step.{outcomes_from, end_from}
use Rattle.leak_report.specs.Lives.{life_of, made_after}
use Rattle.leak_report.specs.Text.{life_text}
use Rattle.retention_model.specs.Turns.{AreMarked, marks_of}
use Rattle.retention_model.specs.declared.mark.Marked.{Marked}
use Rattle.retention_model.specs.declared.account.Account.{Account}
use Rattle.retention_model.specs.declared.totals.Totals.{Totals}
use Rattle.retention.specs.Told.{IsAccount}
use Rattle.retention.specs.Ends.{AreAll, IsOfNote, AreTotals}
use Rattle.retention_text.specs.Pieces.{totals_text}
use Rattle.retention_text.specs.Turns.{life_lines}
use Rattle.retention_text.specs.Accounts.{account_text}

-- the lines of its life, where they are wanted
abbrev pub AreLifeLines : Bool → List Operation → ℕ → List ℕ → Type 0
AreLifeLines false ops o text = text ≡ []
AreLifeLines true ops o text = (ms : List Marked) × AreMarked nothing_held ops ms × (text ≡ life_lines ops (marks_of o ms))

-- the lines of what is told of an object for which this stands at the end, where something does
abbrev pub AreLinesOfEntry : List Operation → ℕ → Option Entry → List ℕ → Type 0
AreLinesOfEntry ops o None text = text ≡ []
AreLinesOfEntry ops o (Some entry) text = (a : Account) × IsAccount ops (end_from nothing_held ops) o a × (text ≡ account_text a)

-- the lines of what is told of it, where it is there at the end
abbrev pub AreAccountLines : List Operation → ℕ → List ℕ → Type 0
AreAccountLines ops o text = AreLinesOfEntry ops o (get (end_from nothing_held ops).objects o) text

-- the lines of an object: that of the report, those of its life, and those of what is told of it
abbrev pub IsObjectText : Bool → List Operation → ℕ → List ℕ → Type 0
IsObjectText with_lives ops o text =
    (life account : List ℕ) × AreLifeLines with_lives ops o life × AreAccountLines ops o account
    × (text ≡ life_text (life_of (outcomes_from nothing_held ops) o) ++ life ++ account)

-- those of objects, one after another
abbrev pub AreLines : Bool → List Operation → List ℕ → List ℕ → Type 0
AreLines with_lives ops [] text = text ≡ []
AreLines with_lives ops (o ∷ os) text = (first rest : List ℕ) × IsObjectText with_lives ops o first × AreLines with_lives ops os rest × (text ≡ first ++ rest)

-- the first number of the list with which no object was made
abbrev pub first_unmade : List ℕ → List ℕ → Option ℕ
first_unmade made [] = None
first_unmade made (o ∷ os) = if has o made then first_unmade made os else Some o

-- the line that tells it
abbrev pub missing_text : ℕ → List ℕ
missing_text o = codes "no object " ++ decimal o ++ 10 ∷ []

-- what is told where no object is given: each cycle's least object and each husk, and the total
abbrev pub IsSummary : Bool → List Operation → List ℕ → Type 0
IsSummary with_lives ops text =
    (os lines : List ℕ) × (t : Totals) × AreAll (end_from nothing_held ops) (IsOfNote (end_from nothing_held ops)) os
    × AreLines with_lives ops os lines × AreTotals (end_from nothing_held ops) t × (text ≡ lines ++ totals_text t ++ 10 ∷ [])

-- what is told of the objects given, or of those of note
abbrev pub IsTold : Bool → List Operation → List ℕ → List ℕ → Type 0
IsTold with_lives ops [] text = IsSummary with_lives ops text
IsTold with_lives ops (o ∷ os) text = AreLines with_lives ops (o ∷ os) text

-- the text, and whether it tells a number that is none
abbrev pub IsExplanation : Bool → List Operation → List ℕ → Option ℕ → List ℕ → Bool → Type 0
IsExplanation with_lives ops os None text is_missing = IsTold with_lives ops os text × (is_missing ≡ false)
IsExplanation with_lives ops os (Some o) text is_missing = (text ≡ missing_text o) × (is_missing ≡ true)

-- the same of the trace and the numbers given
abbrev pub Explains : Bool → List Operation → List ℕ → List ℕ → Bool → Type 0
Explains with_lives ops os text is_missing = IsExplanation with_lives ops os (first_unmade (made_after [] (outcomes_from nothing_held ops)) os) text is_missing
