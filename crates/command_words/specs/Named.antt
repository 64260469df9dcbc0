-- The command that clap's matches name.
use Rattle.std.specs.Prelude.{◌≡◌, ◌≢◌, ◌≤◌, ℕ, Bool, List, [], ◌∷◌, codes, true, false, Option, Some, None}
use Rattle.std.specs.List.{AllZip}
use Rattle.std.specs.Str.Parse.{IsNumeral, digits_value, without_leading_plus}
use Rattle.clap.specs.Words.{App, Row, Rule, Text, new_app, new_rule, all_of, one_of, with_rule, with_subcommand, subcommand_of}
use Rattle.clap.specs.declared.builder.action.ArgAction.TheVariants.{Append, SetTrue}
use Rattle.clap.specs.declared.builder.value_parser.ValueParser.TheVariants.{Unsigned}
use Rattle.clap.specs.Takes.{takes}
use Rattle.clap.specs.declared.error.kind.ErrorKind.{ErrorKind}
use Rattle.clap.specs.declared.error.kind.ErrorKind.TheVariants.{OutOfMemory}
use Rattle.trace_types.specs.declared.limits.TheConstants.{MAX_ID, MAX_WORKERS}
use Rattle.command_words.specs.declared.Command.{Command}
use Rattle.command_words.specs.declared.Command.TheVariants.{Replay, Script, Whatif, Race, Explain, Picture}
use Rattle.command_words.specs.declared.WordsFault.{WordsFault}
use Rattle.command_words.specs.declared.WordsFault.TheVariants.{Usage, Memory}

-- the program's name alone
abbrev pub bare_app : App
bare_app = new_app (codes "arc_scope")

-- how clap names the option of `race`
abbrev pub workers_id : Text
workers_id = codes "workers"

-- what clap was told of the option: a number of workers, which is 1 where none is given
abbrev pub workers_rule : Rule
workers_rule = record (new_rule workers_id) { long = Some workers_id; value_names = 1; defaults = codes "1" ∷ []; parser = Some (Unsigned 1 MAX_WORKERS) }

-- what clap was told of `race`
abbrev pub race_app : App
race_app = with_rule (new_app (codes "race")) workers_rule

-- how clap names the objects of `explain` and `picture`
abbrev pub objects_id : Text
objects_id = codes "objects"

-- what clap was told of them: any number of words, each a number that an operation may have
abbrev pub objects_rule : Rule
objects_rule = record (new_rule objects_id) { action = Some Append; value_names = 1; parser = Some (Unsigned 1 MAX_ID) }

-- what clap was told of an option without a value, whose name is also what clap calls it
abbrev pub flag_rule : Text → Rule
flag_rule name = record (new_rule name) { long = Some name; action = Some SetTrue }

-- the option of `explain`, and that of `picture`
abbrev pub life_id : Text
life_id = codes "life"

abbrev pub all_id : Text
all_id = codes "all"

-- what clap was told of `explain` and of `picture`
abbrev pub explain_app : App
explain_app = with_rule (with_rule (new_app (codes "explain")) (flag_rule life_id)) objects_rule

abbrev pub picture_app : App
picture_app = with_rule (with_rule (new_app (codes "picture")) (flag_rule all_id)) objects_rule

-- with the commands that have no options
abbrev pub with_plain : App → App
with_plain a = with_subcommand (with_subcommand (with_subcommand a (new_app (codes "replay")).top) (new_app (codes "script")).top) (new_app (codes "whatif")).top

-- what clap was told of the program
abbrev pub scope_app : App
scope_app = with_subcommand (with_subcommand (with_subcommand (with_plain
    (record bare_app { top = record bare_app.top { subcommand_required = true } })) race_app.top)
    explain_app.top) picture_app.top

-- the option's text is this number in decimal digits, which is from 1 to the most
abbrev pub IsWorkers : Option Text → ℕ → Type 0
IsWorkers None n = ⊥
IsWorkers (Some text) n = IsNumeral 10 (without_leading_plus text) × (n ≡ digits_value 10 (without_leading_plus text)) × (1 ≤ n) × (n ≤ MAX_WORKERS)

-- the text is the number of an object in decimal digits
abbrev pub IsObject : Text → ℕ → Type 0
IsObject text n = IsNumeral 10 (without_leading_plus text) × (n ≡ digits_value 10 (without_leading_plus text)) × (1 ≤ n) × (n ≤ MAX_ID)

-- the texts that were given, if any were, are the numbers of these objects, in their order
abbrev pub AreObjects : Option (List Text) → List ℕ → Type 0
AreObjects None objects = objects ≡ []
AreObjects (Some texts) objects = AllZip IsObject texts objects

-- whether an option without a value was given: clap says so by a text
pub record IsGiven (text : Option Text) (given : Bool) : Type 0 where
  pub yes : text ≡ Some (codes "true") → given ≡ true
  pub no : text ≡ Some (codes "false") → given ≡ false
  pub none : text ≡ None → given ≡ false

-- the command that a subcommand and its matches name
abbrev pub Names : Option (Text × List Row) → Command → Type 0
Names found Replay = (rows : List Row) × (found ≡ Some (codes "replay", rows))
Names found Script = (rows : List Row) × (found ≡ Some (codes "script", rows))
Names found Whatif = (rows : List Row) × (found ≡ Some (codes "whatif", rows))
Names found (Race n) = (rows : List Row) × (found ≡ Some (codes "race", rows)) × IsWorkers (one_of workers_id rows) n
Names found (Explain objects life) =
    (rows : List Row) × (found ≡ Some (codes "explain", rows)) × AreObjects (all_of objects_id rows) objects × IsGiven (one_of life_id rows) life
Names found (Picture objects all) =
    (rows : List Row) × (found ≡ Some (codes "picture", rows)) × AreObjects (all_of objects_id rows) objects × IsGiven (one_of all_id rows) all

-- `race` has at least one worker, and no more than it may have
abbrev pub HasWorkers : Command → Type 0
HasWorkers Replay = Unit {0}
HasWorkers Script = Unit {0}
HasWorkers Whatif = Unit {0}
HasWorkers (Race n) = (1 ≤ n) × (n ≤ MAX_WORKERS)
HasWorkers (Explain objects life) = Unit {0}
HasWorkers (Picture objects all) = Unit {0}

-- the subcommand that clap found, if it found one, names no command
abbrev pub NamesNone : Option (Text × List Row) → Type 0
NamesNone found = (command : Command) → Names found command → ⊥

-- whether clap takes the words
unfoldable pub are_taken : List Text → Bool
are_taken words = takes scope_app words

-- words are refused only where clap doesn't take them, or where they name no command; of want of memory nothing is said
abbrev pub IsRefused : List Text → WordsFault → Type 0
IsRefused words (Usage error) = are_taken words ≡ true → NamesNone (subcommand_of scope_app words)
IsRefused words Memory = Unit {0}

-- which fault an error of this kind is: want of memory is Memory, all else Usage
abbrev pub IsFaultOf : WordsFault → ErrorKind → Type 0
IsFaultOf (Usage error) kind = kind ≢ OutOfMemory
IsFaultOf Memory kind = kind ≡ OutOfMemory
