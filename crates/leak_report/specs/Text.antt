-- The text of a report (profile of this project).
use Rattle.std.specs.Prelude.{ℕ, List, [], ◌∷◌, ◌++◌, codes, decimal, Option, Some, None, is_none, Bool, length, flat_map, count_by}
use Rattle.trace_types.specs.Names.{name_text}
use Rattle.trace_types.specs.declared.outcomes.Answer.{Answer}
use Rattle.trace_types.specs.declared.outcomes.Answer.TheVariants as answers
use Rattle.trace_types.specs.declared.outcomes.Reason.{Reason}
use Rattle.trace_types.specs.declared.outcomes.Reason.TheVariants as reasons
use Rattle.trace_types.specs.declared.outcomes.Verdict.{Verdict}
use Rattle.trace_types.specs.declared.outcomes.Verdict.TheVariants.{Did, Skipped}
use Rattle.trace_types.specs.declared.outcomes.Event.{Event}
use Rattle.trace_types.specs.declared.outcomes.Event.TheVariants as events
use Rattle.trace_types.specs.declared.outcomes.Counts.{Counts}
use Rattle.trace_types.specs.declared.outcomes.Outcome.{Outcome}
use Rattle.ownership_model.specs.declared.leaks.Holder.{Holder}
use Rattle.ownership_model.specs.declared.leaks.Leak.{Leak}
use Rattle.ownership_model.specs.declared.leaks.HuskLeft.{HuskLeft}
use Rattle.leak_report.specs.declared.lives.Ending.{Ending}
use Rattle.leak_report.specs.declared.lives.Ending.TheVariants as endings
use Rattle.leak_report.specs.declared.lives.Life.{Life}
use Rattle.leak_report.specs.Lines.{Line, is_skipped_line}
use Rattle.leak_report.specs.Report.{Contents}

-- 1. a line for each operation: its number and name, what came of it, the counts of its object, its events

-- what an operation answered, as a word: `done`
abbrev pub answer_text : Answer → List ℕ
answer_text answers.Made = codes "made"
answer_text answers.Done = codes "done"
answer_text answers.Yes = codes "yes"
answer_text answers.No = codes "no"
answer_text answers.Cloned = codes "cloned"
answer_text answers.Moved = codes "moved"
answer_text answers.Unique = codes "unique"

-- why an operation was skipped, with the number of the handle, the cell or the field: `NotHeld 3`
abbrev pub reason_text : Reason → List ℕ
reason_text (reasons.SameName n) = codes "SameName " ++ decimal n
reason_text (reasons.NotHeld n) = codes "NotHeld " ++ decimal n
reason_text (reasons.NoCell n) = codes "NoCell " ++ decimal n
reason_text (reasons.WrongKind n) = codes "WrongKind " ++ decimal n
reason_text (reasons.NoField n) = codes "NoField " ++ decimal n
reason_text (reasons.AlreadyHeld n) = codes "AlreadyHeld " ++ decimal n
reason_text (reasons.CellHeld n) = codes "CellHeld " ++ decimal n

-- what came of an operation: its answer, or `skipped` and the reason
abbrev pub verdict_text : Verdict → List ℕ
verdict_text (Did answer) = answer_text answer
verdict_text (Skipped reason) = codes "skipped " ++ reason_text reason

-- ` #<object> <strong>/<weak>`, where there is an object
abbrev pub counts_text : Option Counts → List ℕ
counts_text None = []
counts_text (Some c) = codes " #" ++ decimal c.object ++ codes " " ++ decimal c.strong ++ codes "/" ++ decimal c.weak

-- what became of an object, with a space before it: ` destroyed #1`
abbrev pub event_text : Event → List ℕ
event_text (events.Destroyed o) = codes " destroyed #" ++ decimal o
event_text (events.Unwrapped o) = codes " unwrapped #" ++ decimal o
event_text (events.Moved o) = codes " moved #" ++ decimal o
event_text (events.Freed o) = codes " freed #" ++ decimal o

-- the events of an operation, one after another
abbrev pub events_text : List Event → List ℕ
events_text es = flat_map event_text es

-- what follows the name
abbrev pub outcome_text : Outcome → List ℕ
outcome_text out = verdict_text out.verdict ++ counts_text out.counts ++ events_text out.events

-- the whole line of an operation: `4 drop done #1 0/0 destroyed #1 freed #1`
abbrev pub line_text : Line → List ℕ
line_text l = decimal l.outcome.id ++ codes " " ++ name_text l.name ++ codes " " ++ outcome_text l.outcome ++ 10 ∷ []

-- the lines of operations, one after another
abbrev pub lines_text : List Line → List ℕ
lines_text ls = flat_map line_text ls

-- 2. a line for each object that was made: how its value ended, and when its allocation was given up

-- how a value ended, and by which operation: ` destroyed 4`
abbrev pub ending_text : Ending → List ℕ
ending_text (endings.Destroyed id) = codes " destroyed " ++ decimal id
ending_text (endings.Unwrapped id) = codes " unwrapped " ++ decimal id
ending_text (endings.Moved id) = codes " moved " ++ decimal id

-- which operation freed the allocation: ` freed 4`; nothing where none did
abbrev pub freed_text : Option ℕ → List ℕ
freed_text None = []
freed_text (Some id) = codes " freed " ++ decimal id

-- an allocation is given up only after its value ended
abbrev pub fate_text : Option Ending → Option ℕ → List ℕ
fate_text None freed = codes " alive"
fate_text (Some ending) freed = ending_text ending ++ freed_text freed

-- the whole line of an object: `object 1 destroyed 4 freed 4`
abbrev pub life_text : Life → List ℕ
life_text l = codes "object " ++ decimal l.object ++ fate_text l.ending l.freed ++ 10 ∷ []

-- the lines of objects, one after another
abbrev pub lives_text : List Life → List ℕ
lives_text ls = flat_map life_text ls

-- 3. a line for each leaked object, with the fields that hold it

-- a field that holds a leaked object, by its object and its number from 0: ` 1.0`
abbrev pub holder_text : Holder → List ℕ
holder_text h = codes " " ++ decimal h.object ++ codes "." ++ decimal h.field

-- the fields that hold a leaked object, one after another
abbrev pub holders_text : List Holder → List ℕ
holders_text hs = flat_map holder_text hs

-- the whole line of a leaked object: `leak 1 held by 1.0`
abbrev pub leak_text : Leak → List ℕ
leak_text l = codes "leak " ++ decimal l.object ++ codes " held by" ++ holders_text l.holders ++ 10 ∷ []

-- the lines of leaked objects, one after another
abbrev pub leaks_text : List Leak → List ℕ
leaks_text ls = flat_map leak_text ls

-- 4. a line for each husk

-- the whole line of a husk, with its weak count: `husk 1 weak 2`
abbrev pub husk_text : HuskLeft → List ℕ
husk_text h = codes "husk " ++ decimal h.object ++ codes " weak " ++ decimal h.weak ++ 10 ∷ []

-- the lines of husks, one after another
abbrev pub husks_text : List HuskLeft → List ℕ
husks_text hs = flat_map husk_text hs

-- 5. the total

-- whether it is written alive
abbrev pub is_living : Life → Bool
is_living l = is_none l.ending

-- the last line, which counts those before it: `total 4 ops 0 skipped 1 objects 0 alive 0 leaks 0 husks`
abbrev pub total_line : Contents → List ℕ
total_line r =
    codes "total " ++ decimal (length r.lines) ++ codes " ops " ++ decimal (count_by is_skipped_line r.lines) ++ codes " skipped "
    ++ decimal (length r.lives) ++ codes " objects " ++ decimal (count_by is_living r.lives) ++ codes " alive "
    ++ decimal (length r.leaks.leaked) ++ codes " leaks " ++ decimal (length r.leaks.husks) ++ codes " husks" ++ 10 ∷ []

-- the whole

-- the text of a report
abbrev pub report_text : Contents → List ℕ
report_text r = lines_text r.lines ++ lives_text r.lives ++ leaks_text r.leaks.leaked ++ husks_text r.leaks.husks ++ total_line r
