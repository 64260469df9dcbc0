-- What the lines of objects are told from: the replay of a trace, its end, and the lives of the objects that it made (profile of this project).
use Rattle.std.specs.Prelude.{ℕ, ◌≡◌, List, [], map, Option, Some, None, Bool, true, false}
use Rattle.trace_types.specs.Operation.{Operation}
use Rattle.ownership_model.specs.State.{nothing_held}
use Rattle.ownership_model.specs.Reach.{has}
use Rattle.ownership_model.specs.Step.{outcomes_from, end_from, AreNew}
use Rattle.leak_report.specs.declared.lives.Life.{Life}
use Rattle.leak_report.specs.Lives.{lives_of, made_in, events_of, made_after}
use Rattle.retention_model.specs.Since.{since_from}
use Rattle.retention_model.specs.Turns.{AreMarked, marks_of}
use Rattle.retention_model.specs.declared.mark.Marked.{Marked}
use Rattle.retention.specs.declared.lifelines.Lifelines.{Lifelines}
use Rattle.retention.specs.declared.moves.Loss.{Loss}
use Rattle.retention.specs.declared.story.Story.{Story}
use Rattle.retention.specs.Dates.{Tell}
use Rattle.retention.specs.Losses.{AreLosses}
use Rattle.retention.specs.Dating.{AreDated}
use Rattle.retention.specs.Endings.{IsEnding, IsEndOf}
use Rattle.retention.specs.AccountsAt.{AreAccounts}
use Rattle.retention_report.specs.declared.told.Told.{Told}

-- it is the replay of the operations, with the marks of objects where they are wanted
pub record IsStoryOf (with_lives : Bool) (ops : List Operation) (s : Story) : Type 0 where
  pub new : AreNew nothing_held ops
  pub end : s.end ≡ end_from nothing_held ops
  pub dates : Tell s.dates s.end (λ p. since_from nothing_held ops p 0)
  pub losses : AreLosses nothing_held ops s.losses.items
  pub marked : with_lives ≡ true → AreMarked nothing_held ops s.marked.items

-- the lives of objects, where they are wanted
abbrev pub AreLivesOf : Bool → List Operation → Option Lifelines → Type 0
AreLivesOf false ops None = Unit {0}
AreLivesOf false ops (Some l) = ⊥
AreLivesOf true ops None = ⊥
AreLivesOf true ops (Some l) = (ms : List Marked) × AreMarked nothing_held ops ms × ((o : ℕ) → marks_of o l.marks.items ≡ marks_of o ms)

-- what is told is that of the operations
pub record IsToldOf (with_lives : Bool) (ops : List Operation) (t : Told) : Type 0 where
  pub of : IsEndOf ops t.end
  pub ending : IsEnding t.end
  pub accounts : AreAccounts t.end t.accounts
  pub losses : List Loss
  pub lost : AreLosses nothing_held ops losses
  pub dated : AreDated t.end.graph t.end.leaked.items losses t.accounts.since.items
  pub lines : AreLivesOf with_lives ops t.lines

-- it has the objects that the operations made, and all their events
pub record HasMade (ops : List Operation) (s : Story) : Type 0 where
  pub made : s.made.items ≡ made_in (outcomes_from nothing_held ops)
  pub events : s.events.items ≡ events_of (outcomes_from nothing_held ops)

-- the lives are those of the operations
abbrev pub AreLivesIn : List Operation → List Life → Type 0
AreLivesIn ops lives = lives ≡ lives_of (outcomes_from nothing_held ops)

-- the objects that were made
abbrev pub objects_of : List Life → List ℕ
objects_of lives = map (λ (l : Life). l.object) lives

-- each of these objects was made
abbrev pub AreMade : List Operation → List ℕ → Type 0
AreMade ops os = (o : ℕ) → has o os ≡ true → has o (made_after [] (outcomes_from nothing_held ops)) ≡ true
