-- What a report says of a trace, its outcomes and the state at the end (profile of this project).
use Rattle.std.specs.Prelude.{List}
use Rattle.trace_types.specs.Operation.{Operation}
use Rattle.trace_types.specs.declared.outcomes.Outcome.{Outcome}
use Rattle.ownership_model.specs.State.{State}
use Rattle.ownership_model.specs.declared.leaks.Leaks.{Leaks}
use Rattle.ownership_model.specs.Leaks.{leaks_of}
use Rattle.leak_report.specs.declared.lives.Life.{Life}
use Rattle.leak_report.specs.Lines.{Line, lines_of}
use Rattle.leak_report.specs.Lives.{lives_of}

-- each operation's outcome, what became of each object that was made, and what leaked
pub record Contents : Type 0 where
  pub lines : List Line
  pub lives : List Life
  pub leaks : Leaks

-- what a report says of these
abbrev pub report_of : List Operation → List Outcome → State → Contents
report_of ops outcomes end = record { lines = lines_of ops outcomes; lives = lives_of outcomes; leaks = leaks_of end }
