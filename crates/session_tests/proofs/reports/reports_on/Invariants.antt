use Rattle.live_sessions.specs.Events.{opening_of}
use Rattle.session_tests.proofs.reports.reports_on.Given as goal

-- the book that was just opened
abbrev pub ghosts-reports : goal.ghosts-reports
ghosts-reports g a = record { book = a.started.begun.seen.book; opening = opening_of a.started.begun.seen.log }
