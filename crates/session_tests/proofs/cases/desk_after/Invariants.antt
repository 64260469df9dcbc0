use Rattle.live_sessions.specs.Events.{opening_of}
use Rattle.session_tests.proofs.cases.desk_after.Given as goal

-- the book that was just opened
abbrev pub ghosts-with_live : goal.ghosts-with_live
ghosts-with_live g a = record { book = a.started.begun.seen.book; opening = opening_of a.started.begun.seen.log }
