use Rattle.live_sessions.specs.Events.{opening_of}
use Rattle.session_tests.proofs.guesses.replayed_by.Given as goal

-- the book that was just opened
abbrev pub ghosts-replayed : goal.ghosts-replayed
ghosts-replayed g a = record { book = a.started.begun.seen.book; opening = opening_of a.started.begun.seen.log }
