use Rattle.live_sessions.specs.Events.{opening_of}
use Rattle.session_tests.proofs.gate.desk_waited_for.Given as goal

-- the book that was just opened
abbrev pub ghosts-with_waiting : goal.ghosts-with_waiting
ghosts-with_waiting g a = record { book = a.started.begun.seen.book; opening = opening_of a.started.begun.seen.log }
