use Rattle.live_sessions.specs.Events.{opening_of}
use Rattle.command_race.proofs.race.race_from.Given as goal

-- the book that was just opened
abbrev pub ghosts-race_on : goal.ghosts-race_on
ghosts-race_on g a = record { book = a.started.begun.seen.book; opening = opening_of a.started.begun.seen.log }
