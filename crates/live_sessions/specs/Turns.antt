-- How a submit goes on after its meeting (profile of this project).
use Rattle.std.specs.Prelude.{◌<◌, ◌≤◌, List, length}
use Rattle.trace_types.specs.declared.limits.TheConstants.{MAX_ENTRIES}
use Rattle.edit_desk.specs.declared.entries.Entry.{Entry}
use Rattle.live_sessions.specs.declared.locked.Turn.{Turn}
use Rattle.live_sessions.specs.declared.locked.Turn.TheVariants.{Room, Full}

-- the history has room for an entry, or is full
abbrev pub IsTurn : List Entry → Turn → Type 0
IsTurn h Room = length h < MAX_ENTRIES
IsTurn h Full = MAX_ENTRIES ≤ length h
