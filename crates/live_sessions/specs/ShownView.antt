-- What is published says (profile of this project).
use Rattle.std.specs.Prelude.{List}
use Rattle.edit_desk.specs.declared.entries.Entry.{Entry}
use Rattle.edit_desk.specs.Versions.{Version}
use Rattle.live_sessions.specs.declared.shown.ShownView.{ShownView}

-- a version, and the history that it comes after
abbrev pub shown_view : Version → List Entry → ShownView
shown_view v h = record { published = v; entries = h }
