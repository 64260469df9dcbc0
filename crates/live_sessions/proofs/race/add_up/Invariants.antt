use Rattle.std.proofs.Common.{◌≡◌, ◌<◌, ℕ}
use Rattle.std.specs.Prelude.{slice_index_or}
use Rattle.live_sessions.specs.Fronts.{count_of}
use Rattle.live_sessions.specs.Views.{PassView}
use Rattle.live_sessions.proofs.race.add_up.Given as goal

abbrev pub invariant-loop-session : goal.invariant-loop-session
invariant-loop-session g l = (s : ℕ) (r : PassView) → s < l.session → count_of s (slice_index_or l.fn.receipts s r).front ≡ count_of s l.fn.desk.history
