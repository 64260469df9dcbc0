use Rattle.std.proofs.Common.{◌≡◌, ◌<◌, ◌≤◌, ℕ, [], length}
use Rattle.std.specs.Prelude.{slice_index_or}
use Rattle.command_race.specs.Race.{requests_of}
use Rattle.command_race.proofs.split.by_session.Given as goal

abbrev pub invariant-loop-session : goal.invariant-loop-session
invariant-loop-session l = record {
  many : length l.sessions.items ≡ l.session;
  each : (s : ℕ) → s < l.session → slice_index_or l.sessions.items s [] ≡ requests_of s l.fn.lines.items;
  left : (s : ℕ) → l.session ≤ s → requests_of s l.rest.items ≡ requests_of s l.fn.lines.items;
}
