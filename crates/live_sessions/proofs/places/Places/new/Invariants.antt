use Rattle.std.proofs.Common.{◌≡◌, length}
use Rattle.std.specs.List.{All}
use Rattle.live_sessions.specs.Places.{AreOwn, IsUnused}
use Rattle.live_sessions.proofs.places.Places.new.Given as goal

abbrev pub invariant-loop-session : goal.invariant-loop-session
invariant-loop-session g l = record {
  many : length l.passes.items ≡ l.session;
  own : AreOwn l.passes.items;
  unused : All (IsUnused l.front) l.passes.items;
}
