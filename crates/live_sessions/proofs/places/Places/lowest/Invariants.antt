use Rattle.std.proofs.Common.{◌≡◌, None, take}
use Rattle.std.specs.List.{All}
use Rattle.live_sessions.proofs.places.Places.lowest.Given as goal

abbrev pub invariant-loop-at : goal.invariant-loop-at
invariant-loop-at g l = All (λ place. place ≡ None) (take l.at l.fn.self)
