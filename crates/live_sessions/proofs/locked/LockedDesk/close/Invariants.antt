use Rattle.std.proofs.Common.{take}
use Rattle.std.specs.List.{All}
use mathlib.Core.List.{IsPrefix}
use Rattle.live_sessions.proofs.locked.LockedDesk.close.Given as goal

abbrev pub invariant-loop-at : goal.invariant-loop-at
invariant-loop-at g l = All (λ r. IsPrefix r.front l.fn.self) (take l.at l.fn.receipts)
