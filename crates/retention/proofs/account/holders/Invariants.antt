use Rattle.std.proofs.Common.{◌≡◌, map, take}
use Rattle.std.specs.Prelude.{filter}
use Rattle.retention_model.specs.declared.place.Held.{Held}
use Rattle.retention.specs.Graph.{held_at}
use Rattle.retention.specs.AccountsAt.{is_such}
use Rattle.retention.proofs.account.holders.Given as goal

abbrev pub invariant-loop-place : goal.invariant-loop-place
invariant-loop-place l = l.holders.items ≡ filter (λ (h : Held). is_such l.weakly h.slot) (map (held_at l.graph) (take l.place-index l.places))
