use Rattle.std.proofs.Common.{◌≡◌}
use Rattle.retention.specs.Layout.{upto}
use Rattle.retention.proofs.begins.root_places.Given as goal

abbrev pub invariant-loop-place : goal.invariant-loop-place
invariant-loop-place l = l.begins.items ≡ upto l.place
