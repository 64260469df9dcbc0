use Rattle.std.proofs.Common.{◌≡◌}
use Rattle.std.specs.Prelude.{filter}
use Rattle.retention.specs.Layout.{upto}
use Rattle.retention.specs.Components.{is_least_of}
use Rattle.retention.proofs.cycles.least_in_cycles.Given as goal

abbrev pub invariant-loop-index : goal.invariant-loop-index
invariant-loop-index l = l.least.items ≡ filter (is_least_of l.parts l.marks) (upto l.index)
