use Rattle.std.proofs.Common.{ℕ, ◌≡◌, ◌<◌, length, false}
use Rattle.std.specs.Prelude.{slice_index_or, not, ◌&&◌}
use Rattle.retention.specs.Graph.{alive_at}
use Rattle.retention.specs.Walked.{has_come}
use Rattle.retention.proofs.ending.leaked_in.Given as goal

abbrev pub invariant-loop-index : goal.invariant-loop-index
invariant-loop-index l = record {
  long : length l.leaked.items ≡ l.index;
  each : (i : ℕ) → i < l.index → slice_index_or l.leaked.items i false ≡ (alive_at l.graph i && not (has_come l.reached.steps.items i));
}
