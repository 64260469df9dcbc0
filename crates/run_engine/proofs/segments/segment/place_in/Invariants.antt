use Rattle.std.proofs.Common.{◌≡◌, drop}
use Rattle.std.specs.Prelude.{◌==◌}
use Rattle.std.specs.List.{position_from}
use Rattle.trace_types.specs.Trace.{place_of}
use Rattle.run_engine.proofs.segments.segment.place_in.Given as goal

abbrev pub invariant-loop-place : goal.invariant-loop-place
invariant-loop-place l = place_of l.id l.ops ≡ position_from (λ op. op.id == l.id) l.place (drop l.place l.ops)
