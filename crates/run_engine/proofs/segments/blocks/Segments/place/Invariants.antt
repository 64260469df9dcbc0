use Rattle.std.proofs.Common.{◌≡◌, length, take, drop}
use Rattle.std.specs.Prelude.{◌==◌}
use Rattle.std.specs.List.{position_from}
use Rattle.trace_types.specs.Trace.{place_of}
use Rattle.run_engine.specs.inner.Parts.{joined}
use Rattle.run_engine.specs.Segments.{trace_of}
use Rattle.run_engine.proofs.segments.blocks.Segments.place.Given as goal

abbrev pub invariant-loop-block : goal.invariant-loop-block
invariant-loop-block l = record {
  at : l.at ≡ length (trace_of (joined (take l.block-index l.block-items)));
  place : place_of l.id (trace_of l.self) ≡ position_from (λ op. op.id == l.id) l.at (trace_of (joined (drop l.block-index l.block-items)));
}
