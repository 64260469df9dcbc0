-- What a revision has beside each other: an old run, and the operations that replace its own.
use Rattle.std.specs.Prelude.{ℕ, List, drop}
use Rattle.trace_types.specs.Operation.{Operation}
use Rattle.run_engine.specs.declared.replay.rejoin.Rest.{Rest}
use Rattle.run_engine.specs.declared.replay.revision.Revision.{Revision}
use Rattle.op_step.specs.Chunk.{Chunk}
use Rattle.run_engine.specs.Guesses.{Reusable}
use Rattle.run_engine.specs.SegmentView.{SegmentView}
use Rattle.run_engine.specs.Segments.{trace_of, all_marks}

-- the operations of the old run
abbrev pub old_trace : Revision → List Operation
old_trace r = trace_of r.segments.now

-- the positions of its checkpoints
abbrev pub old_marks : Revision → List ℕ
old_marks r = all_marks r.segments.now

-- what a replay may reuse: the stretches of segments, and guesses
abbrev pub reusable_in : List Chunk → List SegmentView → Reusable
reusable_in guesses segments = record { marks = all_marks segments; guesses = guesses }

-- so beside an old run
abbrev pub reusable : Revision → Reusable
reusable r = reusable_in r.guesses.now r.segments.now

-- the operations that replace its own
abbrev pub new_trace : Revision → List Operation
new_trace r = r.ops.now.ops

-- the segments of the rest of an old run
abbrev pub rest_of : Rest → List SegmentView
rest_of r = drop r.from r.segments.now
