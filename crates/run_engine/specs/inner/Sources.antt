-- What edits begin with.
use Rattle.std.specs.Prelude.{List}
use Rattle.trace_types.specs.Operation.{Operation}
use Rattle.run_engine.specs.declared.editing.original.Source.{Source}
use Rattle.run_engine.specs.declared.editing.original.Source.TheVariants.{Trace, Segments}
use Rattle.run_engine.specs.Segments.{trace_of}

-- its operations
abbrev pub source_ops : Source → List Operation
source_ops (Trace trace) = trace.now
source_ops (Segments segments) = trace_of segments.now
