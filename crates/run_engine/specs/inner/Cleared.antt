-- Segments whose checkpoints are given up by name.
use Rattle.std.specs.Prelude.{ℕ, ◌-◌, Bool, true, false, List, [], ◌∷◌, length, slice_get, option_map, Option, Some, None}
use Rattle.trace_types.specs.Operation.{Operation}
use Rattle.run_engine.specs.SegmentView.{SegmentView}
use Rattle.run_engine.specs.Segments.{ops_of}

-- whether there is a name, and it is one of these
abbrev pub is_named : (ℕ → Bool) → Option ℕ → Bool
is_named named None = false
is_named named (Some id) = named id

-- the segment, without its checkpoint if that is to go
abbrev pub cleared_if : Bool → SegmentView → SegmentView
cleared_if true s = record s { mark = None }
cleared_if false s = s

-- the number of the last operation
abbrev pub last_name : List Operation → Option ℕ
last_name ops = option_map (λ (op : Operation). op.id) (slice_get ops (length ops - 1))

-- the segments, without the checkpoints whose names are among these, where this is the name of the first
abbrev pub cleared : (ℕ → Bool) → Option ℕ → List SegmentView → List SegmentView
cleared named before [] = []
cleared named before (s ∷ segments) = cleared_if (is_named named before) s ∷ cleared named (last_name (ops_of s)) segments
