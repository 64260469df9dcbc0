-- An old run beside an edited trace.
use Rattle.std.specs.Prelude.{◌≡◌, List}
use Rattle.trace_types.specs.Trace.{IsTrace}
use Rattle.ownership_model.specs.State.{State}
use Rattle.run_engine.specs.inner.ListingView.{ListingView}
use Rattle.run_engine.specs.SegmentView.{SegmentView}
use Rattle.run_engine.specs.Segments.{trace_of, IsKept}

-- what is true of each revision: segments and an end, and the operations that replace theirs
pub record IsRevision (segments : List SegmentView) (end : State) (ops : ListingView) : Type 0 where
  -- the old run is one
  pub kept : IsKept segments end
  -- the operations are listed over those of the old run
  pub base : ops.base ≡ trace_of segments
  -- and they are a trace
  pub trace : IsTrace ops.ops
