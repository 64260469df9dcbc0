-- Segments of a run in blocks, over which something is laid.
use Rattle.std.specs.Prelude.{◌≡◌, ℕ, ◌≤◌, length, take, drop, Bool, List, [], ◌∷◌, Option, Some, None, IfSome}
use Rattle.std.specs.List.{AllByRecursion}
use Rattle.ownership_model.specs.State.{State, IsSound}
use Rattle.ownership_model.specs.Patch.{Remains, patched, AreThere}
use Rattle.agreement.specs.Laid.{with_laid}
use Rattle.trace_types.specs.declared.limits.TheConstants.{MAX_OPS}
use Rattle.run_engine.specs.SegmentView.{SegmentView}
use Rattle.run_engine.specs.Segments.{trace_of}
use Rattle.run_engine.specs.inner.Parts.{AreBetween}
use Rattle.run_engine.specs.inner.Cleared.{cleared_if}
use Rattle.run_engine.specs.inner.Exchanged.{exchanged}

-- the segments, without the checkpoints that are given up
abbrev pub left : List Bool → List SegmentView → List SegmentView
left [] segments = segments
left (gone ∷ more) [] = []
left (gone ∷ more) (s ∷ segments) = cleared_if gone s ∷ left more segments

-- the segment, with what is laid over it exchanged in its checkpoint and its anchor
abbrev pub laid_over : Option Remains → SegmentView → SegmentView
laid_over None s = s
laid_over (Some x) s = exchanged x s

-- with the exchange made the checkpoint, if there is one, is sound, and so is the anchor
abbrev pub IsSoundBelow : Remains → SegmentView → Type 0
IsSoundBelow x s = IfSome s.mark (λ m. IsSound (patched m x) []) × IfSome s.anchor (λ m. IsSound (patched m x) [])

-- so is each of the segments over which something is laid
abbrev pub AreSoundBelow : Option Remains → List SegmentView → Type 0
AreSoundBelow None segments = Unit {0}
AreSoundBelow (Some x) segments = AllByRecursion (IsSoundBelow x) segments

-- some of the segments from a place on
abbrev pub standing : List Bool → ℕ → ℕ → List SegmentView → List SegmentView
standing gone from len segments = take len (drop from (left gone segments))

-- where what is to go of the remains is there, the exchange is what is laid over a state, and then the remains
abbrev pub IsBoth : Option Remains → Remains → Remains → Type 0
IsBoth laid x both = (m : State) → AreThere (with_laid laid m) x → patched m both ≡ patched (with_laid laid m) x

-- the segments have so many operations, no more than a trace, whose numbers are within bounds
pub record AreMeasured (segments : List SegmentView) (ops least greatest : ℕ) : Type 0 where
  pub ops_are : ops ≡ length (trace_of segments)
  pub few : ops ≤ MAX_OPS
  pub between : AreBetween least greatest (trace_of segments)
