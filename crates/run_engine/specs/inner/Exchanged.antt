-- Segments of an old run with the remains of two replays exchanged.
use Rattle.std.specs.Prelude.{List, IfSome, option_map, []}
use Rattle.std.specs.List.{AllByRecursion}
use Rattle.ownership_model.specs.State.{State, IsSound}
use Rattle.ownership_model.specs.Patch.{Remains, patched, AreThere}
use Rattle.run_engine.specs.SegmentView.{SegmentView}

-- the segment, where the checkpoint and the anchor, if they are kept, are patched: it touches the same
abbrev pub exchanged : Remains → SegmentView → SegmentView
exchanged x s = record s { mark = option_map (λ m. patched m x) s.mark; anchor = option_map (λ m. patched m x) s.anchor }

-- the state can be patched: what is to go is there as it was, and what comes leaves a sound state
pub record CanExchange (x : Remains) (m : State) : Type 0 where
  pub sound : IsSound (patched m x) []
  pub there : AreThere m x

-- so can the checkpoint and the anchor, if they are kept
abbrev pub IsExchangeable : Remains → SegmentView → Type 0
IsExchangeable x s = IfSome s.mark (CanExchange x) × IfSome s.anchor (CanExchange x)

-- and those of each segment, where it has them
abbrev pub AreExchangeable : Remains → List SegmentView → Type 0
AreExchangeable x segments = AllByRecursion (IsExchangeable x) segments
