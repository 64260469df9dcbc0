-- What is true of a revision has one proof at most, as a ghost field needs it.
use Rattle.std.specs.Prelude.{◌≡◌, List, [], ◌∷◌, ◌++◌, Option, None, Some, is_some, Bool, true, refl, IfSome}
use Rattle.std.specs.Coded.{Coded-set, coded_bool, coded_list, ×_prop, Unit-prop, le_prop}
use Rattle.trace_types.specs.Operation.{Operation}
use Rattle.trace_types.specs.Trace.{IsTrace}
use Rattle.trace_types.specs.contracts.ops.Op as op
use Rattle.trace_types.specs.contracts.outcomes.Outcome as outcome
use Rattle.ownership_model.specs.State.{State}
use Rattle.trace_types.specs.declared.outcomes.Outcome.{Outcome}
use Rattle.ownership_model.specs.Step.{end_from}
use Rattle.ownership_model.specs.declared.key.Key.{Key}
use Rattle.ownership_model.specs.Alike.{AreWithin}
use Rattle.ownership_model.specs.Footprint.{footprints_from, moved_from}
use Rattle.heap_difference.specs.KeySets.{is_among, set_of}
use Rattle.heap_difference.specs.Naming.{with_names}
use Rattle.object_heap.specs.StateCode.{state_code}
use Rattle.run_engine.specs.inner.ListingView.{ListingView}
use Rattle.run_engine.specs.SegmentView.{SegmentView}
use Rattle.run_engine.specs.Segments.{ops_of, AreKeysFrom, IsSegmentFrom, AreReplayFrom, AreFull, BeginsMarked, IsRunFrom, IsKept}
use Rattle.run_engine.specs.inner.Revision.{IsRevision}

-- that a checkpoint, if there is one, is a state
same_mark-prop : (m : State) (o : Option State) → IsProp (IfSome o (λ n. n ≡ m))
same_mark-prop m None x y = refl
same_mark-prop m (Some n) x y = Coded-set state_code n m x y

-- that keys are within a set
AreWithin-prop : (k : Key → Bool) (keys : List Key) → IsProp (AreWithin k keys)
AreWithin-prop k [] = Unit-prop
AreWithin-prop k (x ∷ keys) = ×_prop (Coded-set coded_bool (k x) true) (AreWithin-prop k keys)

-- that keys are those of operations from a state
AreKeysFrom-prop : (m : State) (keys : Option (List Key)) (ops : List Operation) (outcomes : List Outcome) → IsProp (AreKeysFrom m keys ops outcomes)
AreKeysFrom-prop m None ops outcomes = Unit-prop
AreKeysFrom-prop m (Some k) ops outcomes = AreWithin-prop (is_among (set_of (with_names k ops outcomes))) (footprints_from m ops ++ moved_from m ops)

-- that a segment goes on from a state
IsSegmentFrom-prop : (m : State) (s : SegmentView) → IsProp (IsSegmentFrom m s)
IsSegmentFrom-prop m s x y = λ i. record {
  mark = same_mark-prop m s.mark x.mark y.mark i;
  anchor = same_mark-prop m s.anchor x.anchor y.anchor i;
  keys = AreKeysFrom-prop m s.keys (ops_of s) s.outcomes x.keys y.keys i;
  outcomes = Coded-set (coded_list outcome.the_row.coded) _ _ x.outcomes y.outcomes i;
}

-- that segments do
AreReplayFrom-prop : (m : State) (segments : List SegmentView) → IsProp (AreReplayFrom m segments)
AreReplayFrom-prop m [] = Unit-prop
AreReplayFrom-prop m (s ∷ segments) = ×_prop (IsSegmentFrom-prop m s) (AreReplayFrom-prop (end_from m (ops_of s)) segments)

-- that none of them is empty
AreFull-prop : (segments : List SegmentView) → IsProp (AreFull segments)
AreFull-prop [] = Unit-prop
AreFull-prop (s ∷ segments) = ×_prop le_prop (AreFull-prop segments)

-- that the first has its checkpoint
BeginsMarked-prop : (segments : List SegmentView) → IsProp (BeginsMarked segments)
BeginsMarked-prop [] = Unit-prop
BeginsMarked-prop (s ∷ segments) = Coded-set coded_bool (is_some s.mark) true

-- that they are a run from a state
IsRunFrom-prop : (start : State) (segments : List SegmentView) (end : State) → IsProp (IsRunFrom start segments end)
IsRunFrom-prop start segments end x y = λ i. record {
  replay = AreReplayFrom-prop start segments x.replay y.replay i;
  full = AreFull-prop segments x.full y.full i;
  begins = BeginsMarked-prop segments x.begins y.begins i;
  state = Coded-set state_code _ _ x.state y.state i;
}

-- that operations are a trace
IsTrace-prop : (ops : List Operation) → IsProp (IsTrace ops)
IsTrace-prop ops x y = λ i. record {
  distinct = Coded-set coded_bool _ _ x.distinct y.distinct i;
  few = le_prop x.few y.few i;
}

-- what is true of each run
IsKept-prop : (segments : List SegmentView) (end : State) → IsProp (IsKept segments end)
IsKept-prop segments end x y = λ i. record {
  run = IsRunFrom-prop _ segments end x.run y.run i;
  trace = IsTrace-prop _ x.trace y.trace i;
}

-- and so what is true of each revision
pub IsRevision-prop : (segments : List SegmentView) (end : State) (ops : ListingView) → IsProp (IsRevision segments end ops)
IsRevision-prop segments end ops x y = λ i. record {
  kept = IsKept-prop segments end x.kept y.kept i;
  base = Coded-set (coded_list op.the_row.coded) _ _ x.base y.base i;
  trace = IsTrace-prop ops.ops x.trace y.trace i;
}
