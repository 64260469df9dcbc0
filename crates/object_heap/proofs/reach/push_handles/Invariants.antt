use Rattle.std.proofs.Common.{◌≡◌, ◌++◌, take}
use Rattle.ownership_model.specs.Reach.{handle_names}
use Rattle.object_heap.proofs.reach.push_handles.Given as goal

abbrev pub invariant-loop-handle : goal.invariant-loop-handle
invariant-loop-handle l = l.names.items ≡ l.initial.names.items ++ handle_names l.by l.heap (take l.handle-index l.handle-items)
