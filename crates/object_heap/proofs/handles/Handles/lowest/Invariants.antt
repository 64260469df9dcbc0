use Rattle.std.proofs.Common.{◌≡◌, length}
use Rattle.std.specs.Prelude.{Some, None}
use Rattle.ownership_model.specs.Scopes.{scope_of}
use Rattle.object_heap.specs.Links.{under, above_of}
use Rattle.object_heap.proofs.handles.Handles.lowest.Given as goal

abbrev pub invariant-loop-earlier : goal.invariant-loop-earlier
invariant-loop-earlier l = above_of None (Some l.lowest) (under l.lowest l.self.scopes) ≡ above_of None None (scope_of l.label l.self.scopes)

abbrev pub decreases-loop-earlier : goal.decreases-loop-earlier
decreases-loop-earlier l = length (under l.lowest l.self.scopes)
