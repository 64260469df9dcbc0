use Rattle.std.proofs.Common.{◌-◌}
use Rattle.ownership_model.specs.Reach.{has}
use Rattle.retention.specs.Graph.{size, IsFieldAt}
use Rattle.retention.specs.Walked.{holds_in}
use Rattle.retention.proofs.WalkSteps.{IsBeginning, IsGone, IsGoing}
use Rattle.retention.proofs.walk.Walk.run.Given as goal

abbrev pub invariant-begins : goal.invariant-begins
invariant-begins l = IsBeginning (holds_in l.graph l.parts l.part) (IsFieldAt l.graph) (λ p. has p l.begins) (size l.graph) l.begins l.place-index l.self.steps.items l.self.came.items

abbrev pub invariant-objects : goal.invariant-objects
invariant-objects l = IsGone (holds_in l.graph l.parts l.part) (IsFieldAt l.graph) (λ p. has p l.begins) (size l.graph) l.at l.self.steps.items l.self.came.items

abbrev pub decreases-objects : goal.decreases-objects
decreases-objects l = size l.graph - l.at

abbrev pub invariant-fields : goal.invariant-fields
invariant-fields l = IsGoing (holds_in l.graph l.parts l.part) (IsFieldAt l.graph) (λ p. has p l.begins) (size l.graph) l.at l.index l.place l.self.steps.items l.self.came.items
