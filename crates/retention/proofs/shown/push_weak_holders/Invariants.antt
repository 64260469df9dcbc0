use Rattle.retention.proofs.ShownSteps.{IsShowing}
use Rattle.retention.proofs.shown.push_weak_holders.Given as goal

abbrev pub invariant-loop-at : goal.invariant-loop-at
invariant-loop-at l = IsShowing l.graph l.fn.near.items l.fn.shown.items l.at 0 l.near.items l.shown.items

abbrev pub invariant-loop-place : goal.invariant-loop-place
invariant-loop-place l = IsShowing l.graph l.fn.near.items l.fn.shown.items l.at l.place-index l.near.items l.shown.items
