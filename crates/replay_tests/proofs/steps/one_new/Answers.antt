use Rattle.std.specs.Ordering.{nat_cmp}
use Rattle.std.specs.FinMap.{get-empty}
use Rattle.replay_tests.proofs.steps.one_new.Goals as goal

-- nothing stands where nothing is held
pub step-requires : goal.step-requires
step-requires g c = rw c.empty.ensures (get-empty nat_cmp c.in_ok-op.op.id)
