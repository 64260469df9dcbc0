-- What a meter may rise by on the way.
use Rattle.std.specs.Prelude.{ℕ, ◌+◌, ◌≤◌}

-- a meter has not fallen, and has risen at most by the operations from one place to another
pub record IsMetered (before count : ℕ) (from to : ℕ) : Type 0 where
  pub never_less : before ≤ count
  pub rise : count + from ≤ before + to
