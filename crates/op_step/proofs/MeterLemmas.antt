-- A count that is raised step by step.
use Rattle.std.proofs.Common.{◌≡◌, ◌+◌, ℕ, arith}
use Rattle.op_step.specs.Meter.{raised}

pub raised-next : (count more : ℕ) → raised (raised count more) 1 ≡ raised count (more + 1)
raised-next count more = omega arith

pub raised-none : (count : ℕ) → count ≡ raised count 0
raised-none count = omega arith
