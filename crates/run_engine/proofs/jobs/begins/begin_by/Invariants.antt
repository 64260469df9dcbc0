use Rattle.std.proofs.Common.{◌≡◌, ◌+◌, ◌≤◌, take}
use Rattle.std.specs.Prelude.{fold}
use Rattle.run_engine.specs.inner.Shifts.{shifted}
use Rattle.run_engine.proofs.jobs.begins.begin_by.Given as goal

abbrev pub invariant-loop-shift : goal.invariant-loop-shift
invariant-loop-shift l = record {
  moved : l.at ≡ fold shifted l.begin (take l.shift-index l.shifts);
  few : l.at ≤ l.begin + l.shift-index;
}
