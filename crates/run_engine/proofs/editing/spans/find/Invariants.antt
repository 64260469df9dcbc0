use Rattle.std.proofs.Common.{◌≡◌, ◌+◌, take}
use Rattle.run_engine.specs.inner.Spans.{total}
use Rattle.run_engine.proofs.editing.spans.find.Given as goal

abbrev pub invariant-loop-i : goal.invariant-loop-i
invariant-loop-i l = total (take l.i l.spans) + l.rest ≡ l.place
