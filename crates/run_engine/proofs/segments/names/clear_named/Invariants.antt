use Rattle.std.proofs.Common.{◌≡◌, ◌++◌, take, drop, length, None}
use Rattle.std.specs.Ordering.{nat_cmp}
use Rattle.std.specs.BTreeSet.{contains}
use Rattle.run_engine.specs.inner.Cleared.{cleared}
use Rattle.run_engine.proofs.segments.names.clear_named.Given as goal

abbrev pub invariant-loop-i : goal.invariant-loop-i
invariant-loop-i l = record {
  long : length l.segments ≡ length l.fn.segments;
  cleared : take l.i l.segments ++ cleared (contains nat_cmp l.names) l.before (drop l.i l.segments) ≡ cleared (contains nat_cmp l.names) None l.fn.segments;
}
