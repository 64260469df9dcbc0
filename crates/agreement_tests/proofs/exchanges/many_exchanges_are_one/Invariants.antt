use Rattle.std.proofs.Common.{◌≡◌}
use Rattle.ownership_model.specs.Patch.{patched}
use Rattle.agreement_tests.proofs.exchanges.many_exchanges_are_one.Given as goal

abbrev pub invariant-loop : goal.invariant-loop
invariant-loop g l = patched l.here l.exchange ≡ l.here
