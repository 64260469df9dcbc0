use Rattle.std.proofs.Common.{rules, ◌≡◌, ◌+◌, length, arith}
use Rattle.trace_types.specs.declared.limits.TheConstants.{MAX_INPUT}
use Rattle.command_serve.proofs.Served.{IsInput-long, read-long}
use Rattle.command_serve.proofs.input.read_all.Goals as goal

pub returns-clause-long_input : goal.returns-clause-long_input
returns-clause-long_input g c =
    let bytes = c.reads.all.items in
    let taken = c.reads.invariant.taken in
    let many : length bytes ≡ MAX_INPUT + 1 = search rules in
    let long = IsInput-long _ _ bytes taken (omega (arith, many)) in
    λ _. (long.0, long.1, read-long _ _ long.0 bytes long.2 taken many, long.2)
