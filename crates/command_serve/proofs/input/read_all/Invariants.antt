use Rattle.std.proofs.Common.{◌≡◌, ◌+◌, ◌-◌, ◌≤◌, vec_len}
use Rattle.std.specs.Io.KnownBytes.{Consumes}
use Rattle.trace_types.specs.declared.limits.TheConstants.{MAX_INPUT}
use Rattle.command_serve.proofs.input.read_all.Given as goal

abbrev pub invariant-reads : goal.invariant-reads
invariant-reads g l = record {
  within : vec_len l.all ≤ MAX_INPUT + 1;
  taken : Consumes (g.S.Source.left l.initial.source) (g.S.Source.left l.source) l.all.items;
  flag : g.S.Source.failed l.source ≡ g.S.Source.failed l.initial.source;
}

abbrev pub decreases-reads : goal.decreases-reads
decreases-reads g l = MAX_INPUT + 1 - vec_len l.all
