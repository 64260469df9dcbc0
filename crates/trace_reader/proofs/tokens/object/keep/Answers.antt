use Rattle.std.proofs.Common.{subst}
use Rattle.trace_reader.specs.Looks.{IsNamed}
use Rattle.trace_reader.proofs.Tables.{Tells-other}
use Rattle.trace_reader.proofs.tokens.object.keep.Goals as goal

pub returns-else-not-pass-clause-ok : goal.returns-else-not-pass-clause-ok
returns-else-not-pass-clause-ok c =
    let found = c.if-not-pass.ensures.value in
    (found.0, found.1, (λ key ms named tells. Tells-other found.0 ms c.args.kept.now key (subst (IsNamed key) c.in-None.is named) tells))
