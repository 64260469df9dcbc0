use Rattle.std.proofs.Common.{◌≡◌, [], ap, ◌∙◌, arith}
use Rattle.trace_reader.specs.Looks.{first_value}
use Rattle.trace_reader.proofs.Turns.{at_end}
use Rattle.trace_reader.proofs.tokens.object.see.Goals as goal

pub returns-in_default-clause-value : goal.returns-in_default-clause-value
returns-in_default-clause-value c =
    let empty : c.args.reader.now ≡ [] = grind arith in
    ap (first_value c.args.depth) empty ∙ at_end c.args.depth
