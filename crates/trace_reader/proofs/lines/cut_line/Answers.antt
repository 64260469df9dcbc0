use Rattle.std.proofs.Common.{arith, sym, ◌==◌}
use Rattle.std.proofs.lemmas.Grind.{common_steps}
use Rattle.trace_reader.proofs.Cuts.{cut_none, cut_some}
use Rattle.trace_reader.proofs.lines.cut_line.Goals as goal

pub returns-in-Some : goal.returns-in-Some
returns-in-Some c =
    let cut = cut_some (λ b. b == 10) c.args.bytes.now c.in-Some.at 0 (sym c.in-Some.ensures) in grind (arith, common_steps, cut)

pub returns-in-None : goal.returns-in-None
returns-in-None c = cut_none (λ b. b == 10) c.args.bytes.now (sym c.in-None.ensures)
