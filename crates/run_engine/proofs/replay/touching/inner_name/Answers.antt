use Rattle.std.proofs.Common.{◌<◌, ◌∙◌, Some, ap, sym, length, arith, true}
use Rattle.std.specs.Prelude.{option_to_list}
use Rattle.run_engine.proofs.NameLemmas.{due-name}
use Rattle.run_engine.proofs.OnwardLemmas.{inner-name}
use Rattle.run_engine.proofs.replay.touching.inner_name.Goals as goal

pub returns : goal.returns
returns c =
    let lt : c.args.at < length c.args.ops.now.ops = omega (arith, c.len.ensures, c.if-at-len.false) in
    ap option_to_list (ap Some c.id.ensures.value ∙ inner-name c.args.ops.now.ops c.args.at c.at-op.result.now (omega (arith, c.if-at-eq0.false)) lt c.at-op.ensures) ∙ sym (due-name c.args.ops.now.ops c.args.at true lt)
