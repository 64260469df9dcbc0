use Rattle.std.proofs.Common.{arith, rules}
use Rattle.std.specs.Arc.{arc_value}
use Rattle.std.specs.Option.{option_map}
use Rattle.run_engine.proofs.BlockLemmas.{one-alone}
use Rattle.run_engine.proofs.segments.block.Block.alone.Goals as goal

pub returns : goal.returns
returns c =
    one-alone (option_map arc_value c.self.inside.laid) c.self.inside.given_up c.self.inside.from c.self.inside.len (arc_value c.self.inside.segments).items c.args.self.now c.index.result.now c.self.view_is c.self.invariant.0
    (omega (arith, c.if-self-ne1.false)) (search rules) (search rules) (search rules)
