use Rattle.std.specs.Arc.{arc_value}
use Rattle.std.specs.Option.{option_map}
use Rattle.run_engine.proofs.BlockLemmas.{length-laid}
use Rattle.run_engine.proofs.segments.block.Block.len.Goals as goal

pub returns : goal.returns
returns c = length-laid (option_map arc_value c.self.inside.laid) c.self.inside.given_up c.self.inside.from c.self.inside.len (arc_value c.self.inside.segments).items c.args.self.now c.self.view_is c.self.invariant.0
