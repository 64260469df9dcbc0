use Rattle.run_engine.proofs.StartLemmas.{start-there, rest-in-part}
use Rattle.run_engine.proofs.segments.block_list.find.Goals as goal

pub bounds-starts-i : goal.bounds-starts-i
bounds-starts-i c = start-there c.args.blocks.now c.args.starts.now c.args.index c.in-Some.i c.requires.starts (c.in-Some.ensures.block c.args.blocks.now c.requires.starts)

pub overflow_sub-result : goal.overflow_sub-result
overflow_sub-result c = (rest-in-part c.args.blocks.now c.args.starts.now c.args.index c.in-Some.i c.requires.starts (c.in-Some.ensures.block c.args.blocks.now c.requires.starts)).0

pub returns-in-Some-clause-place : goal.returns-in-Some-clause-place
returns-in-Some-clause-place c = (rest-in-part c.args.blocks.now c.args.starts.now c.args.index c.in-Some.i c.requires.starts (c.in-Some.ensures.block c.args.blocks.now c.requires.starts)).1
