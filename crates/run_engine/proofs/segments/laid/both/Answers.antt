use Rattle.std.proofs.Common.{ap}
use Rattle.std.specs.Arc.{arc_value}
use Rattle.std.specs.Option.{option_map}
use Rattle.run_engine.proofs.BlockLemmas.{both-laid}
use Rattle.run_engine.proofs.segments.laid.both.Goals as goal

pub returns-in_ok-new-in-Some : goal.returns-in_ok-new-in-Some
returns-in_ok-new-in-Some c =
    both-laid (option_map arc_value c.args.laid.now) (arc_value c.in-Some.exchange) c.deref.result.now c.deref-in-Some.result.now (arc_value c.differing-next.result.now) c.in_ok-then-in-Some.field-0 (arc_value c.in_ok-new-in-Some.field-0) c.args.remains.now
    (ap (option_map arc_value) c.in-Some.is) c.deref.ensures c.deref-in-Some.ensures c.in_ok-then-in-Some.ensures c.in_ok-new-in-Some.ensures.ok c.differing-next.ensures.patch
