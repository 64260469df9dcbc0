use Rattle.std.proofs.Common.{arith, rules, subst}
use Rattle.std.proofs.lemmas.Grind.{common_steps}
use Rattle.trace_types.proofs.Distinct.{distinct-append}
use Rattle.trace_types.specs.Places.{ArePlaces}
use Rattle.trace_types.proofs.RisingLemmas.{places-append}
use Rattle.trace_types.proofs.trace.Trace.append.Goals as goal

pub invariant_of-self-2 : goal.invariant_of-self-2
invariant_of-self-2 c = (
  grind (arith, common_steps, distinct-append),
  subst (ArePlaces c.add.new.places) {y = c.push_reserved.new.self.items} (search rules) (places-append c.self.inside.ops.items c.args.op c.add.new.places (search rules) (search rules)),
)
