use Rattle.std.proofs.Common.{rules}
use Rattle.trace_types.proofs.RisingLemmas.{below-last}
use Rattle.trace_types.proofs.places.are_below.Goals as goal

pub returns-in-Some : goal.returns-in-Some
returns-in-Some c less = below-last c.args.id c.args.ops.now c.requires (λ d. search rules)
