use Rattle.std.proofs.Common.{◌∙◌, List, Bool, length, ap, subst, arith}
use Rattle.retention.specs.Components.{AreCycles}
use Rattle.retention.proofs.ending.Ending.of.Goals as goal

pub leaked_in-requires : goal.leaked_in-requires
leaked_in-requires c = omega (arith, c.in_ok-from_roots.ensures.long, c.in_ok-from_roots.from_roots.steps.ok.0)

pub of-requires : goal.of-requires
of-requires c = ap length c.deref.ensures.value ∙ c.in_ok-leaked.ensures.long

pub returns-clause-ending : goal.returns-clause-ending
returns-clause-ending c = record {
  roots = c.in_ok-from_roots.ensures;
  long = c.in_ok-leaked.ensures.long;
  leaked = c.in_ok-leaked.ensures.each;
  cycles = subst (λ (xs : List Bool). AreCycles c.args.graph xs c.in_ok-cycles.cycles) c.deref.ensures.value c.in_ok-cycles.ensures;
}
