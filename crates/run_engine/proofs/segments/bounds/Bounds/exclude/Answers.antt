use mathlib.Core.Logic.{inl, inr}
use Rattle.std.proofs.lemmas.Bool.{ltb-true}
use Rattle.run_engine.proofs.NumberLemmas.{outside}
use Rattle.run_engine.proofs.segments.bounds.Bounds.exclude.Goals as goal

pub returns-then-id-self : goal.returns-then-id-self
returns-then-id-self c ops within out = outside c.args.id c.args.self.now.least c.args.self.now.greatest 0 ops within (inl c.if-id-self.true)

pub returns-else-id-self : goal.returns-else-id-self
returns-else-id-self c ops within out = outside c.args.id c.args.self.now.least c.args.self.now.greatest 0 ops within (inr (ltb-true c.args.self.now.greatest c.args.id out))
