use Rattle.std.proofs.Common.{◌∙◌, ap, sym, subst, length, arith}
use Rattle.trace_types.specs.Trace.{place_of}
use Rattle.run_engine.specs.inner.Parts.{AreBetween}
use Rattle.run_engine.specs.Segments.{trace_of}
use Rattle.run_engine.proofs.MeasureLemmas.{same-trace}
use Rattle.run_engine.proofs.segments.block.Block.place.Goals as goal

pub returns-then-exclude : goal.returns-then-exclude
returns-then-exclude c =
    sym (c.exclude.ensures (trace_of c.args.self.now) (subst (λ ss. AreBetween c.self.inside.bounds.least c.self.inside.bounds.greatest (trace_of ss)) c.self.view_is c.self.invariant.3.between) c.if-exclude.true)

pub place_in-requires : goal.place_in-requires
place_in-requires c =
    let same = same-trace c.stored.result.now c.args.self.now c.stored.ensures in
    let few = c.self.invariant.3.few in
    let all = c.self.invariant.3.ops_are in
    omega (arith, ap length same, ap (λ ss. length (trace_of ss)) c.self.view_is)

pub returns : goal.returns
returns c = c.place_in.ensures ∙ ap (place_of c.args.id) (same-trace c.stored.result.now c.args.self.now c.stored.ensures)
