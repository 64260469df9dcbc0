use Rattle.std.proofs.Common.{◌≡◌, ◌<◌, List, length, take, ◌∙◌, ap, sym, arith}
use Rattle.std.specs.Prelude.{remove}
use Rattle.trace_types.specs.Operation.{Operation}
use Rattle.trace_types.specs.declared.limits.TheConstants.{MAX_OPS}
use Rattle.run_engine.specs.inner.ListingView.{ListingView}
use Rattle.run_engine.specs.declared.editing.spans.Span.{Span}
use Rattle.run_engine.specs.inner.Spans.{laid, total, AreFit, IsFound}
use Rattle.run_engine.proofs.SpanLemmas.{view-length, AreFit-wider, found-there}
use Rattle.run_engine.proofs.editing.listing.Listing.remove.Goals as goal

pub split-requires-clause-fit : goal.split-requires-clause-fit
split-requires-clause-fit c = AreFit-wider (length c.self.inside.base) MAX_OPS c.self.inside.spans.items c.self.invariant.2 c.self.invariant.0

pub split-requires-clause-within : goal.split-requires-clause-within
split-requires-clause-within c =
    let items : List Span = c.self.inside.spans.items in
    let base : List Operation = c.self.inside.base in
    let long : total items ≡ length c.args.self.now.ops = view-length base items c.args.self.now c.self.invariant.0 c.self.view_is in
    omega (arith, c.requires)

pub invariant_of-self : goal.invariant_of-self
invariant_of-self c =
    let items : List Span = c.self.inside.spans.items in
    let base : List Operation = c.self.inside.base in
    let long : total items ≡ length c.args.self.now.ops = view-length base items c.args.self.now c.self.invariant.0 c.self.view_is in
    let spans : List Span = c.split.new.spans.items in
    let fit : AreFit (length base) spans = c.split.ensures.fit (length base) c.self.invariant.0 in
    let same : total spans ≡ total items = c.split.ensures.total in
    (fit, c.self.invariant.1 ∙ sym same, c.self.invariant.2)

pub cut-requires-clause-fit : goal.cut-requires-clause-fit
cut-requires-clause-fit c = c.split.ensures.fit MAX_OPS (AreFit-wider (length c.self.inside.base) MAX_OPS c.self.inside.spans.items c.self.invariant.2 c.self.invariant.0)

pub cut-requires-clause-within : goal.cut-requires-clause-within
cut-requires-clause-within c =
    let items : List Span = c.self.inside.spans.items in
    let base : List Operation = c.self.inside.base in
    let long : total items ≡ length c.args.self.now.ops = view-length base items c.args.self.now c.self.invariant.0 c.self.view_is in
    let spans : List Span = c.split.new.spans.items in
    let fit : AreFit (length base) spans = c.split.ensures.fit (length base) c.self.invariant.0 in
    let same : total spans ≡ total items = c.split.ensures.total in
    found-there spans c.args.place c.in_ok-i.i 0 c.in_ok-i.ensures.found (omega (arith, c.requires))

pub cut-requires-clause-some : goal.cut-requires-clause-some
cut-requires-clause-some c =
    let items : List Span = c.self.inside.spans.items in
    let base : List Operation = c.self.inside.base in
    let long : total items ≡ length c.args.self.now.ops = view-length base items c.args.self.now c.self.invariant.0 c.self.view_is in
    let spans : List Span = c.split.new.spans.items in
    let fit : AreFit (length base) spans = c.split.ensures.fit (length base) c.self.invariant.0 in
    let same : total spans ≡ total items = c.split.ensures.total in
    let found : IsFound spans c.args.place c.in_ok-i.i 0 = c.in_ok-i.ensures.found in
    let there : c.in_ok-i.i < length spans = found-there spans c.args.place c.in_ok-i.i 0 found (omega (arith, c.requires)) in
    omega (arith, found.place_is, found.inside there)

pub invariant_of-self-2 : goal.invariant_of-self-2
invariant_of-self-2 c =
    let items : List Span = c.self.inside.spans.items in
    let base : List Operation = c.self.inside.base in
    let long : total items ≡ length c.args.self.now.ops = view-length base items c.args.self.now c.self.invariant.0 c.self.view_is in
    let spans : List Span = c.split.new.spans.items in
    let fit : AreFit (length base) spans = c.split.ensures.fit (length base) c.self.invariant.0 in
    let same : total spans ≡ total items = c.split.ensures.total in
    (c.cut.ensures.fit (length base) fit, omega (arith, c.cut.ensures.total, c.self.invariant.1), c.self.invariant.2)

pub returns-clause-ops : goal.returns-clause-ops
returns-clause-ops c =
    let items : List Span = c.self.inside.spans.items in
    let base : List Operation = c.self.inside.base in
    let long : total items ≡ length c.args.self.now.ops = view-length base items c.args.self.now c.self.invariant.0 c.self.view_is in
    let spans : List Span = c.split.new.spans.items in
    let fit : AreFit (length base) spans = c.split.ensures.fit (length base) c.self.invariant.0 in
    let same : total spans ≡ total items = c.split.ensures.total in
    let found : IsFound spans c.args.place c.in_ok-i.i 0 = c.in_ok-i.ensures.found in
    let at : total (take c.in_ok-i.i spans) ≡ c.args.place = omega (arith, found.place_is) in
    c.cut.ensures.laid base fit ∙ ap (remove (laid base spans)) at ∙ ap (λ ops. remove ops c.args.place) (c.split.ensures.laid base ∙ ap (λ (v : ListingView). v.ops) c.self.view_is)
