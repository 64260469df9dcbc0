use Rattle.std.proofs.Common.{◌≡◌, ℕ, ◌-◌, ◌<◌, List, length, subst, arith}
use Rattle.trace_types.specs.Operation.{Operation}
use Rattle.run_engine.specs.inner.ListingView.{ListingView}
use Rattle.run_engine.specs.declared.editing.spans.Span.{Span}
use Rattle.run_engine.specs.inner.Spans.{laid, total, IsFound}
use Rattle.run_engine.specs.HeadAndTail.{AreAlike}
use Rattle.run_engine.proofs.SpanLemmas.{view-length, found-there, old-at, alike-span}
use Rattle.run_engine.proofs.editing.listing.Listing.alike.Goals as goal

pub index-requires : goal.index-requires
index-requires c =
    let items : List Span = c.self.inside.spans.items in
    let base : List Operation = c.self.inside.base in
    let long : total items ≡ length c.args.self.now.ops = view-length base items c.args.self.now c.self.invariant.0 c.self.view_is in
    let place : ℕ = c.args.place in
    let i : ℕ = c.find-i.result.0 in
    let rest : ℕ = c.find-i.result.1 in
    let found : IsFound items place i rest = rw c.deref.ensures.value at c.find-i.ensures in
    let there : i < length items = found-there items place i rest found (omega (arith, c.requires)) in
    omega (arith, c.self.inside.spans.ok.0)

pub returns-in-Old : goal.returns-in-Old
returns-in-Old c =
    let items : List Span = c.self.inside.spans.items in
    let base : List Operation = c.self.inside.base in
    let long : total items ≡ length c.args.self.now.ops = view-length base items c.args.self.now c.self.invariant.0 c.self.view_is in
    let place : ℕ = c.args.place in
    let i : ℕ = c.find-i.result.0 in
    let rest : ℕ = c.find-i.result.1 in
    let found : IsFound items place i rest = rw c.deref.ensures.value at c.find-i.ensures in
    let there : i < length items = found-there items place i rest found (omega (arith, c.requires)) in
    let at = old-at items place i rest c.in-Old.from c.in-Old.len (length base) c.index.result.now found there c.self.invariant.0 c.index.ensures c.in-Old.is in
    let found_is : AreAlike base (laid base items) place c.in-Old.from (place - rest) c.in-Old.len = alike-span base items place i rest c.in-Old.from c.in-Old.len c.self.invariant.0 found at in
    subst (λ (v : ListingView). AreAlike v.base v.ops place c.in-Old.from (place - rest) c.in-Old.len) c.self.view_is found_is
