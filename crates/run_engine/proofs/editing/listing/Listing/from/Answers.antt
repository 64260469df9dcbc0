use Rattle.std.proofs.Common.{◌≡◌, ℕ, ◌+◌, ◌<◌, ◌≤◌, List, ◌∷◌, ◌++◌, length, take, drop, ◌∙◌, ap, sym, arith}
use Rattle.trace_types.specs.Operation.{Operation}
use Rattle.run_engine.specs.inner.ListingView.{ListingView}
use Rattle.run_engine.specs.declared.editing.spans.Span.{Span}
use Rattle.run_engine.specs.declared.editing.spans.Span.TheVariants.{Old}
use Rattle.run_engine.specs.inner.Spans.{ops_in, laid, span_length, total, IsFound}
use Rattle.std.proofs.lemmas.List.{length-take-le}
use Rattle.run_engine.proofs.SpanLemmas.{view-length, found-there, found-inside, old-at, laid-from, from-old}
use Rattle.run_engine.proofs.editing.listing.Listing.from.Goals as goal

pub index-requires : goal.index-requires
index-requires c =
    let items : List Span = c.self.inside.spans.items in
    let base : List Operation = c.self.inside.base in
    let long : total items ≡ length c.args.self.now.ops = view-length base items c.args.self.now c.self.invariant.0 c.self.view_is in
    let place : ℕ = c.args.place in
    let i : ℕ = c.find-i.result.0 in
    let rest : ℕ = c.find-i.result.1 in
    let found : IsFound items place i rest = rw c.deref.ensures.value at c.find-i.ensures in
    let there : i < length items = found-there items place i rest found (omega (arith, c.requires)) in
    omega (arith, c.self.inside.spans.ok.0)

pub overflow_add-from : goal.overflow_add-from
overflow_add-from c =
    let items : List Span = c.self.inside.spans.items in
    let base : List Operation = c.self.inside.base in
    let long : total items ≡ length c.args.self.now.ops = view-length base items c.args.self.now c.self.invariant.0 c.self.view_is in
    let place : ℕ = c.args.place in
    let i : ℕ = c.find-i.result.0 in
    let rest : ℕ = c.find-i.result.1 in
    let found : IsFound items place i rest = rw c.deref.ensures.value at c.find-i.ensures in
    let there : i < length items = found-there items place i rest found (omega (arith, c.requires)) in
    let at = old-at items place i rest c.in-Old.from c.in-Old.len (length base) c.index.result.now found there c.self.invariant.0 c.index.ensures c.in-Old.is in
    omega (arith, at.less, at.fits, c.self.invariant.2)

pub overflow_sub-len : goal.overflow_sub-len
overflow_sub-len c =
    let items : List Span = c.self.inside.spans.items in
    let base : List Operation = c.self.inside.base in
    let long : total items ≡ length c.args.self.now.ops = view-length base items c.args.self.now c.self.invariant.0 c.self.view_is in
    let place : ℕ = c.args.place in
    let i : ℕ = c.find-i.result.0 in
    let rest : ℕ = c.find-i.result.1 in
    let found : IsFound items place i rest = rw c.deref.ensures.value at c.find-i.ensures in
    let there : i < length items = found-there items place i rest found (omega (arith, c.requires)) in
    let at = old-at items place i rest c.in-Old.from c.in-Old.len (length base) c.index.result.now found there c.self.invariant.0 c.index.ensures c.in-Old.is in
    omega (arith, at.less)

pub returns-in-New-clause-ops : goal.returns-in-New-clause-ops
returns-in-New-clause-ops c =
    let items : List Span = c.self.inside.spans.items in
    let base : List Operation = c.self.inside.base in
    let long : total items ≡ length c.args.self.now.ops = view-length base items c.args.self.now c.self.invariant.0 c.self.view_is in
    let place : ℕ = c.args.place in
    let i : ℕ = c.find-i.result.0 in
    let rest : ℕ = c.find-i.result.1 in
    let found : IsFound items place i rest = rw c.deref.ensures.value at c.find-i.ensures in
    let there : i < length items = found-there items place i rest found (omega (arith, c.requires)) in
    let less : rest < span_length c.index.result.now = found-inside items place i rest c.index.result.now found there c.index.ensures in
    let one : span_length c.index.result.now ≡ 1 = ap span_length c.in-New.is in
    let first : rest ≡ 0 = omega arith in
    let from_here : drop place c.args.self.now.ops ≡ drop rest (ops_in base c.index.result.now) ++ laid base (drop (i + 1) items) =
    ap (λ (v : ListingView). drop place v.ops) (sym c.self.view_is) ∙ laid-from base items place i rest c.index.result.now c.self.invariant.0 found there c.index.ensures in
    let here : drop place c.args.self.now.ops ≡ c.in-New.op.now ∷ laid base (drop (i + 1) items) =
    from_here ∙ ap (λ n. drop n (ops_in base c.index.result.now) ++ laid base (drop (i + 1) items)) first ∙ ap (λ s. ops_in base s ++ laid base (drop (i + 1) items)) c.in-New.is in
    c.from_ref.ensures.value ∙ sym (ap (λ n. take n (drop place c.args.self.now.ops)) c.from_ref.ensures.len ∙ ap (take 1) here)

pub returns-in-Old-clause-some : goal.returns-in-Old-clause-some
returns-in-Old-clause-some c =
    let items : List Span = c.self.inside.spans.items in
    let base : List Operation = c.self.inside.base in
    let long : total items ≡ length c.args.self.now.ops = view-length base items c.args.self.now c.self.invariant.0 c.self.view_is in
    let place : ℕ = c.args.place in
    let i : ℕ = c.find-i.result.0 in
    let rest : ℕ = c.find-i.result.1 in
    let found : IsFound items place i rest = rw c.deref.ensures.value at c.find-i.ensures in
    let there : i < length items = found-there items place i rest found (omega (arith, c.requires)) in
    let at = old-at items place i rest c.in-Old.from c.in-Old.len (length base) c.index.result.now found there c.self.invariant.0 c.index.ensures c.in-Old.is in
    let less : rest < c.in-Old.len = at.less in
    let fits : c.in-Old.from + c.in-Old.len ≤ length base = at.fits in
    let some : 0 < length c.from-ops.result.now = c.from-ops.ensures.some (omega arith) in
    let few : c.min-few.result ≤ length c.from-ops.result.now = omega arith in
    omega (arith, length-take-le c.min-few.result c.from-ops.result.now few)

pub returns-in-Old-clause-ops : goal.returns-in-Old-clause-ops
returns-in-Old-clause-ops c =
    let items : List Span = c.self.inside.spans.items in
    let base : List Operation = c.self.inside.base in
    let long : total items ≡ length c.args.self.now.ops = view-length base items c.args.self.now c.self.invariant.0 c.self.view_is in
    let place : ℕ = c.args.place in
    let i : ℕ = c.find-i.result.0 in
    let rest : ℕ = c.find-i.result.1 in
    let found : IsFound items place i rest = rw c.deref.ensures.value at c.find-i.ensures in
    let there : i < length items = found-there items place i rest found (omega (arith, c.requires)) in
    let from : ℕ = c.in-Old.from in
    let len : ℕ = c.in-Old.len in
    let at = old-at items place i rest from len (length base) c.index.result.now found there c.self.invariant.0 c.index.ensures c.in-Old.is in
    let less : rest < len = at.less in
    let ops : List Operation = c.from-ops.result.now in
    let few : ℕ = c.min-few.result in
    let more : List Operation = laid base (drop (i + 1) items) in
    let here : drop place c.args.self.now.ops ≡ drop rest (take len (drop from base)) ++ more =
    ap (λ (v : ListingView). drop place v.ops) (sym c.self.view_is) ∙ laid-from base items place i rest (Old from len) c.self.invariant.0 found there at.is in
    from-old base ops more from len rest few c.from-ops.ensures.ops (omega arith) (omega arith) (omega arith) at.fits ∙ ap (take (length (take few ops))) (sym here)
