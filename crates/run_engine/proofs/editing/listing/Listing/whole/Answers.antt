use Rattle.std.proofs.Common.{◌≡◌, ℕ, ◌+◌, ◌-◌, ◌<◌, ◌≤◌, List, ◌++◌, length, take, drop, ◌∙◌, ap, sym, arith}
use Rattle.std.specs.Arc.{arc_value}
use Rattle.std.specs.Vec.{vec_len}
use Rattle.trace_types.specs.Operation.{Operation}
use Rattle.run_engine.specs.inner.ListingView.{ListingView}
use Rattle.run_engine.specs.declared.editing.spans.Span.{Span}
use Rattle.run_engine.specs.declared.editing.spans.Span.TheVariants.{Old}
use Rattle.run_engine.specs.inner.Spans.{laid, total, IsFound}
use Rattle.run_engine.proofs.SpanLemmas.{view-length, found-there, old-at, laid-from, whole-old}
use Rattle.run_engine.proofs.editing.listing.Listing.whole.Goals as goal

pub index-requires : goal.index-requires
index-requires c =
    let items : List Span = c.self.inside.spans.items in
    let base : List Operation = c.self.inside.base in
    let long : total items ≡ length c.args.self.now.ops = view-length base items c.args.self.now c.self.invariant.0 c.self.view_is in
    let i : ℕ = c.find-i.result.0 in
    let rest : ℕ = c.find-i.result.1 in
    let found : IsFound items c.args.from i rest = rw c.deref.ensures.value at c.find-i.ensures in
    let there : i < length items = found-there items c.args.from i rest found (omega (arith, c.requires)) in
    omega (arith, c.self.inside.spans.ok.0)

pub overflow_add-begin : goal.overflow_add-begin
overflow_add-begin c =
    let items : List Span = c.self.inside.spans.items in
    let base : List Operation = c.self.inside.base in
    let long : total items ≡ length c.args.self.now.ops = view-length base items c.args.self.now c.self.invariant.0 c.self.view_is in
    let i : ℕ = c.find-i.result.0 in
    let rest : ℕ = c.find-i.result.1 in
    let found : IsFound items c.args.from i rest = rw c.deref.ensures.value at c.find-i.ensures in
    let there : i < length items = found-there items c.args.from i rest found (omega (arith, c.requires)) in
    let at = old-at items c.args.from i rest c.in-Old.begin c.in-Old.len (length base) c.index.result.now found there c.self.invariant.0 c.index.ensures c.in-Old.is in
    omega (arith, at.less, at.fits, c.self.invariant.2)

pub overflow_sub-len : goal.overflow_sub-len
overflow_sub-len c =
    let items : List Span = c.self.inside.spans.items in
    let base : List Operation = c.self.inside.base in
    let long : total items ≡ length c.args.self.now.ops = view-length base items c.args.self.now c.self.invariant.0 c.self.view_is in
    let i : ℕ = c.find-i.result.0 in
    let rest : ℕ = c.find-i.result.1 in
    let found : IsFound items c.args.from i rest = rw c.deref.ensures.value at c.find-i.ensures in
    let there : i < length items = found-there items c.args.from i rest found (omega (arith, c.requires)) in
    let at = old-at items c.args.from i rest c.in-Old.begin c.in-Old.len (length base) c.index.result.now found there c.self.invariant.0 c.index.ensures c.in-Old.is in
    omega (arith, at.less)

pub returns-else-len-to : goal.returns-else-len-to
returns-else-len-to c =
    let items : List Span = c.self.inside.spans.items in
    let base : List Operation = c.self.inside.base in
    let long : total items ≡ length c.args.self.now.ops = view-length base items c.args.self.now c.self.invariant.0 c.self.view_is in
    let i : ℕ = c.find-i.result.0 in
    let rest : ℕ = c.find-i.result.1 in
    let found : IsFound items c.args.from i rest = rw c.deref.ensures.value at c.find-i.ensures in
    let there : i < length items = found-there items c.args.from i rest found (omega (arith, c.requires)) in
    let at = old-at items c.args.from i rest c.in-Old.begin c.in-Old.len (length base) c.index.result.now found there c.self.invariant.0 c.index.ensures c.in-Old.is in
    let less : rest < c.in-Old.len = at.less in
    let begin : ℕ = c.in-Old.begin in
    let len : ℕ = c.in-Old.len in
    let ops : List Operation = (arc_value c.in_ok-ops-in-Old.ops.now).items in
    let more : List Operation = laid base (drop (i + 1) items) in
    let wanted : length ops ≡ c.args.to - c.args.from = omega (arith, ap vec_len c.deref-in-Old.ensures, (arc_value c.in_ok-ops-in-Old.ops.now).ok.0) in
    let here : drop c.args.from c.args.self.now.ops ≡ drop rest (take len (drop begin base)) ++ more =
    ap (λ (v : ListingView). drop c.args.from v.ops) (sym c.self.view_is) ∙ laid-from base items c.args.from i rest (Old begin len) c.self.invariant.0 found there at.is in
    whole-old base ops more begin len rest c.in_ok-ops-in-Old.ensures (omega arith) (omega arith) at.fits
    ∙ ap (λ n. take n (drop rest (take len (drop begin base)) ++ more)) wanted ∙ ap (take (c.args.to - c.args.from)) (sym here)
