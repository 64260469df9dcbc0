use Rattle.std.proofs.Common.{◌≡◌, ℕ, ◌+◌, ◌-◌, ◌<◌, ◌≤◌, List, [], ◌∷◌, length, take, get_or, ◌∙◌, ap, sym, subst, arith}
use Rattle.run_engine.specs.declared.editing.spans.Span.{Span}
use Rattle.run_engine.specs.declared.editing.spans.Span.TheVariants.{Old}
use Rattle.run_engine.specs.inner.Spans.{ops_in, laid, span_length, total, AreFit}
use Rattle.run_engine.proofs.SpanLemmas.{total-next, fit-at, cut-laid, cut-fit, cut-total, cut-old_span, set-parts, remove-parts}
use Rattle.run_engine.proofs.editing.spans.cut.Goals as goal

at : (items : List Span) (i from len : ℕ) (s : Span) → s ≡ get_or items i s → s ≡ Old from len → Old from len ≡ get_or items i (Old from len)
at items i from len s is e = subst (λ t. t ≡ get_or items i t) e is

some : (items : List Span) (i from len : ℕ) → i < length items → Old from len ≡ get_or items i (Old from len) → total (take i items) < total (take (i + 1) items) → 0 < len
some items i from len lt is less = omega (arith, total-next items i (Old from len) lt is)

pub overflow_sub-len : goal.overflow_sub-len
overflow_sub-len c =
    let items : List Span = c.args.spans.now.items in
    let more : 0 < c.in-Old.len = some items c.args.i c.in-Old.from c.in-Old.len c.requires.within (at items c.args.i c.in-Old.from c.in-Old.len c.index.result.now c.index.ensures c.in-Old.is) c.requires.some in
    omega arith

pub returns-in-Old-clause-laid : goal.returns-in-Old-clause-laid
returns-in-Old-clause-laid c base fit =
    let items : List Span = c.args.spans.now.items in
    let from : ℕ = c.in-Old.from in
    let len : ℕ = c.in-Old.len in
    let is : Old from len ≡ get_or items c.args.i (Old from len) = at items c.args.i from len c.index.result.now c.index.ensures c.in-Old.is in
    let more : 0 < len = some items c.args.i from len c.requires.within is c.requires.some in
    let fits : from + len ≤ length base = fit-at (length base) items c.args.i (Old from len) fit c.requires.within is in
    ap (laid base) (set-parts items c.args.i (Old (from + 1) (len - 1)) c.requires.within) ∙ cut-old_span base items c.args.i from len fit c.requires.within is more fits

pub returns-in-Old-clause-fit : goal.returns-in-Old-clause-fit
returns-in-Old-clause-fit c n fit =
    let items : List Span = c.args.spans.now.items in
    let from : ℕ = c.in-Old.from in
    let len : ℕ = c.in-Old.len in
    let is : Old from len ≡ get_or items c.args.i (Old from len) = at items c.args.i from len c.index.result.now c.index.ensures c.in-Old.is in
    let more : 0 < len = some items c.args.i from len c.requires.within is c.requires.some in
    let fits : from + len ≤ n = fit-at n items c.args.i (Old from len) fit c.requires.within is in
    subst (AreFit n) (sym (set-parts items c.args.i (Old (from + 1) (len - 1)) c.requires.within))
    (cut-fit n items (Old (from + 1) (len - 1) ∷ []) c.args.i (Old from len) fit c.requires.within is (omega arith, tt))

pub returns-in-Old-clause-total : goal.returns-in-Old-clause-total
returns-in-Old-clause-total c =
    let items : List Span = c.args.spans.now.items in
    let from : ℕ = c.in-Old.from in
    let len : ℕ = c.in-Old.len in
    let is : Old from len ≡ get_or items c.args.i (Old from len) = at items c.args.i from len c.index.result.now c.index.ensures c.in-Old.is in
    let more : 0 < len = some items c.args.i from len c.requires.within is c.requires.some in
    ap (λ ss. total ss + 1) (set-parts items c.args.i (Old (from + 1) (len - 1)) c.requires.within)
    ∙ cut-total items (Old (from + 1) (len - 1) ∷ []) c.args.i (Old from len) c.requires.within is (omega arith)

pub returns-clause-laid : goal.returns-clause-laid
returns-clause-laid c base fit =
    let items : List Span = c.args.spans.now.items in
    ap (laid base) (c.remove.ensures.items ∙ remove-parts items c.args.i)
    ∙ cut-laid base items [] c.args.i c.index.result.now c.in_default.field-0.now fit c.requires.within c.index.ensures (ap (ops_in base) c.in_default.is)

pub returns-clause-total : goal.returns-clause-total
returns-clause-total c =
    let items : List Span = c.args.spans.now.items in
    ap (λ ss. total ss + 1) (c.remove.ensures.items ∙ remove-parts items c.args.i)
    ∙ cut-total items [] c.args.i c.index.result.now c.requires.within c.index.ensures (sym (ap span_length c.in_default.is))
