use Rattle.std.proofs.Common.{◌≡◌, ℕ, ◌+◌, ◌-◌, ◌<◌, List, ◌∷◌, ◌++◌, length, take, drop, ◌∙◌, ap, sym, subst, arith}
use Rattle.std.specs.Prelude.{slice_set}
use Rattle.std.proofs.lemmas.List.{length-take-le}
use Rattle.trace_types.specs.declared.limits.TheConstants.{MAX_OPS}
use Rattle.run_engine.specs.declared.editing.spans.Span.{Span}
use Rattle.run_engine.specs.declared.editing.spans.Span.TheVariants.{Old}
use Rattle.run_engine.specs.inner.Spans.{laid, span_length, total, AreFit, IsFound}
use Rattle.run_engine.proofs.SpanLemmas.{parts, set-split, split-laid, split-fit, split-total, split-found, found-inside, found-behind, old-at, IsOldAt}
use Rattle.run_engine.proofs.editing.spans.split.Goals.{In_default, In-Old, In_ok-insert}
use Rattle.run_engine.proofs.editing.spans.split.Goals as goal

pub returns-in_default-clause-found : goal.returns-in_default-clause-found
returns-in_default-clause-found c =
    let items : List Span = c.args.spans.now.items in
    let found : IsFound items c.args.place c.find-i.result.0 c.find-i.result.1 = rw c.deref.ensures.value at c.find-i.ensures in
    let there : c.find-i.result.0 < length items = found-behind items c.args.place c.find-i.result.0 c.find-i.result.1 found c.requires.within c.if-rest-eq0.false in
    let less : c.find-i.result.1 < span_length c.index.result.now = found-inside items c.args.place c.find-i.result.0 c.find-i.result.1 c.index.result.now found there c.index.ensures in
    let one : span_length c.index.result.now ≡ 1 = ap span_length c.in_default.is in
    let none : c.find-i.result.1 ≡ 0 = omega arith in
    absurd (c.if-rest-eq0.false none)

old_raw : (c : In-Old) → IsOldAt c.args.spans.now.items c.find-i.result.0 c.find-i.result.1 c.in-Old.from c.in-Old.len MAX_OPS
old_raw c =
    let items : List Span = c.args.spans.now.items in
    let found : IsFound items c.args.place c.find-i.result.0 c.find-i.result.1 = rw c.deref.ensures.value at c.find-i.ensures in
    let there : c.find-i.result.0 < length items = found-behind items c.args.place c.find-i.result.0 c.find-i.result.1 found c.requires.within c.if-rest-eq0.false in
    old-at items c.args.place c.find-i.result.0 c.find-i.result.1 c.in-Old.from c.in-Old.len MAX_OPS c.index.result.now found there c.requires.fit c.index.ensures c.in-Old.is

pub overflow_add-from : goal.overflow_add-from
overflow_add-from c = let k = old_raw (goal.at.overflow_add-from c).In-Old in omega (arith, k.less, k.fits)

pub overflow_sub-len : goal.overflow_sub-len
overflow_sub-len c = let k = old_raw (goal.at.overflow_sub-len c).In-Old in omega (arith, k.less)

old : (c : In_ok-insert) → IsOldAt c.args.spans.now.items c.find-i.result.0 c.find-i.result.1 c.in-Old.from c.in-Old.len MAX_OPS
old c =
    let items : List Span = c.args.spans.now.items in
    let found : IsFound items c.args.place c.find-i.result.0 c.find-i.result.1 = rw c.deref.ensures.value at c.find-i.ensures in
    let there : c.find-i.result.0 < length items = found-behind items c.args.place c.find-i.result.0 c.find-i.result.1 found c.requires.within c.if-rest-eq0.false in
    old-at items c.args.place c.find-i.result.0 c.find-i.result.1 c.in-Old.from c.in-Old.len MAX_OPS c.index.result.now found there c.requires.fit c.index.ensures c.in-Old.is

after : (c : In_ok-insert) → slice_set c.insert.new.self.items c.find-i.result.0 (Old c.in-Old.from c.find-i.result.1)
    ≡ take c.find-i.result.0 c.args.spans.now.items ++ (Old c.in-Old.from c.find-i.result.1 ∷ (Old (c.in-Old.from + c.find-i.result.1) (c.in-Old.len - c.find-i.result.1) ∷ drop (c.find-i.result.0 + 1) c.args.spans.now.items))
after c =
    let k = old c in
    ap (λ ss. slice_set ss c.find-i.result.0 (Old c.in-Old.from c.find-i.result.1)) c.in_ok-insert.ensures.items
    ∙ set-split c.args.spans.now.items c.find-i.result.0 (Old c.in-Old.from c.find-i.result.1) (Old (c.in-Old.from + c.find-i.result.1) (c.in-Old.len - c.find-i.result.1)) k.there

pub returns-clause-found : goal.returns-clause-found
returns-clause-found c =
    let d = (goal.at.returns-clause-found c).In_ok-insert in
    let k = old d in
    let i : ℕ = c.find-i.result.0 in
    let items : List Span = c.args.spans.now.items in
    let found : IsFound items c.args.place i c.find-i.result.1 = rw c.deref.ensures.value at c.find-i.ensures in
    let there : i < length items = k.there in
    subst (λ ss. IsFound ss c.args.place (i + 1) 0) (sym (after d))
    (split-found (take i items) (drop (i + 1) items) c.in-Old.from c.in-Old.len c.find-i.result.1 i c.args.place k.less (length-take-le i items (omega arith)) found.place_is)

pub returns-clause-laid : goal.returns-clause-laid
returns-clause-laid c base =
    let d = (goal.at.returns-clause-laid c).In_ok-insert in
    let k = old d in
    let i : ℕ = c.find-i.result.0 in
    let items : List Span = c.args.spans.now.items in
    let less : c.find-i.result.1 < c.in-Old.len = k.less in
    ap (laid base) (after d) ∙ split-laid base (take i items) (drop (i + 1) items) c.in-Old.from c.in-Old.len c.find-i.result.1 (omega arith)
    ∙ ap (laid base) (sym (parts items i (Old c.in-Old.from c.in-Old.len) k.there k.is))

pub returns-clause-fit : goal.returns-clause-fit
returns-clause-fit c n h =
    let d = (goal.at.returns-clause-fit c).In_ok-insert in
    let k = old d in
    let i : ℕ = c.find-i.result.0 in
    let items : List Span = c.args.spans.now.items in
    let less : c.find-i.result.1 < c.in-Old.len = k.less in
    subst (AreFit n) (sym (after d)) (split-fit n (take i items) (drop (i + 1) items) c.in-Old.from c.in-Old.len c.find-i.result.1 (omega arith)
    (subst (AreFit n) (parts items i (Old c.in-Old.from c.in-Old.len) k.there k.is) h))

pub returns-clause-total : goal.returns-clause-total
returns-clause-total c =
    let d = (goal.at.returns-clause-total c).In_ok-insert in
    let k = old d in
    let i : ℕ = c.find-i.result.0 in
    let items : List Span = c.args.spans.now.items in
    let less : c.find-i.result.1 < c.in-Old.len = k.less in
    ap total (after d) ∙ split-total (take i items) (drop (i + 1) items) c.in-Old.from c.in-Old.len c.find-i.result.1 (omega arith)
    ∙ ap total (sym (parts items i (Old c.in-Old.from c.in-Old.len) k.there k.is))
