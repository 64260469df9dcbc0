use Rattle.std.proofs.Common.{◌≡◌, ◌+◌, ◌≤◌, List, length, take, ◌∙◌, ap, sym, subst, refl, arith}
use Rattle.std.specs.Prelude.{insert}
use Rattle.trace_types.specs.Operation.{Operation}
use Rattle.trace_types.specs.declared.limits.TheConstants.{MAX_OPS}
use Rattle.run_engine.specs.inner.ListingView.{ListingView}
use Rattle.run_engine.specs.declared.editing.spans.Span.{Span}
use Rattle.run_engine.specs.declared.editing.spans.Span.TheVariants.{New}
use Rattle.run_engine.specs.inner.Spans.{laid, total, AreFit, IsFound}
use Rattle.run_engine.proofs.SpanLemmas.{view-length, AreFit-wider, insert-laid, insert-fit, insert-total}
use Rattle.run_engine.proofs.editing.listing.Listing.insert.Goals as goal

pub split-requires-clause-fit : goal.split-requires-clause-fit
split-requires-clause-fit c = AreFit-wider (length c.self.inside.base) MAX_OPS c.self.inside.spans.items c.self.invariant.2 c.self.invariant.0

pub split-requires-clause-within : goal.split-requires-clause-within
split-requires-clause-within c =
    let items : List Span = c.self.inside.spans.items in
    let base : List Operation = c.self.inside.base in
    let long : total items ≡ length c.args.self.now.ops = view-length base items c.args.self.now c.self.invariant.0 c.self.view_is in
    omega (arith, c.requires.within)

pub invariant_of-self : goal.invariant_of-self
invariant_of-self c =
    let items : List Span = c.self.inside.spans.items in
    let base : List Operation = c.self.inside.base in
    let long : total items ≡ length c.args.self.now.ops = view-length base items c.args.self.now c.self.invariant.0 c.self.view_is in
    let spans : List Span = c.split.new.spans.items in
    let fit : AreFit (length base) spans = c.split.ensures.fit (length base) c.self.invariant.0 in
    let same : total spans ≡ total items = c.split.ensures.total in
    (fit, c.self.invariant.1 ∙ sym same, c.self.invariant.2)

pub invariant_of-self-in_err-insert : goal.invariant_of-self-in_err-insert
invariant_of-self-in_err-insert c =
    let items : List Span = c.self.inside.spans.items in
    let base : List Operation = c.self.inside.base in
    let long : total items ≡ length c.args.self.now.ops = view-length base items c.args.self.now c.self.invariant.0 c.self.view_is in
    let spans : List Span = c.split.new.spans.items in
    let fit : AreFit (length base) spans = c.split.ensures.fit (length base) c.self.invariant.0 in
    let same : total spans ≡ total items = c.split.ensures.total in
    let kept = c.in_err-insert.ensures.items in
    rw kept (fit, c.self.invariant.1 ∙ sym same, c.self.invariant.2)

pub overflow_add-self : goal.overflow_add-self
overflow_add-self c =
    let items : List Span = c.self.inside.spans.items in
    let base : List Operation = c.self.inside.base in
    let long : total items ≡ length c.args.self.now.ops = view-length base items c.args.self.now c.self.invariant.0 c.self.view_is in
    omega (arith, c.requires.room, c.self.invariant.1)

pub invariant_of-self-2 : goal.invariant_of-self-2
invariant_of-self-2 c =
    let items : List Span = c.self.inside.spans.items in
    let base : List Operation = c.self.inside.base in
    let long : total items ≡ length c.args.self.now.ops = view-length base items c.args.self.now c.self.invariant.0 c.self.view_is in
    let spans : List Span = c.split.new.spans.items in
    let fit : AreFit (length base) spans = c.split.ensures.fit (length base) c.self.invariant.0 in
    let same : total spans ≡ total items = c.split.ensures.total in
    let more : total (insert spans c.in_ok-i.i (New c.args.op)) ≡ total spans + 1 = insert-total spans c.in_ok-i.i (New c.args.op) in
    let grown : c.self.inside.len + 1 ≡ total (insert spans c.in_ok-i.i (New c.args.op)) = omega (arith, c.self.invariant.1) in
    subst (λ ss. AreFit (length base) ss × (c.self.inside.len + 1 ≡ total ss) × (length base ≤ MAX_OPS)) (sym c.in_ok-insert.ensures.items)
    (insert-fit (length base) spans c.in_ok-i.i (New c.args.op) fit tt, grown, c.self.invariant.2)

pub returns-clause-ops : goal.returns-clause-ops
returns-clause-ops c =
    let items : List Span = c.self.inside.spans.items in
    let base : List Operation = c.self.inside.base in
    let long : total items ≡ length c.args.self.now.ops = view-length base items c.args.self.now c.self.invariant.0 c.self.view_is in
    let spans : List Span = c.split.new.spans.items in
    let fit : AreFit (length base) spans = c.split.ensures.fit (length base) c.self.invariant.0 in
    let same : total spans ≡ total items = c.split.ensures.total in
    let found : IsFound spans c.args.place c.in_ok-i.i 0 = c.in_ok-i.ensures.found in
    let at : total (take c.in_ok-i.i spans) ≡ c.args.place = omega (arith, found.place_is) in
    ap (laid base) c.in_ok-insert.ensures.items ∙ insert-laid base spans c.in_ok-i.i c.args.place (New c.args.op) c.args.op.now fit at refl
    ∙ ap (λ ops. insert ops c.args.place c.args.op.now) (c.split.ensures.laid base ∙ ap (λ (v : ListingView). v.ops) c.self.view_is)
