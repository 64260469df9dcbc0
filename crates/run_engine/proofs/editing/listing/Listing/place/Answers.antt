use Rattle.std.proofs.Common.{◌≡◌, ℕ, ◌+◌, ◌<◌, List, ◌++◌, length, take, drop, refl, ap, sym, subst, ◌∙◌, arith}
use Rattle.std.specs.Prelude.{◌==◌, Some, None}
use Rattle.std.specs.List.{position_from}
use Rattle.trace_types.specs.Operation.{Operation}
use Rattle.trace_types.specs.Trace.{place_of}
use Rattle.run_engine.specs.inner.ListingView.{ListingView}
use Rattle.run_engine.specs.declared.editing.spans.Span.{Span}
use Rattle.run_engine.specs.inner.Spans.{ops_in, laid, span_length, total, Fits, AreFit}
use Rattle.run_engine.proofs.ListingLemmas.{around}
use Rattle.run_engine.proofs.SpanLemmas.{total-next, total-around, fit-at, length-ops_in, view-length}
use Rattle.run_engine.proofs.NumberLemmas.{place-here, place-next, place_within, some_within}
use Rattle.run_engine.proofs.editing.listing.Listing.place.Goals as goal

pub loop-span-init : goal.loop-span-init
loop-span-init c =
    let spans_is = c.as_slice-spans.ensures.value in
    let base_is : c.self.inside.base ≡ c.args.self.now.base = ap (λ (v : ListingView). v.base) c.self.view_is in
    record {
      at = refl;
      place = ap (place_of c.args.id) (sym (ap (laid c.args.self.now.base) spans_is ∙ ap (λ b. laid b c.self.inside.spans.items) (sym base_is) ∙ ap (λ (v : ListingView). v.ops) c.self.view_is));
    }

pub overflow_add-result : goal.overflow_add-result
overflow_add-result c =
    let spans : List Span = c.as_slice-spans.result.now in
    let id : ℕ = c.args.id in
    let base : List Operation = c.args.self.now.base in
    let base_is : c.self.inside.base ≡ base = ap (λ (v : ListingView). v.base) c.self.view_is in
    let fit : AreFit (length base) spans = subst (λ b. AreFit (length b) spans) base_is (subst (AreFit (length c.self.inside.base)) (sym c.as_slice-spans.ensures.value) c.self.invariant.0) in
    let i : ℕ = c.loop-span.span-index in
    let s : Span = c.span-item.result in
    let fits : Fits (length base) s = fit-at (length base) spans i s fit c.loop-span-test.true c.span-item.is in
    let stands : c.place-stands.result ≡ place_of id base = c.place-stands.ensures ∙ ap (place_of id) base_is in
    let next : total (take (i + 1) spans) ≡ total (take i spans) + span_length s = total-next spans i s c.loop-span-test.true c.span-item.is in
    let whole : total spans ≡ total c.self.inside.spans.items = ap total c.as_slice-spans.ensures.value in
    let long : total c.self.inside.spans.items ≡ length c.args.self.now.ops = view-length c.self.inside.base c.self.inside.spans.items c.args.self.now c.self.invariant.0 c.self.view_is in
    let around_it : laid base (drop i spans) ≡ ops_in base s ++ laid base (drop (i + 1) spans) = ap (laid base) (around spans i s c.loop-span-test.true c.span-item.is) in
    let here : Some c.in-Some.place ≡ place_of id (ops_in base s) = c.in-Some.ensures base c.requires.base.distinct stands fits in
    let less : c.in-Some.place < length (ops_in base s) = place_within id c.in-Some.place (ops_in base s) (sym here) in
    omega (arith, length-ops_in base s fits, total-around spans (i + 1), c.requires.trace.few, c.loop-span.invariant.at)

pub returns-in-Some-clause-value : goal.returns-in-Some-clause-value
returns-in-Some-clause-value c =
    let spans : List Span = c.as_slice-spans.result.now in
    let id : ℕ = c.args.id in
    let base : List Operation = c.args.self.now.base in
    let base_is : c.self.inside.base ≡ base = ap (λ (v : ListingView). v.base) c.self.view_is in
    let fit : AreFit (length base) spans = subst (λ b. AreFit (length b) spans) base_is (subst (AreFit (length c.self.inside.base)) (sym c.as_slice-spans.ensures.value) c.self.invariant.0) in
    let i : ℕ = c.loop-span.span-index in
    let s : Span = c.span-item.result in
    let fits : Fits (length base) s = fit-at (length base) spans i s fit c.loop-span-test.true c.span-item.is in
    let stands : c.place-stands.result ≡ place_of id base = c.place-stands.ensures ∙ ap (place_of id) base_is in
    let next : total (take (i + 1) spans) ≡ total (take i spans) + span_length s = total-next spans i s c.loop-span-test.true c.span-item.is in
    let whole : total spans ≡ total c.self.inside.spans.items = ap total c.as_slice-spans.ensures.value in
    let long : total c.self.inside.spans.items ≡ length c.args.self.now.ops = view-length c.self.inside.base c.self.inside.spans.items c.args.self.now c.self.invariant.0 c.self.view_is in
    let around_it : laid base (drop i spans) ≡ ops_in base s ++ laid base (drop (i + 1) spans) = ap (laid base) (around spans i s c.loop-span-test.true c.span-item.is) in
    let here : Some c.in-Some.place ≡ place_of id (ops_in base s) = c.in-Some.ensures base c.requires.base.distinct stands fits in
    let value : Some (c.loop-span.at + c.in-Some.place) ≡ place_of id c.args.self.now.ops =
    sym (c.loop-span.invariant.place ∙ ap (position_from (λ op. op.id == id) c.loop-span.at) around_it ∙ place-here id c.loop-span.at c.in-Some.place (ops_in base s) (laid base (drop (i + 1) spans)) (sym here)) in
    value

pub returns-in-Some-clause-within : goal.returns-in-Some-clause-within
returns-in-Some-clause-within c =
    let spans : List Span = c.as_slice-spans.result.now in
    let id : ℕ = c.args.id in
    let base : List Operation = c.args.self.now.base in
    let base_is : c.self.inside.base ≡ base = ap (λ (v : ListingView). v.base) c.self.view_is in
    let fit : AreFit (length base) spans = subst (λ b. AreFit (length b) spans) base_is (subst (AreFit (length c.self.inside.base)) (sym c.as_slice-spans.ensures.value) c.self.invariant.0) in
    let i : ℕ = c.loop-span.span-index in
    let s : Span = c.span-item.result in
    let fits : Fits (length base) s = fit-at (length base) spans i s fit c.loop-span-test.true c.span-item.is in
    let stands : c.place-stands.result ≡ place_of id base = c.place-stands.ensures ∙ ap (place_of id) base_is in
    let next : total (take (i + 1) spans) ≡ total (take i spans) + span_length s = total-next spans i s c.loop-span-test.true c.span-item.is in
    let whole : total spans ≡ total c.self.inside.spans.items = ap total c.as_slice-spans.ensures.value in
    let long : total c.self.inside.spans.items ≡ length c.args.self.now.ops = view-length c.self.inside.base c.self.inside.spans.items c.args.self.now c.self.invariant.0 c.self.view_is in
    let around_it : laid base (drop i spans) ≡ ops_in base s ++ laid base (drop (i + 1) spans) = ap (laid base) (around spans i s c.loop-span-test.true c.span-item.is) in
    let here : Some c.in-Some.place ≡ place_of id (ops_in base s) = c.in-Some.ensures base c.requires.base.distinct stands fits in
    let value : Some (c.loop-span.at + c.in-Some.place) ≡ place_of id c.args.self.now.ops =
    sym (c.loop-span.invariant.place ∙ ap (position_from (λ op. op.id == id) c.loop-span.at) around_it ∙ place-here id c.loop-span.at c.in-Some.place (ops_in base s) (laid base (drop (i + 1) spans)) (sym here)) in
    some_within id c.args.self.now.ops (Some (c.loop-span.at + c.in-Some.place)) value

pub loop-span-preserved : goal.loop-span-preserved
loop-span-preserved c =
    let spans : List Span = c.as_slice-spans.result.now in
    let id : ℕ = c.args.id in
    let base : List Operation = c.args.self.now.base in
    let base_is : c.self.inside.base ≡ base = ap (λ (v : ListingView). v.base) c.self.view_is in
    let fit : AreFit (length base) spans = subst (λ b. AreFit (length b) spans) base_is (subst (AreFit (length c.self.inside.base)) (sym c.as_slice-spans.ensures.value) c.self.invariant.0) in
    let i : ℕ = c.loop-span.span-index in
    let s : Span = c.span-item.result in
    let fits : Fits (length base) s = fit-at (length base) spans i s fit c.loop-span-test.true c.span-item.is in
    let stands : c.place-stands.result ≡ place_of id base = c.place-stands.ensures ∙ ap (place_of id) base_is in
    let next : total (take (i + 1) spans) ≡ total (take i spans) + span_length s = total-next spans i s c.loop-span-test.true c.span-item.is in
    let whole : total spans ≡ total c.self.inside.spans.items = ap total c.as_slice-spans.ensures.value in
    let long : total c.self.inside.spans.items ≡ length c.args.self.now.ops = view-length c.self.inside.base c.self.inside.spans.items c.args.self.now c.self.invariant.0 c.self.view_is in
    let around_it : laid base (drop i spans) ≡ ops_in base s ++ laid base (drop (i + 1) spans) = ap (laid base) (around spans i s c.loop-span-test.true c.span-item.is) in
    let none : None ≡ place_of id (ops_in base s) = c.in_default.ensures base c.requires.base.distinct stands fits in
    let own : length (ops_in base s) ≡ c.len-at.result = length-ops_in base s fits ∙ sym c.len-at.ensures in
    record {
      at = omega (arith, c.loop-span.invariant.at);
      place =
          c.loop-span.invariant.place ∙ ap (position_from (λ op. op.id == id) c.loop-span.at) around_it
          ∙ place-next id c.loop-span.at (ops_in base s) (laid base (drop (i + 1) spans)) (sym none)
          ∙ ap (λ n. position_from (λ op. op.id == id) (c.loop-span.at + n) (laid base (drop (i + 1) spans))) own;
    }

pub overflow_add-at : goal.overflow_add-at
overflow_add-at c =
    let spans : List Span = c.as_slice-spans.result.now in
    let id : ℕ = c.args.id in
    let base : List Operation = c.args.self.now.base in
    let base_is : c.self.inside.base ≡ base = ap (λ (v : ListingView). v.base) c.self.view_is in
    let fit : AreFit (length base) spans = subst (λ b. AreFit (length b) spans) base_is (subst (AreFit (length c.self.inside.base)) (sym c.as_slice-spans.ensures.value) c.self.invariant.0) in
    let i : ℕ = c.loop-span.span-index in
    let s : Span = c.span-item.result in
    let fits : Fits (length base) s = fit-at (length base) spans i s fit c.loop-span-test.true c.span-item.is in
    let stands : c.place-stands.result ≡ place_of id base = c.place-stands.ensures ∙ ap (place_of id) base_is in
    let next : total (take (i + 1) spans) ≡ total (take i spans) + span_length s = total-next spans i s c.loop-span-test.true c.span-item.is in
    let whole : total spans ≡ total c.self.inside.spans.items = ap total c.as_slice-spans.ensures.value in
    let long : total c.self.inside.spans.items ≡ length c.args.self.now.ops = view-length c.self.inside.base c.self.inside.spans.items c.args.self.now c.self.invariant.0 c.self.view_is in
    let around_it : laid base (drop i spans) ≡ ops_in base s ++ laid base (drop (i + 1) spans) = ap (laid base) (around spans i s c.loop-span-test.true c.span-item.is) in
    omega (arith, total-around spans (i + 1), c.requires.trace.few, c.loop-span.invariant.at, c.len-at.ensures)
