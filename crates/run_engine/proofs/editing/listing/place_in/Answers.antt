use Rattle.std.proofs.Common.{◌≡◌, ◌+◌, ◌-◌, ◌<◌, ◌≤◌, length, ◌∙◌, ap, sym, subst}
use Rattle.std.specs.Prelude.{Some, None, ◌⊎◌}
use mathlib.Core.Logic.{inl, inr}
use Rattle.trace_types.specs.Trace.{place_of}
use Rattle.run_engine.specs.inner.Spans.{ops_in, Fits}
use Rattle.run_engine.proofs.NumberLemmas.{in-part-some, in-part-none}
use Rattle.run_engine.proofs.editing.listing.place_in.Goals.{else-from-place-via-then-from-place+else-place-from, else-from-place-via-else-from-place}
use Rattle.run_engine.proofs.editing.listing.place_in.Goals as goal

pub returns-then-place-from : goal.returns-then-place-from
returns-then-place-from c base d at fits =
    let within : c.in-Old.from + c.in-Old.len ≤ length base = subst (Fits (length base)) c.in-Old.is fits in
    in-part-some c.args.id c.in-Old.from c.in-Old.len c.in-Some.place base d within (sym c.in-Some.is ∙ at) c.if-from-place.true c.if-place-from.true ∙ ap (λ s. place_of c.args.id (ops_in base s)) (sym c.in-Old.is)

pub returns-else-from-place : goal.returns-else-from-place
returns-else-from-place c base d at fits =
    let within : c.in-Old.from + c.in-Old.len ≤ length base = subst (Fits (length base)) c.in-Old.is fits in
    let out : (c.in-Some.place < c.in-Old.from) ⊎ (c.in-Old.len ≤ c.in-Some.place - c.in-Old.from) = elim c.else-from-place.branch [
      | else-from-place-via-then-from-place+else-place-from w ↦ inr w.if-place-from.false
      | else-from-place-via-else-from-place w ↦ inl w.if-from-place.false
    ] in
    in-part-none c.args.id c.in-Old.from c.in-Old.len base c.args.stands d within at
    (λ p e.
    let some : Some c.in-Some.place ≡ Some p = sym c.in-Some.is ∙ e in
    let same : c.in-Some.place ≡ p = cc in
    subst (λ q. (q < c.in-Old.from) ⊎ (c.in-Old.len ≤ q - c.in-Old.from)) same out)
    ∙ ap (λ s. place_of c.args.id (ops_in base s)) (sym c.in-Old.is)

pub returns-in-None : goal.returns-in-None
returns-in-None c base d at fits =
    let within : c.in-Old.from + c.in-Old.len ≤ length base = subst (Fits (length base)) c.in-Old.is fits in
    in-part-none c.args.id c.in-Old.from c.in-Old.len base c.args.stands d within at (λ p e. let no : None ≡ Some p = sym c.in-None.is ∙ e in absurd cc)
    ∙ ap (λ s. place_of c.args.id (ops_in base s)) (sym c.in-Old.is)
