use Rattle.std.proofs.Common.{◌≡◌, ℕ, List, ◌∷◌, ◌+◌, ap, ◌∙◌, sym, drop, slice_index_or, arith}
use Rattle.std.proofs.lemmas.Grind.{common_steps}
use Rattle.std.specs.Prelude.{◌==◌}
use Rattle.std.specs.List.{list_any}
use Rattle.ownership_model.specs.View.{repeated_in}
use Rattle.ownership_model.proofs.PlainLemmas.{repeated_in-found, repeated_in-passed}
use Rattle.ownership_model.proofs.plain.names.repeated.Goals as goal

pub returns-then-contains : goal.returns-then-contains
returns-then-contains c =
    let h = slice_index_or c.deref-h-items.result.now c.loop-h.h-index 0 in
    let same : list_any (λ b. b == h) c.loop-h.before.items ≡ c.contains.result = ap (list_any (λ b. b == h)) (sym c.deref.ensures.value) ∙ sym c.contains.ensures.value in
    sym (repeated_in-found c.loop-h.before.items c.deref-h-items.result.now c.loop-h.h-index 0 c.loop-h-test.true (same ∙ c.if-contains.true)) ∙ c.loop-h.invariant

pub loop-h-preserved : goal.loop-h-preserved
loop-h-preserved c =
    let h = slice_index_or c.deref-h-items.result.now c.loop-h.h-index 0 in
    let same : list_any (λ b. b == h) c.loop-h.before.items ≡ c.contains.result = ap (list_any (λ b. b == h)) (sym c.deref.ensures.value) ∙ sym c.contains.ensures.value in
    let added : c.insert.new.self.items ≡ h ∷ c.loop-h.before.items = grind (arith, common_steps) in
    ap (λ (before : List ℕ). repeated_in before (drop (c.loop-h.h-index + 1) c.deref-h-items.result.now)) added
    ∙ sym (repeated_in-passed c.loop-h.before.items c.deref-h-items.result.now c.loop-h.h-index 0 c.loop-h-test.true (same ∙ c.if-contains.false))
    ∙ c.loop-h.invariant
