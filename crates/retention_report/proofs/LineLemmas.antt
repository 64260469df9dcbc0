-- The lines of objects, one after another.
use Rattle.std.proofs.Common.{◌≡◌, ℕ, ◌+◌, ◌<◌, List, [], ◌∷◌, ◌++◌, length, get_or, take, refl, sym, ap, ◌∙◌, subst, append_assoc, zero, suc, arith, Bool, true}
use Rattle.std.specs.Prelude.{◌==◌}
use Rattle.std.proofs.lemmas.Bool.Decides.{nat_tests}
use Rattle.ownership_model.specs.Reach.{has}
use Rattle.ownership_model.proofs.Searching.{or_left, or_right}
use Rattle.std.proofs.lemmas.List.{take_more, append-nil}
use Rattle.trace_types.specs.Operation.{Operation}
use Rattle.retention_report.specs.Explained.{IsObjectText, AreLines}

-- one object more
pub lines_more : (with_lives : Bool) (ops : List Operation) (os : List ℕ) (o : ℕ) (lines more : List ℕ) → AreLines with_lives ops os lines → IsObjectText with_lives ops o more → AreLines with_lives ops (os ++ o ∷ []) (lines ++ more)
lines_more with_lives ops [] o lines more are is = (more, [], is, refl, ap (λ xs. xs ++ more) are ∙ sym (append-nil more))
lines_more with_lives ops (x ∷ os) o lines more are is =
    (are.0, are.1 ++ more, are.2, lines_more with_lives ops os o are.1 more are.3 is, ap (λ xs. xs ++ more) are.4 ∙ append_assoc are.0 are.1 more)

pub lines_next : (with_lives : Bool) (ops : List Operation) (os : List ℕ) (i o : ℕ) (before after old : List ℕ) → i < length os → o ≡ get_or os i 0
    → (lines : List ℕ) × AreLines with_lives ops (take i os) lines × (before ≡ old ++ lines)
    → (more : List ℕ) × IsObjectText with_lives ops o more × (after ≡ before ++ more)
    → (lines : List ℕ) × AreLines with_lives ops (take (i + 1) os) lines × (after ≡ old ++ lines)
lines_next with_lives ops os i o before after old less is front next = (
  front.0 ++ next.0,
  subst (λ ks. AreLines with_lives ops ks (front.0 ++ next.0)) (ap (λ k. take i os ++ k ∷ []) is ∙ sym (take_more os i 0 less)) (lines_more with_lives ops (take i os) o front.0 next.0 front.1 next.1),
  next.2 ∙ ap (λ xs. xs ++ next.0) front.2 ∙ append_assoc old front.0 next.0,
)

-- what stands in a list is one of it
pub item_has : (os : List ℕ) (i : ℕ) → i < length os → has (get_or os i 0) os ≡ true
item_has [] i h = absurd (omega (arith, h))
item_has (x ∷ os) zero h = or_left (x == x) (has x os) (grind (arith, nat_tests))
item_has (x ∷ os) (suc i) h = or_right (x == get_or os i 0) (has (get_or os i 0) os) (item_has os i (omega (arith, h)))
