-- A function with one entry, and two functions that are gone through side by side.
use Rattle.std.proofs.Common.{◌≡◌, ℕ, ◌<◌, ◌+◌, ◌-◌, ◌^◌, ◌∷◌, ◌++◌, [], inl, inr, sym, ap, ◌∙◌, arith}
use Rattle.std.specs.Prelude.{Option, Some}
use Rattle.std.proofs.lemmas.Bool.{cases_eq, cases_lt}
use Rattle.share_tree.specs.Digits.{updated, nowhere, AgreesBelow}
use Rattle.share_tree.specs.Entries.{keys_from}
use Rattle.share_tree.specs.Walk.{IsFirstFrom}
use Rattle.share_tree.proofs.UpdatedLemmas.{updated-there, updated-off}
use Rattle.share_tree.proofs.EntryLemmas.{keys_from-append, keys_from-none, keys_from-one}

module _ {V : Type 0} where
  pub one-keys : (k : ℕ) (v : V) → k < 2 ^ 32 → keys_from (updated nowhere k (Some v)) 0 (2 ^ 32) ≡ k ∷ []
  one-keys k v h =
      let f : ℕ → Option V = updated nowhere k (Some v) in
      let parts : 2 ^ 32 ≡ k + (1 + (2 ^ 32 - (k + 1))) = omega arith in
      let start : 0 + k ≡ k = omega arith in
      ap (keys_from f 0) parts
      ∙ keys_from-append f 0 k (1 + (2 ^ 32 - (k + 1)))
      ∙ ap (λ ks. ks ++ keys_from f (0 + k) (1 + (2 ^ 32 - (k + 1)))) (keys_from-none f 0 k (λ q a b. updated-off nowhere k (Some v) q (λ e. omega (arith, e))))
      ∙ ap (λ j. keys_from f j (1 + (2 ^ 32 - (k + 1)))) start
      ∙ keys_from-append f k 1 (2 ^ 32 - (k + 1))
      ∙ ap (λ ks. ks ++ keys_from f (k + 1) (2 ^ 32 - (k + 1))) (keys_from-one f k v (updated-there nowhere k (Some v) k (omega arith)))
      ∙ ap (λ ks. k ∷ ks) (keys_from-none f (k + 1) (2 ^ 32 - (k + 1)) (λ q a b. updated-off nowhere k (Some v) q (λ e. omega (arith, e))))

  -- the one entry gets another value
  pub one-set : (k : ℕ) (o o' : Option V) (q : ℕ) → updated nowhere k o' q ≡ updated (updated nowhere k o) k o' q
  one-set k o o' q = elim (cases_eq q k) [
    | inl e ↦ updated-there nowhere k o' q e ∙ sym (updated-there (updated nowhere k o) k o' q e)
    | inr ne ↦ updated-off nowhere k o' q ne ∙ sym (updated-off (updated nowhere k o) k o' q ne ∙ updated-off nowhere k o q ne)
  ]

  pub agree-next : (f g : ℕ → Option V) (from key : ℕ) (v : V) → AgreesBelow from f g → IsFirstFrom f from key v → IsFirstFrom g from key v → AgreesBelow (key + 1) f g
  agree-next f g from key v agree a b q lt = elim (cases_lt q from) [
    | inl before ↦ agree q before
    | inr ge ↦ elim (cases_eq q key) [
      | inl e ↦ ap f e ∙ a.there ∙ sym b.there ∙ ap g (sym e)
      | inr ne ↦ a.first q (omega arith) (omega (arith, ne)) ∙ sym (b.first q (omega arith) (omega (arith, ne)))
    ]
  ]
