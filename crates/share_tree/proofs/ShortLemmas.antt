-- A function below a bound, and nothing from there on.
use Rattle.std.proofs.Common.{◌≡◌, ℕ, ◌<◌, ◌≤◌, ◌+◌, ◌-◌, ◌*◌, ◌/◌, ◌%◌, ◌^◌, ◌++◌, inl, inr, Bool, true, false, cond, refl, map, sym, ap, ◌∙◌, arith, nat_lt, append-nil}
use Rattle.std.specs.Prelude.{Option, Some, None}
use Rattle.std.proofs.lemmas.Bool.{cases_eq, cases_lt, ne_eqb, lt-ltb, le-ltb}
use Rattle.std.proofs.lemmas.Nat.{div-add-mod', mod_below}
use Rattle.std.proofs.Math.Nat.{zero-mul}
use Rattle.share_tree.specs.Digits.{updated, nowhere, below, child_at, node_at}
use Rattle.share_tree.specs.Entries.{keys_from, moved}
use Rattle.share_tree.proofs.ChildLemmas.{node_at-place}
use Rattle.share_tree.proofs.EntryLemmas.{entries_from-same, keys_from-append, keys_from-none}

module _ {V : Type 0} (n : ℕ) where
  pub below-under : (f : ℕ → Option V) (q : ℕ) → q < n → below n f q ≡ f q
  below-under f q h = ap (λ b. cond b (f q) None) (lt-ltb q n h)

  pub below-past : (f : ℕ → Option V) (q : ℕ) → n ≤ q → below n f q ≡ None
  below-past f q h = ap (λ b. cond b (f q) None) (le-ltb q n h)

  keys-same : (f g : ℕ → Option V) (k m : ℕ) → ((q : ℕ) → k ≤ q → q < k + m → f q ≡ g q) → keys_from f k m ≡ keys_from g k m
  keys-same f g k m h = ap (map (λ e. e.0)) (entries_from-same f g k m h)

  pub keys-below : (f : ℕ → Option V) → n ≤ 2 ^ 32 → keys_from (moved f 0) 0 n ≡ keys_from (below n f) 0 (2 ^ 32)
  keys-below f h =
      let parts : 2 ^ 32 ≡ n + (2 ^ 32 - n) = omega arith in
      keys-same (moved f 0) (below n f) 0 n (λ q a b. ap f (omega arith) ∙ sym (below-under f q (omega arith)))
      ∙ sym (append-nil (keys_from (below n f) 0 n))
      ∙ ap (λ ks. keys_from (below n f) 0 n ++ ks) (sym (keys_from-none (below n f) (0 + n) (2 ^ 32 - n) (λ q a b. below-past f q (omega arith))))
      ∙ sym (keys_from-append (below n f) 0 n (2 ^ 32 - n))
      ∙ sym (ap (keys_from (below n f) 0) parts)

nothing : {V : Type 0} (b : Bool) → cond {A = Option V} b None None ≡ None
nothing true = refl
nothing false = refl

-- a node whose one child is the first has what the child has
module _ {C V : Type 0} (at : C → ℕ → Option V) (s : ℕ) (child : ℕ → Option C) (level : C) where
  past_first : 0 < s → ((j : ℕ) → child j ≡ updated nowhere 0 (Some level) j) → (q : ℕ) → s ≤ q → node_at at s child q ≡ None
  past_first p only q h =
      let m : q % s < s = mod_below q s p in
      let e : q / s * s + q % s ≡ q = div-add-mod' q s in
      elim (cases_eq (q / s) 0) [
        | inl z ↦ let clash : q / s * s ≡ 0 = ap (λ d. d * s) z ∙ zero-mul s in absurd (omega (arith, m, e, clash, h))
        | inr ne ↦ ap (λ o. child_at at o (q % s)) (only (q / s) ∙ ap (λ b. cond b (Some level) None) (ne_eqb _ _ ne))
      ]

  pub below-over : 0 < s → ((j : ℕ) → child j ≡ updated nowhere 0 (Some level) j) → (q : ℕ) → below (16 * s) (node_at at s child) q ≡ below s (at level) q
  below-over p only q = elim (cases_lt q s) [
    | inl lt ↦
        let z : 0 * s + q ≡ q = omega (arith, zero-mul s) in
        below-under (16 * s) (node_at at s child) q (omega (arith, lt))
        ∙ ap (node_at at s child) (sym z)
        ∙ node_at-place at s child 0 q lt
        ∙ ap (λ o. child_at at o q) (only 0)
        ∙ sym (below-under s (at level) q lt)
    | inr ge ↦
        ap (λ o. cond (nat_lt q (16 * s)) o None) (past_first p only q (omega arith))
        ∙ nothing (nat_lt q (16 * s))
        ∙ sym (below-past s (at level) q (omega arith))
  ]
