-- A node after a write at one of its children, and nodes that answer alike.
use Rattle.std.proofs.Common.{◌≡◌, ℕ, ◌<◌, ◌+◌, ◌*◌, ◌/◌, ◌%◌, inl, inr, cond, List, length, get_or, set, sym, ap, ◌∙◌, arith, nat_eq, eq-eqb, get_or-set_other, get_or-set_same}
use Rattle.std.specs.Prelude.{Option, None}
use Rattle.std.proofs.lemmas.Bool.{cases_eq, ne_eqb}
use Rattle.std.proofs.lemmas.List.{get_or_default}
use Rattle.std.proofs.lemmas.Nat.{div-add-mod', div-mul-add, mod_below, div_below, same_from_place}
use Rattle.share_tree.specs.Digits.{updated, child_of, child_at, node_at, AgreesBelow}

same_key : (q k s : ℕ) → q / s ≡ k / s → q % s ≡ k % s → q ≡ k
same_key q k s d r = sym (div-add-mod' q s) ∙ ap (λ x. x * s + q % s) d ∙ ap (λ x. k / s * s + x) r ∙ div-add-mod' k s

-- below one child, keys are equal where their rests are
same_test : (q k s : ℕ) → q / s ≡ k / s → nat_eq (q % s) (k % s) ≡ nat_eq q k
same_test q k s d = elim (cases_eq q k) [
  | inl e ↦ eq-eqb _ _ (ap (λ x. x % s) e) ∙ sym (eq-eqb _ _ e)
  | inr ne ↦ ne_eqb _ _ (λ r. ne (same_key q k s d r)) ∙ sym (ne_eqb q k ne)
]

-- the place i * s + r of a node is the place r of its child i
pub node_at-place : {C V : Type 0} (at : C → ℕ → Option V) (s : ℕ) (child : ℕ → Option C) (i r : ℕ) → r < s → node_at at s child (i * s + r) ≡ child_at at (child i) r
node_at-place at s child i r h =
    let d : (i * s + r) / s ≡ i = div-mul-add i s r h in
    let m : (i * s + r) % s ≡ r = (same_from_place _ _ _ _ s (mod_below _ s (omega arith)) h (div-add-mod' (i * s + r) s)).1 in
    ap (λ x. child_at at (child x) ((i * s + r) % s)) d ∙ ap (child_at at (child i)) m

-- a list of children after a write
pub child_of-set : {C : Type 0} (children : List (Option C)) (i : ℕ) (o : Option C) → i < length children → (j : ℕ) → child_of (set children i o) j ≡ updated (child_of children) i o j
child_of-set children i o h j = elim (cases_eq j i) [
  | inl e ↦ ap (λ k. get_or (set children i o) k None) e ∙ get_or-set_same children i o None h ∙ sym (ap (λ b. cond b o (child_of children j)) (eq-eqb _ _ e))
  | inr ne ↦ get_or-set_other children i j o None ne ∙ sym (ap (λ b. cond b o (child_of children j)) (ne_eqb _ _ ne))
]

-- where no child is there after a write, the write put none
pub none_written : {C : Type 0} (children : List (Option C)) (i : ℕ) (o : Option C) → i < length children → child_of (set children i o) i ≡ None → o ≡ None
none_written children i o h none = sym (get_or-set_same children i o None h) ∙ none

module _ {C V : Type 0} (at : C → ℕ → Option V) (s : ℕ) (children : List (Option C)) (i : ℕ) (any new : Option C) where
  -- the child that was read at i, whatever stands for a place past the end
  child_of-read : i < length children → child_of children i ≡ get_or children i any
  child_of-read h = get_or_default children i None any h

  -- a node after a write at the place of k, where the new child is the old one, but o at the rest of k
  pub node_at-write : (k rest : ℕ) (o : Option V) → i ≡ k / s → rest ≡ k % s → i < length children
      → ((q : ℕ) → child_at at new q ≡ updated (child_at at (get_or children i any)) rest o q)
      → (q : ℕ) → node_at at s (child_of (set children i new)) q ≡ updated (node_at at s (child_of children)) k o q
  node_at-write k rest o place at_rest h changed q = elim (cases_eq (q / s) i) [
    | inl d ↦
        ap (λ x. child_at at x (q % s)) (child_of-set children i new h (q / s) ∙ ap (λ b. cond b new (child_of children (q / s))) (eq-eqb _ _ d))
        ∙ changed (q % s)
        ∙ ap (λ x. cond (nat_eq (q % s) x) o (child_at at (get_or children i any) (q % s))) at_rest
        ∙ ap (λ b. cond b o (child_at at (get_or children i any) (q % s))) (same_test q k s (d ∙ place))
        ∙ ap (λ x. cond (nat_eq q k) o (child_at at x (q % s))) (sym (child_of-read h) ∙ ap (child_of children) (sym d))
    | inr ne ↦
        ap (λ x. child_at at x (q % s)) (child_of-set children i new h (q / s) ∙ ap (λ b. cond b new (child_of children (q / s))) (ne_eqb _ _ ne))
        ∙ sym (ap (λ b. cond b o (node_at at s (child_of children) q)) (ne_eqb q k (λ e. ne (ap (λ x. x / s) e ∙ sym place))))
  ]

  -- a node after a write of a child that has what the old one had
  pub node_at-rewrite : i < length children
      → ((q : ℕ) → child_at at new q ≡ child_at at (get_or children i any) q)
      → (q : ℕ) → node_at at s (child_of (set children i new)) q ≡ node_at at s (child_of children) q
  node_at-rewrite h same q = elim (cases_eq (q / s) i) [
    | inl d ↦
        ap (λ x. child_at at x (q % s)) (child_of-set children i new h (q / s) ∙ ap (λ b. cond b new (child_of children (q / s))) (eq-eqb _ _ d))
        ∙ same (q % s)
        ∙ ap (λ x. child_at at x (q % s)) (sym (child_of-read h) ∙ ap (child_of children) (sym d))
    | inr ne ↦
        ap (λ x. child_at at x (q % s)) (child_of-set children i new h (q / s) ∙ ap (λ b. cond b new (child_of children (q / s))) (ne_eqb _ _ ne))
  ]

module _ {C V : Type 0} (at : C → ℕ → Option V) (s : ℕ) (child child' : ℕ → Option C) where
  -- nodes agree where each of their n children does
  pub nodes_agree : (n : ℕ) → 0 < s → ((i : ℕ) → i < n → AgreesBelow s (child_at at (child i)) (child_at at (child' i))) → AgreesBelow (n * s) (node_at at s child) (node_at at s child')
  nodes_agree n p h q below = h (q / s) (div_below q s n p below) (q % s) (mod_below q s p)

  pub children_agree : (n i : ℕ) → i < n → AgreesBelow (n * s) (node_at at s child) (node_at at s child') → AgreesBelow s (child_at at (child i)) (child_at at (child' i))
  children_agree n i lt h q below = sym (node_at-place at s child i q below) ∙ h (i * s + q) (grind arith) ∙ node_at-place at s child' i q below
