-- The first entry of a node from a key on, and what a walk by it has passed.
use Rattle.std.proofs.Common.{◌≡◌, ℕ, zero, suc, ◌<◌, ◌≤◌, ◌+◌, ◌-◌, ◌*◌, ◌^◌, inl, inr, true, false, cond, nat_le, List, [], ◌∷◌, ◌++◌, refl, sym, ap, ◌∙◌, arith, append-nil}
use Rattle.std.specs.Prelude.{Option, Some, None, IfSome}
use Rattle.std.specs.Option.{IfNone}
use Rattle.std.specs.List.{filter}
use Rattle.std.specs.FinMap as map
use Rattle.std.proofs.lemmas.Bool.{cases_lt, le-leb, lt-leb}
use Rattle.std.proofs.lemmas.List.Elements.{filter-append}
use Rattle.share_tree.specs.Digits.{child_at, node_at}
use Rattle.share_tree.specs.Entries.{entry, entries_from, map_of}
use Rattle.share_tree.specs.Walk.{entries_through, IsNowhereFrom, IsFirstFrom}
use Rattle.share_tree.proofs.ChildLemmas.{node_at-place}
use Rattle.share_tree.proofs.EntryLemmas.{entries_from-append, entries_from-none}
use Rattle.share_tree.proofs.MapLemmas.{entries-map_of}

module _ {C V : Type 0} (at : C → ℕ → Option V) (s : ℕ) (child : ℕ → Option C) (key i : ℕ) where
  -- a node with nothing before child i, and nothing in it up to end
  pub nowhere-next : (end : ℕ) → end ≤ s → IsNowhereFrom (node_at at s child) key (i * s) → IsNowhereFrom (child_at at (child i)) (key - s * i) end → IsNowhereFrom (node_at at s child) key (i * s + end)
  nowhere-next end fits before in_child q a b = elim (cases_lt q (i * s)) [
    | inl lt ↦ before q a lt
    | inr ge ↦
        let r : ℕ = q - i * s in
        let p : q ≡ i * s + r = omega arith in
        let c : s * i ≡ i * s = grind arith in
        ap (node_at at s child) p ∙ node_at-place at s child i r (omega arith) ∙ in_child r (omega (arith, c)) (omega arith)
  ]

  -- the first entry of a node is that of its first child with one
  pub first-in_child : (rest : ℕ) (v : V) → rest < s → IsNowhereFrom (node_at at s child) key (i * s) → IsFirstFrom (child_at at (child i)) (key - s * i) rest v → IsFirstFrom (node_at at s child) key (s * i + rest) v
  first-in_child rest v below before h =
      let c : s * i ≡ i * s = grind arith in
      let p : s * i + rest ≡ i * s + rest = ap (λ x. x + rest) c in
      record {
        rises = omega (arith, h.rises);
        there = ap (node_at at s child) p ∙ node_at-place at s child i rest below ∙ h.there;
        first = λ q a b. nowhere-next rest (omega arith) before h.first q a (omega (arith, p));
      }

-- where a walk goes on
abbrev pub next_of : Option ℕ → ℕ
next_of None = 0
next_of (Some key) = key + 1

pub IfNone_then : {X P Q : Type 0} (o : Option X) → IfNone o P → (P → Q) → IfNone o Q
IfNone_then None p h = h p
IfNone_then (Some x) p h = p

pub IfSome_both : {X : Type 0} (o : Option X) {P Q R : X → Type 0} → IfSome o P → IfSome o Q → ((x : X) → P x → Q x → R x) → IfSome o R
IfSome_both None p q h = p
IfSome_both (Some x) p q h = h x p q

module _ {V : Type 0} where
  keep_entry : (f : ℕ → Option V) (k last : ℕ) (o : Option V) (es : List (ℕ × V)) → nat_le k last ≡ true → filter (λ e. nat_le e.0 last) (entry k o ++ es) ≡ entry k o ++ filter (λ e. nat_le e.0 last) es
  keep_entry f k last None es h = refl
  keep_entry f k last (Some v) es h = ap (λ b. cond b ((k, v) ∷ filter (λ e. nat_le e.0 last) es) (filter (λ e. nat_le e.0 last) es)) h

  drop_entry : (f : ℕ → Option V) (k last : ℕ) (o : Option V) (es : List (ℕ × V)) → nat_le k last ≡ false → filter (λ e. nat_le e.0 last) (entry k o ++ es) ≡ filter (λ e. nat_le e.0 last) es
  drop_entry f k last None es h = refl
  drop_entry f k last (Some v) es h = ap (λ b. cond b ((k, v) ∷ filter (λ e. nat_le e.0 last) es) (filter (λ e. nat_le e.0 last) es)) h

  kept : (f : ℕ → Option V) (last k n : ℕ) → k + n ≤ suc last → filter (λ e. nat_le e.0 last) (entries_from f k n) ≡ entries_from f k n
  unfolding entries_from
  kept f last k zero h = refl
  kept f last k (suc n) h = keep_entry f k last (f k) (entries_from f (suc k) n) (le-leb k last (omega arith)) ∙ ap (λ es. entry k (f k) ++ es) (kept f last (suc k) n (omega arith))

  dropped : (f : ℕ → Option V) (last k n : ℕ) → last < k → filter (λ e. nat_le e.0 last) (entries_from f k n) ≡ []
  unfolding entries_from
  dropped f last k zero h = refl
  dropped f last k (suc n) h = drop_entry f k last (f k) (entries_from f (suc k) n) (lt-leb k last h) ∙ dropped f last (suc k) n (omega arith)

  entries-from_next : (f : ℕ → Option V) (n : ℕ) → n ≤ 2 ^ 32 → map.entries (map_of f) ≡ entries_from f 0 n ++ entries_from f n (2 ^ 32 - n)
  entries-from_next f n h =
      let parts : 2 ^ 32 ≡ n + (2 ^ 32 - n) = omega arith in
      let start : 0 + n ≡ n = omega arith in
      entries-map_of f ∙ ap (entries_from f 0) parts ∙ entries_from-append f 0 n (2 ^ 32 - n) ∙ ap (λ k. entries_from f 0 n ++ entries_from f k (2 ^ 32 - n)) start

  pub through : (f : ℕ → Option V) (last : Option ℕ) → next_of last ≤ 2 ^ 32 → entries_through (map_of f) last ≡ entries_from f 0 (next_of last)
  unfolding entries_from
  through f None h = refl
  through f (Some last) h =
      ap (filter (λ e. nat_le e.0 last)) (entries-from_next f (last + 1) h)
      ∙ filter-append (λ e. nat_le e.0 last) (entries_from f 0 (last + 1)) (entries_from f (last + 1) (2 ^ 32 - (last + 1)))
      ∙ ap (λ es. es ++ filter (λ e. nat_le e.0 last) (entries_from f (last + 1) (2 ^ 32 - (last + 1)))) (kept f last 0 (last + 1) (omega arith))
      ∙ ap (λ es. entries_from f 0 (last + 1) ++ es) (dropped f last (last + 1) (2 ^ 32 - (last + 1)) (omega arith))
      ∙ append-nil (entries_from f 0 (last + 1))

  -- past the greatest key a walk is past all entries
  pub through-all : (f : ℕ → Option V) (last : ℕ) → 2 ^ 32 ≤ last + 1 → entries_through (map_of f) (Some last) ≡ map.entries (map_of f)
  through-all f last h = ap (filter (λ e. nat_le e.0 last)) (entries-map_of f) ∙ kept f last 0 (2 ^ 32) (omega arith) ∙ sym (entries-map_of f)

  one_entry : (f : ℕ → Option V) (k : ℕ) (v : V) → f k ≡ Some v → entries_from f k 1 ≡ (k, v) ∷ []
  unfolding entries_from
  one_entry f k v e = ap (λ o. entry k o ++ []) e

  -- the first entry is the next of the walk
  pub through-first : (f : ℕ → Option V) (last : Option ℕ) (k : ℕ) (v : V) → k < 2 ^ 32 → IsFirstFrom f (next_of last) k v → entries_through (map_of f) (Some k) ≡ entries_through (map_of f) last ++ (k, v) ∷ []
  through-first f last k v below h =
      let n : ℕ = next_of last in
      let rises : n ≤ k = h.rises in
      let parts : k + 1 ≡ (n + (k - n)) + 1 = omega arith in
      let start : 0 + n ≡ n = omega arith in
      let place : 0 + (n + (k - n)) ≡ k = omega arith in
      through f (Some k) (omega arith)
      ∙ ap (entries_from f 0) parts
      ∙ entries_from-append f 0 (n + (k - n)) 1
      ∙ ap (λ j. entries_from f 0 (n + (k - n)) ++ entries_from f j 1) place
      ∙ ap (λ es. entries_from f 0 (n + (k - n)) ++ es) (one_entry f k v h.there)
      ∙ ap (λ es. es ++ (k, v) ∷ []) (
      entries_from-append f 0 n (k - n)
      ∙ ap (λ es. entries_from f 0 n ++ es) (ap (λ j. entries_from f j (k - n)) start ∙ entries_from-none f n (k - n) (λ q a b. h.first q a (omega arith)))
      ∙ append-nil (entries_from f 0 n)
      ∙ sym (through f last (omega arith)))

  -- with nothing left the walk is past all entries
  pub through-end : (f : ℕ → Option V) (last : Option ℕ) → next_of last ≤ 2 ^ 32 → IsNowhereFrom f (next_of last) (2 ^ 32) → entries_through (map_of f) last ≡ map.entries (map_of f)
  through-end f last h nothing =
      through f last h
      ∙ sym (append-nil (entries_from f 0 (next_of last)))
      ∙ ap (λ es. entries_from f 0 (next_of last) ++ es) (sym (entries_from-none f (next_of last) (2 ^ 32 - next_of last) (λ q a b. nothing q a (omega arith))))
      ∙ sym (entries-from_next f (next_of last) h)
