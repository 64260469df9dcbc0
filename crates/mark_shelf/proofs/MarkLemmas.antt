-- A cache without values, seen as its keys.
use Rattle.std.proofs.Common.{◌≡◌, ◌<◌, ℕ, zero, suc, ◌-◌, ◌+◌, not, true, false, cond, nat_eq, List, [], ◌∷◌, take, length, refl, ap, sym, subst, ◌∙◌, T, arith, take_all, inl, inr}
use Rattle.std.specs.Prelude.{Option, Some, None, IsSome, Contains, filter, slice_get, option_and_then, if◌then◌else◌}
use Rattle.std.specs.Option.{option_map, option_map_or}
use Rattle.std.specs.Map.{keys_of, lookup, lookup_entry, remove_entry}
use Rattle.std.specs.List.{AllByRecursion, IsDistinct}
use Rattle.std.proofs.lemmas.List.{take-map, length-map}
use Rattle.std.proofs.lemmas.Option.{slice_get-map, slice_get_past}
use Rattle.std.proofs.Math.Facts.{eqb_yes}
use Rattle.std.proofs.lemmas.Bool.{ne_eqb}
use Rattle.std.proofs.lemmas.Bool.Decides.{eqb_tells}
use mathlib.Core.Logic.{⊎_elim}
use Rattle.lru.specs.LruCache.{LruCache, put_entries, displaced, IsValid}
use Rattle.lru.proofs.CallerLemmas.{Contains-lookup_entry}
use Rattle.lru.proofs.Splits.{Contains-cons, Contains-nil}
use Rattle.mark_shelf.specs.Shelf.{in_front}

abbrev Keys : Type 0
Keys = List (ℕ × Unit {0})

-- the names but one
abbrev others : ℕ → List ℕ → List ℕ
others id ids = filter (λ other. not (nat_eq id other)) ids

abbrev IsMissing : ℕ → List ℕ → Type 0
IsMissing id ids = AllByRecursion (λ other. nat_eq id other ≡ false) ids

others-missing : (id : ℕ) (ids : List ℕ) → IsMissing id ids → others id ids ≡ ids
others-missing id [] h = refl
others-missing id (k ∷ ids) h = rw h.0 (ap (λ r. k ∷ r) (others-missing id ids h.1))

-- a name with no entry is none of the names
missing : (id : ℕ) (es : Keys) → lookup_entry (nat_eq id) es ≡ None → IsMissing id (keys_of es)
missing id [] h = tt
missing id (e ∷ es) h =
    elim (nat_eq id e.0) as (λ b. nat_eq id e.0 ≡ b → cond b (Some e) (lookup_entry (nat_eq id) es) ≡ None → IsMissing id (keys_of (e ∷ es))) [
      | true ↦ λ t n. cc
      | false ↦ λ f n. (f, missing id es n)
    ] refl h

self_eq : (id : ℕ) → nat_eq id id ≡ true
self_eq id = ⊎_elim (λ p. p.0) (λ p. absurd (p.1 refl)) (eqb_tells id id)

other_eq : (id other : ℕ) → nat_eq id other ≡ false → nat_eq other id ≡ false
other_eq id other h = ne_eqb other id (λ same. let t : true ≡ false = sym (self_eq id) ∙ ap (nat_eq id) (sym same) ∙ h in cc)

missing_at : (id : ℕ) (es : Keys) (i : ℕ) (e : ℕ × Unit {0}) → IsMissing id (keys_of es) → slice_get es i ≡ Some e → nat_eq e.0 id ≡ false
missing_at id [] i e h is = cc
missing_at id (f ∷ es) zero e h is = let same : f ≡ e = cc in subst (λ (g : ℕ × Unit {0}). nat_eq g.0 id ≡ false) same (other_eq id f.0 h.0)
missing_at id (f ∷ es) (suc i) e h is = missing_at id es i e h.1 is

entry_key : (id : ℕ) (es : Keys) (e : ℕ × Unit {0}) → lookup_entry (nat_eq id) es ≡ Some e → id ≡ e.0
entry_key id es e h = eqb_yes (subst T (sym (Contains-lookup_entry (nat_eq id) es e h).1) tt)

value_entry : (id : ℕ) (es : Keys) → lookup (nat_eq id) es ≡ option_map (λ e. e.1) (lookup_entry (nat_eq id) es)
value_entry id [] = refl
value_entry id (e ∷ es) = elim (nat_eq id e.0) as (λ b. cond b (Some e.1) (lookup (nat_eq id) es) ≡ option_map (λ e. e.1) (cond b (Some e) (lookup_entry (nat_eq id) es))) [ true ↦ refl | false ↦ value_entry id es ]

keys-remove_entry : (id : ℕ) (es : Keys) → IsDistinct nat_eq (keys_of es) → keys_of (remove_entry (nat_eq id) es) ≡ others id (keys_of es)
unfolding IsDistinct
keys-remove_entry id [] d = refl
keys-remove_entry id (e ∷ es) d =
    elim (nat_eq id e.0) as (λ b. nat_eq id e.0 ≡ b → keys_of (cond b es (e ∷ remove_entry (nat_eq id) es)) ≡ cond (not b) (e.0 ∷ others id (keys_of es)) (others id (keys_of es))) [
      | true ↦ λ t. sym (others-missing id (keys_of es) (subst (λ k. IsMissing k (keys_of es)) (sym (eqb_yes (subst T (sym t) tt))) d.0))
      | false ↦ λ f. ap (λ ks. e.0 ∷ ks) (keys-remove_entry id es d.1)
    ] refl

length-remove_entry : (id : ℕ) (es : Keys) (e : ℕ × Unit {0}) → lookup_entry (nat_eq id) es ≡ Some e → length (remove_entry (nat_eq id) es) + 1 ≡ length es
length-remove_entry id [] e h = cc
length-remove_entry id (f ∷ es) e h =
    elim (nat_eq id f.0) as (λ b. cond b (Some f) (lookup_entry (nat_eq id) es) ≡ Some e → length (cond b es (f ∷ remove_entry (nat_eq id) es)) + 1 ≡ length (f ∷ es)) [
      | true ↦ λ t. omega arith
      | false ↦ λ t. omega (arith, length-remove_entry id es e t)
    ] h

-- a name that is there and comes first leaves as many
length-in_front : (id : ℕ) (es : Keys) (e : ℕ × Unit {0}) → IsDistinct nat_eq (keys_of es) → lookup_entry (nat_eq id) es ≡ Some e → length (in_front id (keys_of es)) ≡ length es
length-in_front id es e d is =
    let same = ap length (keys-remove_entry id es d) in
    omega (arith, same, length-map (remove_entry (nat_eq id) es) (λ f. f.0), length-remove_entry id es e is)

pub take_front : {X : Type 0} (n : ℕ) (x : X) (xs : List X) → 0 < n → take n (x ∷ xs) ≡ x ∷ take (n - 1) xs
take_front zero x xs h = absurd (omega (arith, h))
take_front (suc n) x xs h = let less : suc n - 1 ≡ n = omega arith in rw less refl

get_behind : {X : Type 0} (n : ℕ) (x : X) (xs : List X) → 0 < n → slice_get (x ∷ xs) n ≡ slice_get xs (n - 1)
get_behind zero x xs h = absurd (omega (arith, h))
get_behind (suc n) x xs h = let less : suc n - 1 ≡ n = omega arith in rw less refl

-- what is told of a pair that a push gives
abbrev pub told : ℕ → Option (ℕ × Unit {0}) → Option ℕ
told id pushed = option_and_then (λ e. if nat_eq e.0 id then None else Some e.0) pushed

-- a name that is there has an entry
pub has_entry : {X : Type 0} (id : ℕ) (es : List (ℕ × X)) → Contains (keys_of es) id → IsSome (lookup (nat_eq id) es)
has_entry id [] h = absurd (Contains-nil id h)
has_entry id (e ∷ es) h = elim (Contains-cons e.0 (keys_of es) id h) [
  | inl same ↦ let t : nat_eq id e.0 ≡ true = subst (λ k. nat_eq id k ≡ true) (sym same) (self_eq id) in rw t refl
  | inr there ↦ elim (nat_eq id e.0) as (λ b. IsSome (cond b (Some e.1) (lookup (nat_eq id) es))) [ true ↦ refl | false ↦ has_entry id es there ]
]

module _ (c : LruCache ℕ (Unit {0})) (id : ℕ) (valid : IsValid nat_eq c) where
  in_front-missing : lookup_entry (nat_eq id) c.entries ≡ None → in_front id (keys_of c.entries) ≡ id ∷ keys_of c.entries
  in_front-missing none = ap (λ ks. id ∷ ks) (others-missing id (keys_of c.entries) (missing id c.entries none))

  put_from : (o : Option (ℕ × Unit {0})) → lookup_entry (nat_eq id) c.entries ≡ o
      → keys_of (option_map_or (λ e. (e.0, tt) ∷ remove_entry (nat_eq id) c.entries) o ((id, tt) ∷ take (c.cap - 1) c.entries)) ≡ take c.cap (in_front id (keys_of c.entries))
  put_from None none =
      ap (λ ks. id ∷ ks) (sym (take-map (λ e. e.0) (c.cap - 1) c.entries))
      ∙ sym (take_front c.cap id (keys_of c.entries) valid.2)
      ∙ sym (ap (take c.cap) (in_front-missing none))
  put_from (Some e) is =
      ap (λ k. k ∷ keys_of (remove_entry (nat_eq id) c.entries)) (sym (entry_key id c.entries e is))
      ∙ ap (λ ks. id ∷ ks) (keys-remove_entry id c.entries valid.0)
      ∙ sym (take_all c.cap (in_front id (keys_of c.entries)) (omega (arith, length-in_front id c.entries e valid.0 is, valid.1)))

  -- the names after a push
  pub keys-put : keys_of (put_entries nat_eq c id tt) ≡ take c.cap (in_front id (keys_of c.entries))
  keys-put = put_from (lookup_entry (nat_eq id) c.entries) refl

  told-missing : (i : ℕ) (o : Option (ℕ × Unit {0})) → IsMissing id (keys_of c.entries) → slice_get c.entries i ≡ o → told id o ≡ option_map (λ e. e.0) o
  told-missing i None h is = refl
  told-missing i (Some e) h is = rw (missing_at id c.entries i e h is) refl

  told_from : (o : Option (ℕ × Unit {0})) → lookup_entry (nat_eq id) c.entries ≡ o
      → told id (option_map_or (λ old. Some (id, old)) (option_map (λ e. e.1) o) (slice_get c.entries (c.cap - 1))) ≡ slice_get (in_front id (keys_of c.entries)) c.cap
  told_from None none =
      told-missing (c.cap - 1) (slice_get c.entries (c.cap - 1)) (missing id c.entries none) refl
      ∙ sym (slice_get-map (λ e. e.0) c.entries (c.cap - 1))
      ∙ sym (get_behind c.cap id (keys_of c.entries) valid.2)
      ∙ sym (ap (λ ks. slice_get ks c.cap) (in_front-missing none))
  told_from (Some e) is =
      rw (self_eq id) (sym (slice_get_past (in_front id (keys_of c.entries)) c.cap (omega (arith, length-in_front id c.entries e valid.0 is, valid.1))))

  -- the name that has no room after a push
  pub told-displaced : told id (displaced nat_eq c id tt) ≡ slice_get (in_front id (keys_of c.entries)) c.cap
  told-displaced = ap (λ o. told id (option_map_or (λ old. Some (id, old)) o (slice_get c.entries (c.cap - 1)))) (value_entry id c.entries) ∙ told_from (lookup_entry (nat_eq id) c.entries) refl
