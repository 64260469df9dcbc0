-- Chunks whose numbers are all below one, and lists that keep the newest.
use Rattle.std.proofs.Common.{◌≡◌, ◌<◌, ℕ, zero, suc, ◌-◌, ◌+◌, Bool, true, false, cond, nat_eq, List, [], ◌∷◌, take, refl, ap, sym, subst, ◌∙◌, arith}
use Rattle.std.specs.Prelude.{Option, Some, None, IfSome}
use Rattle.std.specs.Option.{option_map_or}
use Rattle.std.specs.Map.{lookup, lookup_entry, remove_entry}
use Rattle.std.specs.List.{AllByRecursion}
use Rattle.std.proofs.lemmas.Bool.{ne_eqb}
use Rattle.lru.specs.LruCache.{LruCache, promoted, put_entries}
use Rattle.op_step.specs.Chunk.{Chunk}
use Rattle.mark_shelf.specs.declared.names.ChunkName.{ChunkName}
use Rattle.mark_shelf.specs.Shelf.{Shelf, name_eq, named, sought}
use Rattle.mark_shelf.proofs.MarkLemmas.{take_front}

abbrev pub AreBelow : ℕ → List (ℕ × Chunk) → Type 0
AreBelow n es = AllByRecursion (λ e. e.0 < n) es

pub AreBelow-take : (n : ℕ) (k : ℕ) (es : List (ℕ × Chunk)) → AreBelow n es → AreBelow n (take k es)
AreBelow-take n zero es h = tt
AreBelow-take n (suc k) [] h = tt
AreBelow-take n (suc k) (e ∷ es) h = (h.0, AreBelow-take n k es h.1)

pub AreBelow-next : (n : ℕ) (es : List (ℕ × Chunk)) → AreBelow n es → AreBelow (n + 1) es
AreBelow-next n [] h = tt
AreBelow-next n (e ∷ es) h = (omega (arith, h.0), AreBelow-next n es h.1)

AreBelow-remove_entry : (n : ℕ) (test : ℕ → Bool) (es : List (ℕ × Chunk)) → AreBelow n es → AreBelow n (remove_entry test es)
AreBelow-remove_entry n test [] h = tt
AreBelow-remove_entry n test (e ∷ es) h = elim (test e.0) as (λ b. AreBelow n (cond b es (e ∷ remove_entry test es))) [ true ↦ h.1 | false ↦ (h.0, AreBelow-remove_entry n test es h.1) ]

-- of a chunk that is there, the number is below too
lookup_entry-below : (n : ℕ) (test : ℕ → Bool) (es : List (ℕ × Chunk)) (e : ℕ × Chunk) → AreBelow n es → lookup_entry test es ≡ Some e → e.0 < n
lookup_entry-below n test [] e h is = cc
lookup_entry-below n test (f ∷ es) e h is =
    elim (test f.0) as (λ b. cond b (Some f) (lookup_entry test es) ≡ Some e → e.0 < n) [
      | true ↦ λ t. let same : f ≡ e = cc in subst (λ (g : ℕ × Chunk). g.0 < n) same h.0
      | false ↦ λ t. lookup_entry-below n test es e h.1 t
    ] is

promoted_from : (n : ℕ) (test : ℕ → Bool) (es : List (ℕ × Chunk)) (o : Option (ℕ × Chunk)) → AreBelow n es → lookup_entry test es ≡ o → AreBelow n (option_map_or (λ e. e ∷ remove_entry test es) o es)
promoted_from n test es None h is = h
promoted_from n test es (Some e) h is = (lookup_entry-below n test es e h is, AreBelow-remove_entry n test es h)

pub AreBelow-promoted : (n : ℕ) (test : ℕ → Bool) (es : List (ℕ × Chunk)) → AreBelow n es → AreBelow n (promoted test es)
AreBelow-promoted n test es h = promoted_from n test es (lookup_entry test es) h refl

-- a number that is above all is not there
lookup_entry-above : (n : ℕ) (es : List (ℕ × Chunk)) → AreBelow n es → lookup_entry (nat_eq n) es ≡ None
lookup_entry-above n [] h = refl
lookup_entry-above n (e ∷ es) h =
    let other : nat_eq n e.0 ≡ false = ne_eqb n e.0 (λ same. omega (arith, h.0, same)) in
    rw other (lookup_entry-above n es h.1)

-- the chunks after a push under such a number
pub put-above : (c : LruCache ℕ Chunk) (n : ℕ) (v : Chunk) → 0 < c.cap → AreBelow n c.entries → put_entries nat_eq c n v ≡ take c.cap ((n, v) ∷ c.entries)
put-above c n v some h =
    ap (λ o. option_map_or (λ e. (e.0, v) ∷ remove_entry (nat_eq n) c.entries) o ((n, v) ∷ take (c.cap - 1) c.entries)) (lookup_entry-above n c.entries h)
    ∙ sym (take_front c.cap (n, v) c.entries some)

-- a chunk that a name leads to is the one that it stands for
named-there : (s : Shelf) (n : ChunkName) (k : ℕ) (c : Chunk) → lookup (name_eq n) s.names ≡ Some k → lookup (nat_eq k) s.chunks ≡ Some c → named s n ≡ Some c
named-there s n k c is there = rw is there

pub IfSome-named : (s : Shelf) (n : ChunkName) (k : ℕ) (c : Chunk) (answer : Option Chunk) → lookup (name_eq n) s.names ≡ Some k → lookup (nat_eq k) s.chunks ≡ Some c
    → IfSome answer (λ d. d ≡ c) → IfSome answer (λ d. named s n ≡ Some d)
IfSome-named s n k c None is there h = tt
IfSome-named s n k c (Some d) is there h = named-there s n k c is there ∙ ap Some (sym h)

-- and a look-up of its name brings it to the front
pub sought-there : (s : Shelf) (n : ChunkName) (k : ℕ) (c : Chunk) → lookup (name_eq n) s.names ≡ Some k → lookup (nat_eq k) s.chunks ≡ Some c → record s { chunks = promoted (nat_eq k) s.chunks; joints = promoted (nat_eq k) s.joints } ≡ sought s n
sought-there s n k c is there = rw (is, there) refl
