-- Ways and paths in a graph say the same; and what fields and places can be.
use Rattle.std.proofs.Common.{◌≡◌, ℕ, zero, suc, ◌+◌, ◌<◌, ◌≤◌, inl, inr, List, [], ◌∷◌, ◌++◌, length, get_or, refl, sym, ap, ◌∙◌, subst, arith, Bool, true, false}
use Rattle.std.specs.Prelude.{Option, Some, None, nat_lt, if◌then◌else◌, slice_get}
use Rattle.std.proofs.lemmas.Bool.Decides.{nat_tests}
use Rattle.std.proofs.lemmas.List.{get_or_past}
use mathlib.Core.Path.{fun_ext}
use Rattle.trace_types.specs.declared.slots.Slot.{Slot}
use Rattle.trace_types.specs.declared.slots.Slot.TheVariants.{Nothing, Strong, Weak, Dangling}
use Rattle.retention.specs.declared.graph.Graph.{Graph}
use Rattle.retention.specs.Graph.{size, places, start_at, held_at, target_at, strong_target, holds, IsFieldAt, is_field_at}
use Rattle.retention.specs.Walked.{LeadsBy, Leads, Keeps, IsLeastBy, IsLeast, is_in_part, within_part, holds_in}
use Rattle.retention.specs.Components.{AreTogether, AreParts}
use Rattle.retention.specs.Paths.{Points, Chain, Path, Same}
use Rattle.retention.proofs.PathLemmas.{path_trans}
use Rattle.retention.proofs.LayoutLemmas.{start_rises}

-- What a place holds is one of the objects, and it is the one that the place names.

target_of : (t n o : ℕ) (b : Bool) → nat_lt t n ≡ b → (if b then Some t else None) ≡ Some o → (t ≡ o) × (o < n)
target_of t n o true e h = let same : t ≡ o = cc in (same, grind (arith, nat_tests, e, same))
target_of t n o false e h = absurd cc

pub strong_object : (s : Slot) (t n o : ℕ) → strong_target s t n ≡ Some o → (t ≡ o) × (o < n)
strong_object Nothing t n o h = absurd cc
strong_object (Strong q) t n o h = target_of t n o (nat_lt t n) refl h
strong_object (Weak q) t n o h = absurd cc
strong_object Dangling t n o h = absurd cc

-- of a graph
module _ (g : Graph) where
  pub held_object : (p o : ℕ) → holds g p ≡ Some o → (target_at g p ≡ o) × (o < size g)
  held_object p o h = strong_object (held_at g p).slot (target_at g p) (size g) o h

  none_beyond : (p : ℕ) → places g ≤ p → holds g p ≡ None
  none_beyond p h = ap (λ x. strong_target x.slot (target_at g p) (size g)) (get_or_past g.held.items p _ h)

  pub held_place : (p o : ℕ) → holds g p ≡ Some o → p < places g
  held_place p o h =
      elim (nat_lt p (places g)) as (λ b. nat_lt p (places g) ≡ b → p < places g) [
        | true ↦ λ e. grind (arith, nat_tests, e)
        | false ↦ λ e. absurd (let none : holds g p ≡ None = none_beyond p (grind (arith, nat_tests, e)) in cc)
      ] refl

  pub field_object : (i p : ℕ) → IsFieldAt g i p → i < size g
  field_object i p f =
      elim (nat_lt i (size g)) as (λ b. nat_lt i (size g) ≡ b → i < size g) [
        | true ↦ λ e. grind (arith, nat_tests, e)
        | false ↦ λ e. absurd (
            let beyond : size g ≤ i = grind (arith, nat_tests, e) in
            let long : length g.starts.items ≡ size g + 1 = g.laid.are_starts.long in
            let none : start_at g (i + 1) ≡ 0 = get_or_past g.starts.items (i + 1) 0 (omega (arith, beyond, long)) in
            let below : p < start_at g (i + 1) = f.1 in
            omega (arith, none, below))
      ] refl

  -- a place of a handle or a cell is no field
  pub no_field : (i p : ℕ) → p < start_at g 0 → IsFieldAt g i p → ⊥
  no_field i p h f =
      let low : start_at g i ≤ p = f.0 in
      let inside : i < size g = field_object i p f in
      let rise : start_at g 0 ≤ start_at g (0 + i) = start_rises g.starts.items (size g) g.laid.are_starts.rising 0 i (omega (arith, inside)) in
      let rise' : start_at g 0 ≤ start_at g i = subst (λ n. start_at g 0 ≤ start_at g n) (let e : 0 + i ≡ i = omega arith in e) rise in
      omega (arith, h, low, rise')

  -- the object of which a place is a field
  pub source_is : (i p : ℕ) → IsFieldAt g i p → get_or g.sources.items p 0 ≡ i
  source_is i p f = g.laid.are_sources.same i p (field_object i p f) f.0 f.1

  pub source_of : (p : ℕ) → start_at g 0 ≤ p → p < places g → (get_or g.sources.items p 0 < size g) × IsFieldAt g (get_or g.sources.items p 0) p
  source_of p h l = g.laid.are_sources.own p h l

  pub field_true : (i p : ℕ) → IsFieldAt g i p → is_field_at g i p ≡ true
  field_true i p f = let low : start_at g i ≤ p = f.0 in let high : p < start_at g (i + 1) = f.1 in grind (arith, nat_tests, low, high)

  pub true_field : (i p : ℕ) → is_field_at g i p ≡ true → IsFieldAt g i p
  true_field i p h = (grind (arith, nat_tests, h), grind (arith, nat_tests, h))

  pub points_bounded : (a b : ℕ) → Points g a b → (a < size g) × (b < size g)
  points_bounded a b it = (field_object a it.0 it.1, (held_object it.0 b it.2).1)

  -- a way from the fields of i is a path from i
  pub way_path : (i : ℕ) (way : List ℕ) (o : ℕ) → Leads g (is_field_at g i) o way → Path (Points g) i o
  way_path i [] o l = absurd l
  way_path i (p ∷ []) o l = ([], (p, true_field i p l.1, l.0))
  way_path i (p ∷ q ∷ way) o l = path_trans (Points g) i l.1.0 o (way_path i (q ∷ way) l.1.0 l.1.2) ([], (p, l.1.1, l.0))

  pub keeps_path : (i o : ℕ) → Keeps g i o → Path (Points g) i o
  keeps_path i o it = way_path i it.0 o it.1

  -- one place more before the first
  begin_before : (i c p : ℕ) → IsFieldAt g i p → holds g p ≡ Some c → (way : List ℕ) (o : ℕ) → Leads g (is_field_at g c) o way → Leads g (is_field_at g i) o (way ++ p ∷ [])
  begin_before i c p f h [] o l = absurd l
  begin_before i c p f h (q ∷ []) o l = (l.0, (c, true_field c q l.1, (h, field_true i p f)))
  begin_before i c p f h (q ∷ s ∷ way) o l = (l.0, (l.1.0, l.1.1, begin_before i c p f h (s ∷ way) l.1.0 l.1.2))

  chain_keeps : (cs : List ℕ) (i o : ℕ) → Chain (Points g) i cs o → Keeps g i o
  chain_keeps [] i o e = (e.0 ∷ [], (e.2, field_true i e.0 e.1))
  chain_keeps (c ∷ cs) i o e = let it = chain_keeps cs c o e.1 in (it.0 ++ e.0.0 ∷ [], begin_before i c e.0.0 e.0.1 e.0.2 it.0 o it.1)

  pub path_keeps : (i o : ℕ) → Path (Points g) i o → Keeps g i o
  path_keeps i o it = chain_keeps it.0 i o it.1

  pub together_same : (i j : ℕ) → AreTogether g i j → Same (Points g) i j
  together_same i j (inl e) = inl e
  together_same i j (inr it) = inr (keeps_path i j it.0, keeps_path j i it.1)

  pub same_together : (i j : ℕ) → Same (Points g) i j → AreTogether g i j
  same_together i j (inl e) = inl e
  same_together i j (inr it) = inr (path_keeps i j it.0, path_keeps j i it.1)

-- Within a part.

all_in_part : (x : Option ℕ) → within_part [] 0 x ≡ x
all_in_part None = refl
all_in_part (Some t) = refl

-- the whole graph
pub whole : (g : Graph) → (λ (p : ℕ). holds_in g [] 0 p) ≡ holds g
whole g = fun_ext (λ p. all_in_part (holds g p))

some_in : (b : Bool) (t o : ℕ) → (if b then Some t else None) ≡ Some o → (b ≡ true) × (t ≡ o)
some_in true t o h = (refl, cc)
some_in false t o h = absurd cc

in_part : (parts : List ℕ) (part : ℕ) (x : Option ℕ) (o : ℕ) → within_part parts part x ≡ Some o → x ≡ Some o
in_part parts part None o h = absurd cc
in_part parts part (Some t) o h = ap Some (some_in (is_in_part (slice_get parts t) part) t o h).1

pub in_part_holds : (g : Graph) (parts : List ℕ) (part p o : ℕ) → holds_in g parts part p ≡ Some o → holds g p ≡ Some o
in_part_holds g parts part p o h = in_part parts part (holds g p) o h

is_part : (parts : List ℕ) (part t : ℕ) → t < length parts → get_or parts t 0 ≡ part → is_in_part (slice_get parts t) part ≡ true
is_part [] part t h e = absurd (omega (arith, h))
is_part (x ∷ parts) part zero h e = grind (arith, nat_tests, e)
is_part (x ∷ parts) part (suc t) h e = is_part parts part t (omega (arith, h)) e

kept_in : (parts : List ℕ) (part o : ℕ) → o < length parts → get_or parts o 0 ≡ part → within_part parts part (Some o) ≡ Some o
kept_in parts part o h e = ap (λ b. if b then Some o else None) (is_part parts part o h e)

pub holds_part : (g : Graph) (parts : List ℕ) (part p o : ℕ) → o < length parts → get_or parts o 0 ≡ part → holds g p ≡ Some o → holds_in g parts part p ≡ Some o
holds_part g parts part p o within e h = ap (within_part parts part) h ∙ kept_in parts part o within e

-- The ways from the fields of an object to itself stay in its component.
module _ (g : Graph) (parts : List ℕ) (are : AreParts g parts) (i : ℕ) (inside : i < size g) where
  part_of : (o : ℕ) → Path (Points g) i o → Path (Points g) o i → o < size g → get_or parts o 0 ≡ get_or parts i 0
  part_of o there back within = are.all o i within inside (inr (path_keeps g o i back, path_keeps g i o there))

  stays : (way : List ℕ) (o : ℕ) → Path (Points g) o i → Leads g (is_field_at g i) o way → LeadsBy (holds_in g parts (get_or parts i 0)) (IsFieldAt g) (is_field_at g i) o way
  stays [] o back l = absurd l
  stays (p ∷ []) o back l =
      let within : o < size g = (held_object g p o l.0).1 in
      (holds_part g parts (get_or parts i 0) p o (subst (λ n. o < n) (sym are.long) within) (part_of o (way_path g i (p ∷ []) o l) back within) l.0, l.1)
  stays (p ∷ q ∷ way) o back l =
      let within : o < size g = (held_object g p o l.0).1 in (
        holds_part g parts (get_or parts i 0) p o (subst (λ n. o < n) (sym are.long) within) (part_of o (way_path g i (p ∷ q ∷ way) o l) back within) l.0,
        (l.1.0, l.1.1, stays (q ∷ way) l.1.0 (path_trans (Points g) l.1.0 o i ([], (p, l.1.1, l.0)) back) l.1.2),
      )

  goes : (way : List ℕ) (o : ℕ) → LeadsBy (holds_in g parts (get_or parts i 0)) (IsFieldAt g) (is_field_at g i) o way → Leads g (is_field_at g i) o way
  goes [] o l = absurd l
  goes (p ∷ []) o l = (in_part_holds g parts (get_or parts i 0) p o l.0, l.1)
  goes (p ∷ q ∷ way) o l = (in_part_holds g parts (get_or parts i 0) p o l.0, (l.1.0, l.1.1, goes (q ∷ way) l.1.0 l.1.2))

  pub own_least : (way : List ℕ) → Keeps g i i → IsLeastBy (holds_in g parts (get_or parts i 0)) (IsFieldAt g) (is_field_at g i) i way → IsLeast g (is_field_at g i) i way
  own_least way cyclic least = (goes way i least.0, λ other l. least.1 other (stays other i (keeps_path g i i cyclic) l))

  pub own_seen : (way : List ℕ) → Keeps g i i → Leads g (is_field_at g i) i way → LeadsBy (holds_in g parts (get_or parts i 0)) (IsFieldAt g) (is_field_at g i) i way
  own_seen way cyclic l = stays way i (keeps_path g i i cyclic) l
