-- Each leaked object is in a cycle or under one: what holds it leaked too, and so on back. Each object on the way back that is in no cycle
-- leads to more objects than the one before, and there are finitely many.
use Rattle.std.proofs.Common.{◌≡◌, ℕ, zero, suc, ◌+◌, ◌<◌, ◌≤◌, List, [], ◌∷◌, length, refl, sym, ap, ◌∙◌, arith, Bool, true, false, inl, inr}
use Rattle.std.specs.Prelude.{Option, Some, None, ◌⊎◌, ◌==◌, ◌||◌, if◌then◌else◌, is_some}
use Rattle.std.specs.FinMap.{get, keys, contains_key-keys}
use Rattle.std.proofs.lemmas.Bool.Decides.{nat_tests}
use Rattle.trace_types.specs.declared.slots.Entry.{Entry}
use Rattle.ownership_model.specs.State.{State, is_alive, IsSound}
use Rattle.ownership_model.specs.declared.link.Link.TheVariants.{StrongOnly}
use Rattle.ownership_model.specs.Reach.{has, root_names, is_reached, Reaches, Reaches.by_root, Reaches.by_field}
use Rattle.ownership_model.specs.Leaks.{IsLeaked}
use Rattle.ownership_model.proofs.Searching.{has_as_any}
use Rattle.ownership_model.proofs.LawsHold as model
use Rattle.retention_model.specs.declared.place.Place.{Place}
use Rattle.retention_model.specs.Places.{IsFieldOf}
use Rattle.retention_model.specs.Ways.{IsWay}
use Rattle.retention_model.specs.Cycles.{IsInCycle, IsFieldInCycle}
use Rattle.retention_laws.specs.Laws.{EachIsExplained}
use Rattle.retention_laws.proofs.LeadLemmas.{Holds, Leads, leads, leads_told, told_leads, leads_one, leads_on, leads_keeps}
use Rattle.retention_laws.proofs.HolderLemmas.{holder_alive, has_holder_field}

-- How many numbers of a list pass a test.

abbrev count_in : (ℕ → Bool) → List ℕ → ℕ
count_in f [] = 0
count_in f (k ∷ ks) = (if f k then 1 else 0) + count_in f ks

at_most_all : (f : ℕ → Bool) (ks : List ℕ) → count_in f ks ≤ length ks
at_most_all f [] = omega arith
at_most_all f (k ∷ ks) = grind (arith, at_most_all f ks)

-- what passes the first test passes the second
module _ (f g : ℕ → Bool) (sub : (p : ℕ) → f p ≡ true → g p ≡ true) where
  no_fewer : (ks : List ℕ) → count_in f ks ≤ count_in g ks
  no_fewer [] = omega arith
  no_fewer (k ∷ ks) = by_tests (f k) (g k) (sub k) (no_fewer ks)
    where
      by_tests : (a b : Bool) → (a ≡ true → b ≡ true) → count_in f ks ≤ count_in g ks → (if a then 1 else 0) + count_in f ks ≤ (if b then 1 else 0) + count_in g ks
      by_tests true true s less = omega (arith, less)
      by_tests true false s less = absurd (let e : false ≡ true = s refl in cc)
      by_tests false true s less = omega (arith, less)
      by_tests false false s less = omega (arith, less)

  -- and one member the second alone
  more : (o : ℕ) → f o ≡ false → g o ≡ true → (ks : List ℕ) → has o ks ≡ true → count_in f ks < count_in g ks
  more o out into [] there = absurd cc
  more o out into (k ∷ ks) there = by_place (k == o) refl there (more o out into ks)
    where
      by_tests : (a b : Bool) → (a ≡ true → b ≡ true) → count_in f ks < count_in g ks → (if a then 1 else 0) + count_in f ks < (if b then 1 else 0) + count_in g ks
      by_tests true true s less = omega (arith, less)
      by_tests true false s less = absurd (let e : false ≡ true = s refl in cc)
      by_tests false true s less = omega (arith, less)
      by_tests false false s less = omega (arith, less)

      one_more : (a b : Bool) → a ≡ false → b ≡ true → count_in f ks ≤ count_in g ks → (if a then 1 else 0) + count_in f ks < (if b then 1 else 0) + count_in g ks
      one_more true b p q less = absurd cc
      one_more false true p q less = omega (arith, less)
      one_more false false p q less = absurd cc

      by_place : (b : Bool) → (k == o) ≡ b → (b || has o ks) ≡ true → (has o ks ≡ true → count_in f ks < count_in g ks) → count_in f (k ∷ ks) < count_in g (k ∷ ks)
      by_place true same h later =
          let is : k ≡ o = grind (arith, nat_tests, same) in
          one_more (f k) (g k) (ap f is ∙ out) (ap g is ∙ into) (no_fewer ks)
      by_place false apart h later = by_tests (f k) (g k) (sub k) (later h)

alive_there : (x : Option Entry) → is_alive x ≡ true → is_some x ≡ true
alive_there None e = absurd cc
alive_there (Some x) e = refl

module _ (m : State) (sound : IsSound m []) where
  -- what is alive is among the objects
  key_of : (o : ℕ) → is_alive (get m.objects o) ≡ true → has o (keys m.objects) ≡ true
  key_of o alive = sym (has_as_any o (keys m.objects)) ∙ sym (contains_key-keys m.objects o) ∙ alive_there (get m.objects o) alive

  unrooted : (o : ℕ) → IsLeaked m o → (b : Bool) → has o (root_names StrongOnly m) ≡ b → b ≡ false
  unrooted o it true e = absurd (it.unreached (by_root o e))
  unrooted o it false e = refl

  -- what holds a leaked object leaked
  leaked_holder : (o : ℕ) → IsLeaked m o → (h : ℕ) × Holds m h o × IsLeaked m h
  leaked_holder o it =
      let held = has_holder_field m o sound it.alive (unrooted o it (has o (root_names StrongOnly m)) refl) in
      (held.0, held.1, record { alive = holder_alive m held.0 o held.1; unreached = λ r. it.unreached (by_field held.0 o r held.1) })

  -- a way leads to o from the fields of an object in a cycle
  abbrev IsUnder : ℕ → Type 0
  IsUnder o = (way : List Place) × IsWay m (IsFieldInCycle m) o way

  under : (h o : ℕ) → IsInCycle m h → Leads m h o → IsUnder o
  under h o cycle way = by_way (leads_keeps m h o way).0 (leads_keeps m h o way).1
    where
      by_way : (qs : List Place) → IsWay m (IsFieldOf h) o qs → IsUnder o
      by_way [] is = absurd is.0
      by_way (q ∷ qs) is = (q ∷ qs, ((h, cycle, is.0), is.1))

  -- the next object back leads to more
  leads_more : (h x : ℕ) → IsLeaked m x → Holds m h x → leads m x x ≡ false → count_in (leads m x) (keys m.objects) < count_in (leads m h) (keys m.objects)
  leads_more h x it held none =
      more (leads m x) (leads m h) (λ p e. told_leads m h p (leads_on m h x p (leads_one m h x held) (leads_told m x p e)))
      x none (told_leads m h x (leads_one m h x held)) (keys m.objects) (key_of x it.alive)

  -- back from x, which leads to o
  back : (n x o : ℕ) → IsLeaked m x → Leads m x o → length (keys m.objects) < count_in (leads m x) (keys m.objects) + n → IsUnder o
  back zero x o it way large = absurd (omega (arith, large, at_most_all (leads m x) (keys m.objects)))
  back (suc n) x o it way large = by_test (λ h leaked on enough. back n h o leaked on enough) (leads m x x) refl
    where
      by_test : ((h : ℕ) → IsLeaked m h → Leads m h o → length (keys m.objects) < count_in (leads m h) (keys m.objects) + n → IsUnder o) → (b : Bool) → leads m x x ≡ b → IsUnder o
      by_test further true e = under x o (it, leads_keeps m x x (leads_told m x x e)) way
      by_test further false none =
          let next = leaked_holder x it in
          further next.0 next.2 (leads_on m next.0 x o (leads_one m next.0 x next.1) way) (omega (arith, large, leads_more next.0 x it next.1 none))

  leaked_explained : (o : ℕ) → IsLeaked m o → IsInCycle m o ⊎ IsUnder o
  leaked_explained o it =
      let next = leaked_holder o it in
      by_test next (leads m o o) refl
    where
      by_test : ((h : ℕ) × Holds m h o × IsLeaked m h) → (b : Bool) → leads m o o ≡ b → IsInCycle m o ⊎ IsUnder o
      by_test next true e = inl (it, leads_keeps m o o (leads_told m o o e))
      by_test next false none = inr (back (length (keys m.objects) + 1) next.0 o next.2 (leads_one m next.0 o next.1) (omega arith))

pub each_explained : EachIsExplained
each_explained m o sound alive = by_test (is_reached StrongOnly m o) refl
  where
    unreached : is_reached StrongOnly m o ≡ false → Reaches StrongOnly m o → ⊥
    unreached none r = let e : is_reached StrongOnly m o ≡ true = (model.reach.reached StrongOnly m o).1 r in cc

    by_test : (b : Bool) → is_reached StrongOnly m o ≡ b → Reaches StrongOnly m o ⊎ IsInCycle m o ⊎ ((way : List Place) × IsWay m (IsFieldInCycle m) o way)
    by_test true e = inl ((model.reach.reached StrongOnly m o).0 e)
    by_test false none = inr (leaked_explained m sound o (record { alive = alive; unreached = unreached none }))
