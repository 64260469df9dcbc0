-- The components of a graph are the cycles of its state.
use Rattle.std.proofs.Common.{◌≡◌, ℕ, suc, ◌+◌, ◌<◌, inl, inr, List, [], ◌∷◌, ◌++◌, length, get_or, refl, sym, ap, ◌∙◌, subst, arith, Bool, true, false, cond}
use Rattle.std.specs.Prelude.{Option, Some, None, ◌==◌, ◌&&◌, ◌||◌, filter, count_by}
use Rattle.std.specs.List.{list_any}
use Rattle.std.proofs.lemmas.List.Sums.{length-filter, sum_by-cons}
use Rattle.std.specs.FinMap.{get}
use Rattle.ownership_model.specs.Reach.{has, Reaches}
use Rattle.ownership_model.specs.declared.link.Link.TheVariants.{StrongOnly}
use Rattle.ownership_model.specs.Leaks.{IsLeaked}
use Rattle.trace_types.specs.declared.slots.Slot.{Slot}
use Rattle.trace_types.specs.declared.slots.Slot.TheVariants.{Strong}
use Rattle.trace_types.specs.declared.slots.Entry.{Entry}
use Rattle.trace_types.specs.declared.slots.Entry.TheVariants.{Alive, Husk}
use Rattle.ownership_model.specs.State.{State, is_alive}
use Rattle.retention_model.specs.declared.place.Place.{Place}
use Rattle.retention_model.specs.declared.place.Place.TheVariants.{Handle, Cell, Field}
use Rattle.retention_model.specs.Places.{at, field_at, IsRoot, IsFieldOf}
use Rattle.retention_model.specs.Ways.{LeadsTo, BeginsIn, IsWay}
use Rattle.retention_model.specs.Cycles as state
use Rattle.retention_model.specs.Cycles.{AreInOneCycle, IsCycleOf, count_of}
use Rattle.retention_model.proofs.LawsHold as law
use Rattle.retention.specs.declared.graph.Graph.{Graph}
use Rattle.retention.specs.Layout.{upto}
use Rattle.retention.specs.Graph.{size, object_at, IsGraphOf}
use Rattle.retention.specs.Walked.{Keeps}
use Rattle.retention.specs.Components.{AreTogether, AreParts, size_of}
use Rattle.retention.proofs.WalkSteps.{number_same, same_number}
use Rattle.retention.proofs.JoinSteps.{has_upto, upto_has}
use Rattle.retention.proofs.GraphLaws.{object_index, keeps_told, same_index}
use Rattle.retention.proofs.HeldLemmas.{key_of}

-- Ways one behind the other.

leads_append : (m : State) (way : List Place) (r : ℕ) (q : Place) (more : List Place) (o : ℕ) → LeadsTo m r way → IsFieldOf r q → LeadsTo m o (q ∷ more) → LeadsTo m o (way ++ q ∷ more)
leads_append m [] r q more o l f k = absurd l
leads_append m (p ∷ []) r q more o l f k = ((r, l, f), k)
leads_append m (p ∷ s ∷ way) r q more o l f k = (l.0, leads_append m (s ∷ way) r q more o l.1 f k)

begins_append : (From : Place → Type 0) (way more : List Place) → BeginsIn From way → BeginsIn From (way ++ more)
begins_append From [] more b = absurd b
begins_append From (p ∷ way) more b = b

-- what an object that is reached keeps is reached
kept_reached : (m : State) (p o : ℕ) → Reaches StrongOnly m p → (way : List Place) → IsWay m (IsFieldOf p) o way → Reaches StrongOnly m o
kept_reached m p o there [] w = absurd w.0
kept_reached m p o there (q ∷ way) w =
    let first = (law.ways m p).0 there in
    (law.ways m o).1 (first.0 ++ q ∷ way, (begins_append IsRoot first.0 (q ∷ way) first.1.0, leads_append m first.0 p q way o first.1.1 w.0 w.1))

-- what has a field lives
alive_field : (x : Option Entry) (i : ℕ) (s : Slot) → field_at x i ≡ Some s → is_alive x ≡ true
alive_field None i s e = absurd cc
alive_field (Some (Alive fields)) i s e = refl
alive_field (Some Husk) i s e = absurd cc

alive_of : (m : State) (p : ℕ) (q : Place) (s : Slot) → IsFieldOf p q → at m q ≡ Some s → is_alive (get m.objects p) ≡ true
alive_of m p (Handle h i) s f e = absurd f
alive_of m p (Cell c) s f e = absurd f
alive_of m p (Field o i) s f e = subst (λ k. is_alive (get m.objects k) ≡ true) f (alive_field (get m.objects o) i s e)

first_held : (m : State) (way : List Place) (q : Place) (o : ℕ) → LeadsTo m o (q ∷ way) → (r : ℕ) × (at m q ≡ Some (Strong r))
first_held m [] q o l = (o, l)
first_held m (s ∷ way) q o l = (l.0.0, l.0.1)

keeps_alive : (m : State) (p o : ℕ) (way : List Place) → IsWay m (IsFieldOf p) o way → is_alive (get m.objects p) ≡ true
keeps_alive m p o [] w = absurd w.0
keeps_alive m p o (q ∷ way) w = let it = first_held m way q o w.1 in alive_of m p q (Strong it.0) w.0 it.1

-- what keeps a leaked object is leaked
pub leaked_keeper : (m : State) (p o : ℕ) → IsLeaked m o → state.Keeps m p o → IsLeaked m p
leaked_keeper m p o leaked keeps = record {
  alive = keeps_alive m p o keeps.0 keeps.1;
  unreached = λ there. leaked.unreached (kept_reached m p o there keeps.0 keeps.1);
}

alive_there : (x : Option Entry) → is_alive x ≡ true → (e : Entry) × (x ≡ Some e)
alive_there None e = absurd cc
alive_there (Some x) e = (x, refl)

-- Numbers in a list that pass.

or_any : (a b : Bool) → b ≡ true → (a || b) ≡ true
or_any true b h = refl
or_any false b h = h

any_at : (f : ℕ → Bool) (xs : List ℕ) (x : ℕ) → has x xs ≡ true → f x ≡ true → list_any f xs ≡ true
any_at f [] x h t = absurd cc
any_at f (y ∷ xs) x h t =
    elim (y == x) as (λ b. (y == x) ≡ b → (b || has x xs) ≡ true → (f y || list_any f xs) ≡ true) [
      | true ↦ λ e k. ap (λ b. b || list_any f xs) (subst (λ z. f z ≡ true) (sym (number_same y x e)) t)
      | false ↦ λ e k. or_any (f y) (list_any f xs) (any_at f xs x k t)
    ] refl h

any_some : (f : ℕ → Bool) (xs : List ℕ) → list_any f xs ≡ true → (x : ℕ) × (has x xs ≡ true) × (f x ≡ true)
any_some f [] h = absurd cc
any_some f (y ∷ xs) h =
    elim (f y) as (λ b. f y ≡ b → (b || list_any f xs) ≡ true → (x : ℕ) × (((y == x) || has x xs) ≡ true) × (f x ≡ true)) [
      | true ↦ λ e k. (y, ap (λ b. b || has y xs) (same_number y), e)
      | false ↦ λ e k. let it = any_some f xs k in (it.0, or_any (y == it.0) (has it.0 xs) it.1, it.2)
    ] refl h

both : (a b : Bool) → a ≡ true → b ≡ true → (a && b) ≡ true
both true b e f = f
both false b e f = absurd cc

each_of : (a b : Bool) → (a && b) ≡ true → (a ≡ true) × (b ≡ true)
each_of true b e = (refl, e)
each_of false b e = absurd cc

same_bool : (a b : Bool) → (a ≡ true → b ≡ true) → (b ≡ true → a ≡ true) → a ≡ b
same_bool true b f g = sym (f refl)
same_bool false true f g = g refl
same_bool false false f g = refl

test_same : (a b : ℕ) → a ≡ b → (a == b) ≡ true
test_same a b e = subst (λ x. (a == x) ≡ true) e (same_number a)

-- two lists that pass two tests alike
count_alike : (f t : ℕ → Bool) (xs ys : List ℕ) → length xs ≡ length ys → ((j : ℕ) → j < length xs → f (get_or xs j 0) ≡ t (get_or ys j 0)) → count_by f xs ≡ count_by t ys
count_alike f t [] [] e h = refl
count_alike f t [] (y ∷ ys) e h = absurd (omega (arith, e))
count_alike f t (x ∷ xs) [] e h = absurd (omega (arith, e))
count_alike f t (x ∷ xs) (y ∷ ys) e h =
    let rest : count_by f xs ≡ count_by t ys = count_alike f t xs ys (let n : length xs ≡ length ys = omega (arith, e) in n) (λ j l. h (suc j) (omega (arith, l))) in
    sum_by-cons (λ z. cond (f z) 1 0) x xs ∙ ap (λ n. cond {A = ℕ} (f x) 1 0 + n) rest ∙ ap (λ b. cond {A = ℕ} b 1 0 + count_by t ys) (h 0 (omega arith)) ∙ sym (sum_by-cons (λ z. cond (t z) 1 0) y ys)

-- whether an object is the j-th, and in the component of the i-th
abbrev pub is_of : Graph → List ℕ → ℕ → ℕ → ℕ → Bool
is_of g parts i o j = (object_at g j == o) && (get_or parts j 0 == get_or parts i 0)

-- whether an object is in the component of the i-th
abbrev pub in_part_of : Graph → List ℕ → ℕ → ℕ → Bool
in_part_of g parts i o = list_any (is_of g parts i o) (upto (size g))

-- The cycle of a leaked object that leads to itself.
module _ (m : State) (since : Place → ℕ) (g : Graph) (is : IsGraphOf m since g) (parts : List ℕ) (are : AreParts g parts) (i : ℕ) (inside : i < size g)
    (leaked : IsLeaked m (object_at g i)) (cyclic : Keeps g i i) where
  of_together : (j : ℕ) → AreTogether g j i → Keeps g i j × Keeps g j i
  of_together j (inl e) = subst (λ x. Keeps g i x × Keeps g x i) (sym e) (cyclic, cyclic)
  of_together j (inr it) = (it.1, it.0)

  in_component : (j : ℕ) → j < size g → get_or parts j 0 ≡ get_or parts i 0 → Keeps g i j × Keeps g j i
  in_component j h e = of_together j (are.same j i h inside e)

  one_cycle : (j : ℕ) → j < size g → Keeps g i j × Keeps g j i → AreInOneCycle m (object_at g i) (object_at g j)
  one_cycle j h it =
      let there = (keeps_told m since g is i j inside h).0 it.0 in
      let back = (keeps_told m since g is j i h inside).0 it.1 in
      (leaked, leaked_keeper m (object_at g j) (object_at g i) leaked back, there, back)

  cycle_in : (p : ℕ) → in_part_of g parts i p ≡ true → AreInOneCycle m (object_at g i) p
  cycle_in p h =
      let it = any_some (is_of g parts i p) (upto (size g)) h in
      let within : it.0 < size g = upto_has (size g) it.0 it.1 in
      let each = each_of (object_at g it.0 == p) (get_or parts it.0 0 == get_or parts i 0) it.2 in
      subst (λ x. AreInOneCycle m (object_at g i) x) (number_same (object_at g it.0) p each.0)
      (one_cycle it.0 within (in_component it.0 within (number_same (get_or parts it.0 0) (get_or parts i 0) each.1)))

  in_cycle : (p : ℕ) → AreInOneCycle m (object_at g i) p → in_part_of g parts i p ≡ true
  in_cycle p c =
      let entry = alive_there (get m.objects p) c.1.alive in
      let it = object_index m since g is p (key_of m.objects p entry.0 entry.1) in
      let there : Keeps g i it.0 = (keeps_told m since g is i it.0 inside it.1).1 (subst (λ x. state.Keeps m (object_at g i) x) (sym it.2) c.2) in
      let back : Keeps g it.0 i = (keeps_told m since g is it.0 i it.1 inside).1 (subst (λ x. state.Keeps m x (object_at g i)) (sym it.2) c.3) in
      any_at (is_of g parts i p) (upto (size g)) it.0 (has_upto (size g) it.0 it.1)
      (both (object_at g it.0 == p) (get_or parts it.0 0 == get_or parts i 0) (test_same (object_at g it.0) p it.2)
      (test_same (get_or parts it.0 0) (get_or parts i 0) (are.all it.0 i it.1 inside (inr (back, there)))))

  at_index : (j : ℕ) → j < size g → in_part_of g parts i (object_at g j) ≡ (get_or parts j 0 == get_or parts i 0)
  at_index j h = same_bool (in_part_of g parts i (object_at g j)) (get_or parts j 0 == get_or parts i 0)
      (λ e. let it = any_some (is_of g parts i (object_at g j)) (upto (size g)) e in
      let each = each_of (object_at g it.0 == object_at g j) (get_or parts it.0 0 == get_or parts i 0) it.2 in
      subst (λ x. (get_or parts x 0 == get_or parts i 0) ≡ true) (same_index g it.0 j (upto_has (size g) it.0 it.1) h (number_same (object_at g it.0) (object_at g j) each.0)) each.1)
      (λ e. any_at (is_of g parts i (object_at g j)) (upto (size g)) j (has_upto (size g) j h) (both (object_at g j == object_at g j) (get_or parts j 0 == get_or parts i 0) (same_number (object_at g j)) e))

  pub cycle_told : (k : ℕ → Bool) × IsCycleOf m (object_at g i) k × (size_of parts (get_or parts i 0) ≡ count_of m k)
  cycle_told = (
    in_part_of g parts i,
    λ p. (cycle_in p, in_cycle p),
    sym (count_alike (in_part_of g parts i) (λ part. part == get_or parts i 0) g.objects.items parts (sym are.long) at_index)
        ∙ sym (length-filter (in_part_of g parts i) g.objects.items) ∙ ap (λ ks. length (filter (in_part_of g parts i) ks)) is.objects,
  )
