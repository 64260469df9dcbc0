-- The objects that one retains by the numbers of a graph are those that it retains in the state.
use Rattle.std.proofs.Common.{◌≡◌, ℕ, zero, suc, ◌+◌, ◌<◌, List, [], length, map, refl, sym, ap, ◌∙◌, subst, arith, Bool, true, false, inl, inr}
use Rattle.std.specs.Prelude.{Option, Some, None, ◌⊎◌, ◌==◌, not, filter, if◌then◌else◌}
use Rattle.std.proofs.lemmas.Bool.Decides.{nat_tests}
use Rattle.std.specs.FinMap.{get, keys}
use Rattle.trace_types.specs.declared.slots.Slot.TheVariants.{Strong}
use Rattle.trace_types.specs.declared.slots.Holding.{Holding}
use Rattle.trace_types.specs.declared.slots.Holding.TheVariants as holding
use Rattle.trace_types.specs.declared.slots.Entry.{Entry}
use Rattle.trace_types.specs.declared.slots.Entry.TheVariants.{Alive, Husk}
use Rattle.ownership_model.specs.State.{State, strong, weak, ends, names_alike, is_alive, IsSound, IsSoundAt}
use Rattle.ownership_model.specs.declared.link.Link.TheVariants.{StrongOnly}
use Rattle.ownership_model.specs.Reach.{has, root_names, field_names, holding_names, cell_names, handle_names, all_cell_names}
use Rattle.ownership_model.specs.Falling.{FallsWith, IsClosed}
use Rattle.ownership_model.proofs.CountLemmas.{held_within, cell_within, fields_within, slots_weight-get, self_strong}
use Rattle.ownership_model.proofs.NameLemmas.{HasAll, all_left, all_right, at_each_key, all_but, but_all}
use Rattle.retention_model.specs.declared.place.Place.{Place}
use Rattle.retention_model.specs.declared.place.Place.TheVariants.{Handle, Cell, Field}
use Rattle.retention_model.specs.Places.{at, held_at, field_at, IsRoot, IsFieldOf}
use Rattle.retention_model.specs.Cycles.{count_of}
use Rattle.retention_model.specs.Retained.{IsRetained}
use Rattle.retention_model.proofs.WayLemmas.{by_roots, named_entry, entry_named, held_named, cell_named}
use Rattle.retention_model.proofs.StayLemmas.{named_somewhere, names_alive}
use Rattle.retention.specs.declared.graph.Graph.{Graph}
use Rattle.retention.specs.Graph.{size, places, object_at, holds, IsFieldAt, IsGraphOf}
use Rattle.retention.specs.Retaining.{is_target, count_below, arcs, IsHeldBy, AreRetained}
use Rattle.retention.proofs.RetainingLemmas.{arcs_some}
use Rattle.retention.proofs.AccountLemmas.{has_map, map_has, objects_count, rising_distinct}
use Rattle.retention.proofs.GraphPaths.{field_object}
use Rattle.retention.proofs.GraphLaws.{place_at, strong_at, place_index, object_index}
use Rattle.retention.proofs.SinceTold.{alive_key}

-- ---- what a place holds is alive

alive_by : (s w e : ℕ) (g : Option Entry) → IsSoundAt s w e g → 0 < s → is_alive g ≡ true
alive_by s w e None sound more = absurd (omega (arith, sound.0, more))
alive_by s w e (Some (Alive fields)) sound more = refl
alive_by s w e (Some Husk) sound more = absurd (omega (arith, sound.0, more))

held_weight : (m : State) (h : ℕ) (x : Option Holding) (i : Option ℕ) (o : ℕ) → get m.handles h ≡ x → held_at x i ≡ Some (Strong o) → 0 < strong m [] o
held_weight m h None i o is e = absurd cc
held_weight m h (Some (holding.Slot s)) None o is e =
    let same : s ≡ Strong o = cc in
    omega (arith, held_within (names_alike (Strong o)) m h (holding.Slot s) is, ap (names_alike (Strong o)) same, self_strong o)
held_weight m h (Some (holding.Slot s)) (Some i) o is e = absurd cc
held_weight m h (Some (holding.Bare fields)) None o is e = absurd cc
held_weight m h (Some (holding.Bare fields)) (Some i) o is e =
    omega (arith, held_within (names_alike (Strong o)) m h (holding.Bare fields) is, slots_weight-get (names_alike (Strong o)) fields i (Strong o) e, self_strong o)

cell_weight : (m : State) (c o : ℕ) → get m.cells c ≡ Some (Strong o) → 0 < strong m [] o
cell_weight m c o e = omega (arith, cell_within (names_alike (Strong o)) m c (Strong o) e, self_strong o)

field_weight : (m : State) (p : ℕ) (x : Option Entry) (i o : ℕ) → get m.objects p ≡ x → field_at x i ≡ Some (Strong o) → 0 < strong m [] o
field_weight m p None i o is e = absurd cc
field_weight m p (Some (Alive fields)) i o is e =
    omega (arith, fields_within (names_alike (Strong o)) m p fields is, slots_weight-get (names_alike (Strong o)) fields i (Strong o) e, self_strong o)
field_weight m p (Some Husk) i o is e = absurd cc

place_weight : (m : State) (q : Place) (o : ℕ) → at m q ≡ Some (Strong o) → 0 < strong m [] o
place_weight m (Handle h i) o e = held_weight m h (get m.handles h) i o refl e
place_weight m (Cell c) o e = cell_weight m c o e
place_weight m (Field p i) o e = field_weight m p (get m.objects p) i o refl e

pub held_alive : (m : State) → IsSound m [] → (q : Place) (o : ℕ) → at m q ≡ Some (Strong o) → is_alive (get m.objects o) ≡ true
held_alive m sound q o e = alive_by (strong m [] o) (weak m [] o) (ends o []) (get m.objects o) (sound.counts o) (place_weight m q o e)

-- ---- searching among places

pub found : (f : ℕ → Bool) (n : ℕ) → 0 < count_below f n → (p : ℕ) × (p < n) × (f p ≡ true)
found f zero more = absurd (omega (arith, more))
found f (suc n) more = by_test (f n) refl more (found f n)
  where
    by_test : (b : Bool) → f n ≡ b → 0 < (if b then 1 else 0) + count_below f n → (0 < count_below f n → (p : ℕ) × (p < n) × (f p ≡ true)) → (p : ℕ) × (p < suc n) × (f p ≡ true)
    by_test true e more rest = (n, omega arith, e)
    by_test false e more rest = let it = rest (omega (arith, more)) in (it.0, omega (arith, it.1), it.2)

pub target_is : (x : Option ℕ) (t : ℕ) → is_target x t ≡ true → x ≡ Some t
target_is None t h = absurd cc
target_is (Some k) t h = ap Some (grind (arith, nat_tests, h))

zero_or_more : (n : ℕ) → (n ≡ 0) ⊎ (0 < n)
zero_or_more zero = inl refl
zero_or_more (suc n) = inr (omega arith)

both_ways : (b : Bool) → b ≡ true → b ≡ false → ⊥
both_ways b p q = cc

no_root_field : (o : ℕ) (q : Place) → IsRoot q → IsFieldOf o q → ⊥
no_root_field o (Handle h i) root field = field
no_root_field o (Cell c) root field = field
no_root_field o (Field p i) root field = root

-- what a root place holds is named by a root
root_named : (m : State) (q : Place) (o : ℕ) → IsRoot q → at m q ≡ Some (Strong o) → has o (root_names StrongOnly m) ≡ false → ⊥
root_named m (Handle h i) o root here none =
    let all : HasAll (λ x. not (x == o)) (root_names StrongOnly m) = all_but o (root_names StrongOnly m) none in
    let own : HasAll (λ x. not (x == o)) (holding_names StrongOnly (get m.handles h)) =
    at_each_key (λ x. not (x == o)) m.handles (holding_names StrongOnly) refl (all_left (λ x. not (x == o)) (handle_names StrongOnly m (keys m.handles)) (all_cell_names StrongOnly m (keys m.cells)) all) h in
    both_ways (has o (holding_names StrongOnly (get m.handles h))) (held_named (get m.handles h) i o here) (but_all o (holding_names StrongOnly (get m.handles h)) own)
root_named m (Cell c) o root here none =
    let all : HasAll (λ x. not (x == o)) (root_names StrongOnly m) = all_but o (root_names StrongOnly m) none in
    let own : HasAll (λ x. not (x == o)) (cell_names StrongOnly (get m.cells c)) =
    at_each_key (λ x. not (x == o)) m.cells (cell_names StrongOnly) refl (all_right (λ x. not (x == o)) (handle_names StrongOnly m (keys m.handles)) (all_cell_names StrongOnly m (keys m.cells)) all) c in
    both_ways (has o (cell_names StrongOnly (get m.cells c))) (cell_named (get m.cells c) o here) (but_all o (cell_names StrongOnly (get m.cells c)) own)
root_named m (Field p i) o root here none = root

module _ (m : State) (sound : IsSound m []) (since : Place → ℕ) (g : Graph) (is : IsGraphOf m since g) where
  -- a place of the graph for each that holds an object
  arcs_of : (q : Place) (t : ℕ) → t < size g → at m q ≡ Some (Strong (object_at g t)) → 0 < arcs g t
  arcs_of q t within here = let p = place_index m since g is q t within here in arcs_some g p.0 t p.1 p.3

  -- each object that is alive is held
  pub alive_arcs : (t : ℕ) → t < size g → is_alive (get m.objects (object_at g t)) ≡ true → 0 < arcs g t
  alive_arcs t within alive = by_count (zero_or_more (arcs g t))
    where
      none_held : arcs g t ≡ 0 → (q : Place) → at m q ≡ Some (Strong (object_at g t)) → ⊥
      none_held none q here = omega (arith, none, arcs_of q t within here)

      unrooted : arcs g t ≡ 0 → (b : Bool) → has (object_at g t) (root_names StrongOnly m) ≡ b → b ≡ false
      unrooted none true e = let it = by_roots m (object_at g t) e in absurd (none_held none it.0 it.2)
      unrooted none false e = refl

      unheld : arcs g t ≡ 0 → (q : ℕ) (b : Bool) → has (object_at g t) (field_names StrongOnly m q) ≡ b → b ≡ false
      unheld none q true e = let it = named_entry (get m.objects q) (object_at g t) e in absurd (none_held none (Field q it.0) it.1)
      unheld none q false e = refl

      by_count : (arcs g t ≡ 0) ⊎ (0 < arcs g t) → 0 < arcs g t
      by_count (inr more) = more
      by_count (inl none) =
          absurd (named_somewhere m sound (object_at g t) alive (unrooted none (has (object_at g t) (root_names StrongOnly m)) refl)
          (λ q. unheld none q (has (object_at g t) (field_names StrongOnly m q)) refl))

  module _ (first : ℕ) (xs : List ℕ) (are : AreRetained g first xs) where
    abbrev kept : ℕ → Bool
    kept o = has o (map (object_at g) xs)

    kept_at : (j : ℕ) → j < size g → kept (object_at g j) ≡ true → has j xs ≡ true
    kept_at j within h =
        let it = map_has (object_at g) (object_at g j) xs h in
        subst (λ k. has k xs ≡ true) (rising_distinct g it.0 j (are.within it.0 it.1) within it.2) it.1

    -- an object that falls with these is one
    closed_at : (o : ℕ) → FallsWith m kept o → kept o ≡ true
    closed_at o falls =
        let t = object_index m since g is o (alive_key m o falls.alive) in
        let alive : is_alive (get m.objects (object_at g t.0)) ≡ true = ap (λ k. is_alive (get m.objects k)) t.2 ∙ falls.alive in
        subst (λ k. kept k ≡ true) t.2 (has_map (object_at g) t.0 xs (are.closed t.0 t.1 (alive_arcs t.0 t.1 alive, λ p within held. by_place p (place_at g p) refl within (strong_at m since g is p t.0 held ∙ ap (λ k. Some (Strong k)) t.2))))
      where
        by_place : (p : ℕ) (q : Place) → place_at g p ≡ q → p < places g → at m (place_at g p) ≡ Some (Strong o) → (j : ℕ) × (has j xs ≡ true) × IsFieldAt g j p
        by_place p (Handle h i) e within here = absurd (root_named m (Handle h i) o tt (subst (λ x. at m x ≡ Some (Strong o)) e here) falls.unrooted)
        by_place p (Cell c) e within here = absurd (root_named m (Cell c) o tt (subst (λ x. at m x ≡ Some (Strong o)) e here) falls.unrooted)
        by_place p (Field a i) e within here =
            let there : at m (Field a i) ≡ Some (Strong o) = subst (λ x. at m x ≡ Some (Strong o)) e here in
            let named : has o (field_names StrongOnly m a) ≡ true = entry_named (get m.objects a) i o there in
            let j = object_index m since g is a (alive_key m a (names_alive o (get m.objects a) named)) in
            let inside : kept (object_at g j.0) ≡ true = subst (λ k. kept k ≡ true) (sym j.2) (falls.held a named) in
            (j.0, kept_at j.0 j.1 inside, (is.fields j.0 p j.1 within).1 (subst (λ x. IsFieldOf (object_at g j.0) x) (sym e) (sym j.2)))

    -- and each closed set with the first has them
    least_at : (k : ℕ → Bool) → k (object_at g first) ≡ true → IsClosed m k → (o : ℕ) → kept o ≡ true → k o ≡ true
    least_at k itself closed o h =
        let it = map_has (object_at g) o xs h in
        subst (λ x. k x ≡ true) it.2 (are.least (λ j. k (object_at g j)) itself (λ t within held. closed (object_at g t) (falls t within held)) it.0 it.1)
      where
        falls : (t : ℕ) → t < size g → IsHeldBy g (λ j. k (object_at g j) ≡ true) t → FallsWith m k (object_at g t)
        falls t within held = record {
          alive = let p = found (λ q. is_target (holds g q) t) (places g) held.0 in held_alive m sound (place_at g p.0) (object_at g t) (strong_at m since g is p.0 t (target_is (holds g p.0) t p.2));
          unrooted = not_named (has (object_at g t) (root_names StrongOnly m)) refl;
          held = λ q named. let it = named_entry (get m.objects q) (object_at g t) named in by_field q it.0 it.1;
        }
          where
            holder : (q : Place) → at m q ≡ Some (Strong (object_at g t)) → (j : ℕ) × (k (object_at g j) ≡ true) × IsFieldOf (object_at g j) q
            holder q here =
                let p = place_index m since g is q t within here in
                let j = held.1 p.0 p.1 p.3 in
                (j.0, j.1, subst (λ x. IsFieldOf (object_at g j.0) x) p.2 ((is.fields j.0 p.0 (field_object g j.0 p.0 j.2) p.1).0 j.2))

            not_named : (b : Bool) → has (object_at g t) (root_names StrongOnly m) ≡ b → b ≡ false
            not_named true e = let it = by_roots m (object_at g t) e in let j = holder it.0 it.2 in absurd (no_root_field (object_at g j.0) it.0 it.1 j.2)
            not_named false e = refl

            by_field : (q i : ℕ) → at m (Field q i) ≡ Some (Strong (object_at g t)) → k q ≡ true
            by_field q i here = let j = holder (Field q i) here in subst (λ x. k x ≡ true) (sym j.2) j.1

    pub retained_told : (x : ℕ → Bool) × IsRetained m (object_at g first) x × (length xs ≡ count_of m x)
    retained_told = (
      kept,
      record {
        itself = has_map (object_at g) first xs are.itself;
        closed = closed_at;
        least = least_at;
      },
      sym (objects_count g xs are.within are.distinct) ∙ ap (λ ks. length (filter kept ks)) is.objects,
    )
