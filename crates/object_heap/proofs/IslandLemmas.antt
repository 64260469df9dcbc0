-- Objects that count nothing where they are taken out are named by nothing outside of them.
use Rattle.std.proofs.Common.{◌≡◌, ℕ, List, [], ◌∷◌, refl, ap, ◌∙◌, sym, subst, arith, Bool, true, false}
use Rattle.std.specs.Prelude.{not, ◌==◌, ◌&&◌, ◌||◌, flat_map, Option, Some, None, if◌then◌else◌}
use Rattle.std.specs.List.{list_all}
use Rattle.std.proofs.lemmas.Bool.Decides.{nat_tests}
use Rattle.std.specs.Ordering.{nat_cmp}
use Rattle.std.specs.FinMap.{FinMap, get, keys}
use Rattle.trace_types.specs.declared.slots.Slot.{Slot}
use Rattle.trace_types.specs.declared.slots.Slot.TheVariants.{Strong, Weak}
use Rattle.trace_types.specs.declared.slots.Holding.{Holding}
use Rattle.trace_types.specs.declared.slots.Holding.TheVariants as holding
use Rattle.ownership_model.specs.declared.link.Link.TheVariants.{StrongOrWeak}
use Rattle.ownership_model.specs.Totals.{total}
use Rattle.ownership_model.specs.State.{State, strong, weak, names_alike, holding_weight, entry_weight}
use Rattle.ownership_model.specs.Reach.{has, holding_names, cell_names, handle_names, all_cell_names, root_names, field_names, entry_names, IsClosed}
use Rattle.ownership_model.proofs.Counting.{weight_at}
use Rattle.ownership_model.proofs.NamedLemmas.{each_zero}
use Rattle.ownership_model.proofs.Searching.{has-append}
use Rattle.object_heap.specs.declared.counters.Counters.{Counters}
use Rattle.object_heap.specs.TableView.{are_zero, counters_at}
use Rattle.object_heap.specs.Counted.{IsCounted}
use Rattle.object_heap.specs.Exchange.{without_keys}
use Rattle.object_heap.proofs.DescentLemmas.{both_false, counted_slot, counted_slots, counted_entry}
use Rattle.object_heap.proofs.ExchangeLemmas.{HasRootsOf, get-without_keys, roots-without_keys}

-- the counters of each that is listed are zero
each_is : (f : ℕ → Bool) (os : List ℕ) (o : ℕ) → list_all f os ≡ true → has o os ≡ true → f o ≡ true
each_is f [] o all h = absurd cc
each_is f (x ∷ xs) o all h = first (f x) (x == o) refl refl all h (λ rest there. each_is f xs o rest there)
  where
    first : (a b : Bool) → f x ≡ a → (x == o) ≡ b → (a && list_all f xs) ≡ true → (b || has o xs) ≡ true → (list_all f xs ≡ true → has o xs ≡ true → f o ≡ true) → f o ≡ true
    first false b is same a h later = absurd cc
    first true true is same a h later = let e : x ≡ o = grind (arith, nat_tests, same) in subst (λ n. f n ≡ true) e is
    first true false is same a h later = later a h

zeros : (c : Counters) → are_zero c ≡ true → (c.strong ≡ 0) × (c.weak ≡ 0)
zeros c h = (grind (arith, nat_tests, h), grind (arith, nat_tests, h))

-- what counts nothing is named by no root
counted_holding : (o : ℕ) (x : Option Holding) → weight_at (holding_weight (names_alike (Strong o))) x ≡ 0 → weight_at (holding_weight (names_alike (Weak o))) x ≡ 0 → has o (holding_names StrongOrWeak x) ≡ false
counted_holding o None z y = refl
counted_holding o (Some (holding.Slot s)) z y = counted_slot o s z y
counted_holding o (Some (holding.Bare fields)) z y = counted_slots o fields z y

counted_cell : (o : ℕ) (x : Option Slot) → weight_at (names_alike (Strong o)) x ≡ 0 → weight_at (names_alike (Weak o)) x ≡ 0 → has o (cell_names StrongOrWeak x) ≡ false
counted_cell o None z y = refl
counted_cell o (Some s) z y = counted_slot o s z y

none_of_all : (o : ℕ) (f : ℕ → List ℕ) (xs : List ℕ) → ((x : ℕ) → has o (f x) ≡ false) → has o (flat_map f xs) ≡ false
none_of_all o f [] none = refl
none_of_all o f (x ∷ xs) none = has-append o (f x) (flat_map f xs) ∙ both_false _ _ (none x) (none_of_all o f xs none)

-- m is a state, and rest has its handles and cells; nothing in rest names o
module _ (m rest : State) (o : ℕ) (roots : HasRootsOf m rest) (strongs : strong rest [] o ≡ 0) (weaks : weak rest [] o ≡ 0) where
  no_handle : (h : ℕ) → has o (holding_names StrongOrWeak (get m.handles h)) ≡ false
  no_handle h =
      let a : total (holding_weight (names_alike (Strong o))) rest.handles ≡ 0 = omega (arith, strongs) in
      let b : total (holding_weight (names_alike (Weak o))) rest.handles ≡ 0 = omega (arith, weaks) in
      subst (λ hs. has o (holding_names StrongOrWeak (get hs h)) ≡ false) roots.0
      (counted_holding o (get rest.handles h) (each_zero (holding_weight (names_alike (Strong o))) rest.handles a h) (each_zero (holding_weight (names_alike (Weak o))) rest.handles b h))

  no_cell : (c : ℕ) → has o (cell_names StrongOrWeak (get m.cells c)) ≡ false
  no_cell c =
      let a : total (names_alike (Strong o)) rest.cells ≡ 0 = omega (arith, strongs) in
      let b : total (names_alike (Weak o)) rest.cells ≡ 0 = omega (arith, weaks) in
      subst (λ cs. has o (cell_names StrongOrWeak (get cs c)) ≡ false) roots.1.0
      (counted_cell o (get rest.cells c) (each_zero (names_alike (Strong o)) rest.cells a c) (each_zero (names_alike (Weak o)) rest.cells b c))

  no_root : has o (root_names StrongOrWeak m) ≡ false
  no_root =
      has-append o (handle_names StrongOrWeak m (keys m.handles)) (all_cell_names StrongOrWeak m (keys m.cells))
      ∙ both_false _ _
      (none_of_all o (λ h. holding_names StrongOrWeak (get m.handles h)) (keys m.handles) no_handle)
      (none_of_all o (λ c. cell_names StrongOrWeak (get m.cells c)) (keys m.cells) no_cell)

  no_field : (p : ℕ) → has o (field_names StrongOrWeak rest p) ≡ false
  no_field p =
      let a : total (entry_weight (names_alike (Strong o))) rest.objects ≡ 0 = omega (arith, strongs) in
      let b : total (entry_weight (names_alike (Weak o))) rest.objects ≡ 0 = omega (arith, weaks) in
      counted_entry o (get rest.objects p) (each_zero (entry_weight (names_alike (Strong o))) rest.objects a p) (each_zero (entry_weight (names_alike (Weak o))) rest.objects b p)

not_listed : (b : Bool) → (b ≡ true → ⊥) → not b ≡ true
not_listed true f = absurd (f refl)
not_listed false f = refl

listed_not : (b : Bool) → not b ≡ true → b ≡ false
listed_not true h = absurd cc
listed_not false h = refl

never : (b : Bool) → b ≡ false → b ≡ true → ⊥
never b none is = cc

pub island : (objects : List ℕ) (m : State) (counts : FinMap nat_cmp Counters) → IsCounted counts (without_keys objects m) [] → list_all (λ o. are_zero (counters_at (get counts o))) objects ≡ true
    → IsClosed StrongOrWeak m (λ o. not (has o objects))
island objects m counts counted zero =
    let rest : State = without_keys objects m in
    let none : (o : ℕ) → has o objects ≡ true → (strong (without_keys objects m) [] o ≡ 0) × (weak (without_keys objects m) [] o ≡ 0) = λ o h.
    let z = zeros (counters_at (get counts o)) (each_is (λ q. are_zero (counters_at (get counts q))) objects o zero h) in
    (sym (counted.strong_is o) ∙ z.0, sym (counted.weak_is o) ∙ z.1) in
    record {
      roots = λ o h. not_listed (has o objects) (λ listed.
          never _ (no_root m rest o (roots-without_keys objects m) (none o listed).0 (none o listed).1) h);
      fields = λ p o outside h. not_listed (has o objects) (λ listed.
          let stays : get (without_keys objects m).objects p ≡ get m.objects p =
          get-without_keys objects m p ∙ ap (λ b. if b then None else get m.objects p) (listed_not (has p objects) outside) in
          never _ (ap (λ x. has o (entry_names StrongOrWeak x)) (sym stays) ∙ no_field m rest o (roots-without_keys objects m) (none o listed).0 (none o listed).1 p) h);
    }
