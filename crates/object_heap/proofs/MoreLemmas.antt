-- Counters that are added where they stand.
use Rattle.std.proofs.Common.{◌≡◌, ◌∙◌, ℕ, ◌+◌, refl, ap, sym, subst, arith, true, false}
use Rattle.std.specs.Prelude.{Option, Some, None, is_some, IfSome}
use Rattle.std.specs.Option.{option_map}
use Rattle.std.specs.Ordering.{nat_cmp}
use Rattle.std.specs.FinMap.{FinMap, get}
use Rattle.std.proofs.lemmas.Bool.Decides.{nat_tests}
use Rattle.share_tree.specs.Updates.{set_at}
use Rattle.object_heap.specs.declared.counters.Counters.{Counters}
use Rattle.object_heap.specs.TableView.{TableView, Kept, counters_at, are_zero, plus, HasRoomFor, table_of, IsLean}
use Rattle.object_heap.specs.Gains.{IsSetAt}
use Rattle.object_heap.proofs.TableLemmas.{counters_found, kept_counted, recounted}

-- where anything is added, the counters are not all zero
some_more : (c more : Counters) → are_zero more ≡ false → are_zero (plus c more) ≡ false
some_more c more any = grind (arith, nat_tests, any)

nothing_more : (more : Counters) → more ≡ plus (counters_at None) more
nothing_more more =
    let s : more.strong ≡ 0 + more.strong = omega arith in
    let w : more.weak ≡ 0 + more.weak = omega arith in
    let e : more.ends ≡ 0 + more.ends = omega arith in
    λ i. record { strong = s i; weak = w i; ends = e i }

module _ (old : FinMap nat_cmp Kept) (t : TableView) (view : table_of old ≡ t) (o : ℕ) (more : Counters) where
  -- what has room by what is seen has it where it stands
  pub room_kept : HasRoomFor (counters_at (get t.counts o)) more → IfSome (get old o) (λ (k : Kept). HasRoomFor k.1 more)
  room_kept room = of (get old o) (counters_found old t view o (get old o) refl)
    where
      of : (z : Option Kept) → counters_at (option_map (λ (k : Kept). k.1) z) ≡ counters_at (get t.counts o) → IfSome z (λ (k : Kept). HasRoomFor k.1 more)
      of None e = tt
      of (Some x) e = subst (λ (c : Counters). HasRoomFor c more) (sym e) room

  -- where nothing is kept, those that are added are all
  pub counted_first : (mid : FinMap nat_cmp Kept) (new : FinMap nat_cmp Counters) → mid ≡ set_at old o (option_map {U = Kept} (λ (k : Kept). (k.0, plus k.1 more)) (get old o)) → is_some (get old o) ≡ false
      → IsSetAt (table_of mid).counts new o more → IsSetAt t.counts new o (plus (counters_at (get t.counts o)) more)
  counted_first mid new is none set =
      let same : (table_of mid).counts ≡ t.counts = ap (λ (m : FinMap nat_cmp Kept). (table_of m).counts) (is ∙ stays (get old o) none) ∙ ap (λ (s : TableView). s.counts) view in
      subst (λ (c : Counters). IsSetAt t.counts new o c) (all (get old o) none (counters_found old t view o (get old o) refl)) (subst (λ (cs : FinMap nat_cmp Counters). IsSetAt cs new o more) same set)
    where
      stays : (z : Option Kept) → is_some z ≡ false → set_at old o (option_map {U = Kept} (λ (k : Kept). (k.0, plus k.1 more)) z) ≡ old
      stays None none = refl
      stays (Some x) none = absurd cc

      all : (z : Option Kept) → is_some z ≡ false → counters_at (option_map (λ (k : Kept). k.1) z) ≡ counters_at (get t.counts o) → more ≡ plus (counters_at (get t.counts o)) more
      all None none e = nothing_more more ∙ ap (λ (c : Counters). plus c more) e
      all (Some x) none e = absurd cc

  pub counted_more : (new : FinMap nat_cmp Kept) → IsLean old → are_zero more ≡ false → new ≡ set_at old o (option_map {U = Kept} (λ (k : Kept). (k.0, plus k.1 more)) (get old o)) → is_some (get old o) ≡ true
      → IsLean new × (IsSetAt t.counts (table_of new).counts o (plus (counters_at (get t.counts o)) more) × ((table_of new).entries ≡ t.entries))
  counted_more new lean any is there =
      recounted old new t view lean o (plus (counters_at (get t.counts o)) more) (λ x _. kept_counted x.0 (plus (counters_at (get t.counts o)) more) (some_more (counters_at (get t.counts o)) more any))
      (is ∙ ap (set_at old o) (of (get old o) (counters_found old t view o (get old o) refl))) there
    where
      of : (z : Option Kept) → counters_at (option_map (λ (k : Kept). k.1) z) ≡ counters_at (get t.counts o)
          → option_map {U = Kept} (λ (k : Kept). (k.0, plus k.1 more)) z ≡ option_map {U = Kept} (λ (k : Kept). (k.0, plus (counters_at (get t.counts o)) more)) z
      of None e = refl
      of (Some x) e = ap (λ (c : Counters). Some (x.0, plus c more)) e
