-- Counters that are taken off where they stand, and what an update answers.
use Rattle.std.proofs.Common.{◌≡◌, ◌∙◌, ℕ, refl, ap, sym, subst, Bool, true, false}
use Rattle.std.specs.Prelude.{Option, Some, None, is_some, unwrap_or, IfSome, ◌==◌, if◌then◌else◌}
use Rattle.std.specs.Option.{option_map}
use Rattle.std.specs.Ordering.{nat_cmp}
use Rattle.std.specs.Cmp.{nat_cmp_total}
use Rattle.std.specs.FinMap.{FinMap, get, insert, same_map, nat_cmp-IsAntisymmetric}
use Rattle.share_tree.specs.Updates.{set_at}
use Rattle.trace_types.specs.declared.slots.Entry.{Entry}
use Rattle.ownership_model.proofs.Counting.{get_inserted, same_number}
use Rattle.object_heap.specs.declared.counters.Counters.{Counters}
use Rattle.object_heap.specs.TableView.{TableView, Kept, counters_at, kept_of, minus, AreAmong, table_of, IsLean}
use Rattle.object_heap.specs.Gains.{IsSetAt}
use Rattle.object_heap.proofs.TableLemmas.{by_zero, counters_found, recounted, same_some}

-- an update that always answers true tells whether there is a value
pub answered : {X : Type 0} (z : Option X) (answer b : Bool) → answer ≡ unwrap_or (option_map (λ (_ : X). true) z) false → answer ≡ b → is_some z ≡ b
answered None answer b tells is = sym tells ∙ is
answered (Some x) answer b tells is = sym tells ∙ is

kept_whole : (e : Option Entry) (c : Counters) → is_some (kept_of e c) ≡ true → kept_of e c ≡ Some (e, c)
kept_whole (Some e) c h = refl
kept_whole None c h = by_zero (λ z. is_some (option_map {U = Kept} (λ n. (None, n)) z) ≡ true → option_map {U = Kept} (λ n. (None, n)) z ≡ Some (None, c)) c (λ _ g. absurd cc) (λ _ g. refl) h

none_of : (z : Option Kept) → is_some z ≡ false → z ≡ None
none_of None e = refl
none_of (Some x) e = absurd cc

put_back : (m : FinMap nat_cmp Kept) (o : ℕ) (x : Kept) → get m o ≡ Some x → insert m o x ≡ m
put_back m o x is = same_map nat_cmp_total nat_cmp-IsAntisymmetric (insert m o x) m (λ q.
    get_inserted m o x q
    ∙ elim (o == q) as (λ b. (o == q) ≡ b → (if b then Some x else get m q) ≡ get m q) [
      | true ↦ λ t. sym is ∙ ap (get m) (same_number o q t)
      | false ↦ λ t. refl
    ] refl)

module _ (old : FinMap nat_cmp Kept) (t : TableView) (view : table_of old ≡ t) (o : ℕ) (less : Counters) where
  -- what is counted by what is seen is counted where it stands
  pub among_kept : AreAmong less (counters_at (get t.counts o)) → IfSome (get old o) (λ (k : Kept). AreAmong less k.1)
  among_kept among = of (get old o) (counters_found old t view o (get old o) refl)
    where
      of : (z : Option Kept) → counters_at (option_map (λ (k : Kept). k.1) z) ≡ counters_at (get t.counts o) → IfSome z (λ (k : Kept). AreAmong less k.1)
      of None e = tt
      of (Some x) e = subst (λ (c : Counters). AreAmong less c) (sym e) among

  module _ (new : FinMap nat_cmp Kept) (is : new ≡ set_at old o (option_map {U = Kept} (λ (k : Kept). unwrap_or (kept_of k.0 (minus k.1 less)) k) (get old o))) (answer : Bool) (tells : answer ≡ unwrap_or (option_map (λ (k : Kept). is_some (kept_of k.0 (minus k.1 less))) (get old o)) false) where
    pub counted_less : IsLean old → answer ≡ true
        → IsLean new × (IsSetAt t.counts (table_of new).counts o (minus (counters_at (get t.counts o)) less) × ((table_of new).entries ≡ t.entries))
    counted_less lean needed =
        elim (get old o) as (λ z. get old o ≡ z → unwrap_or (option_map (λ (k : Kept). is_some (kept_of k.0 (minus k.1 less))) z) false ≡ true
        → IsLean new × (IsSetAt t.counts (table_of new).counts o (minus (counters_at (get t.counts o)) less) × ((table_of new).entries ≡ t.entries))) [
          | None ↦ λ e h. absurd cc
          | Some x ↦ λ e h.
              let c : Counters = minus (counters_at (get t.counts o)) less in
              let same : minus x.1 less ≡ c = ap (λ (k : Counters). minus k less) (counters_found old t view o (Some x) e) in
              let whole : kept_of x.0 c ≡ Some (x.0, c) = subst (λ (k : Counters). kept_of x.0 k ≡ Some (x.0, k)) same (kept_whole x.0 (minus x.1 less) h) in
              let made : unwrap_or (kept_of x.0 (minus x.1 less)) x ≡ (x.0, c) = ap (λ (z : Option Kept). unwrap_or z x) (ap (kept_of x.0) same ∙ whole) in
              let put : new ≡ set_at old o (option_map {U = Kept} (λ (k : Kept). (k.0, c)) (get old o)) =
              is ∙ ap (λ z. set_at old o (option_map {U = Kept} (λ (k : Kept). unwrap_or (kept_of k.0 (minus k.1 less)) k) z)) e ∙ ap (λ (y : Kept). set_at old o (Some y)) made
              ∙ ap (λ z. set_at old o (option_map {U = Kept} (λ (k : Kept). (k.0, c)) z)) (sym e) in
              recounted old new t view lean o c (λ y there. subst (λ (k : Kept). kept_of k.0 c ≡ Some (k.0, c)) (same_some x y (sym e ∙ there)) whole) put (ap is_some e)
        ] refl (sym tells ∙ needed)

    -- where nothing is to be kept, all is as it was
    pub left_whole : answer ≡ false → new ≡ old
    left_whole needed =
        elim (get old o) as (λ z. get old o ≡ z → unwrap_or (option_map (λ (k : Kept). is_some (kept_of k.0 (minus k.1 less))) z) false ≡ false → new ≡ old) [
          | None ↦ λ e h. is ∙ ap (λ z. set_at old o (option_map {U = Kept} (λ (k : Kept). unwrap_or (kept_of k.0 (minus k.1 less)) k) z)) e
          | Some x ↦ λ e h.
              is ∙ ap (λ z. set_at old o (option_map {U = Kept} (λ (k : Kept). unwrap_or (kept_of k.0 (minus k.1 less)) k) z)) e
              ∙ ap (λ (z : Option Kept). set_at old o (Some (unwrap_or z x))) (none_of (kept_of x.0 (minus x.1 less)) h)
              ∙ put_back old o x e
        ] refl (sym tells ∙ needed)
