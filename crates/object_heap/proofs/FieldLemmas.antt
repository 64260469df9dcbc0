-- A field that is set where it stands.
use Rattle.std.proofs.Common.{◌≡◌, ◌≤◌, ◌<◌, ◌∙◌, ℕ, zero, suc, List, [], ◌∷◌, refl, ap, sym, subst, arith, Bool, true, false}
use Rattle.std.specs.Prelude.{Option, Some, None, IfSome, ◌==◌, ◌||◌, if◌then◌else◌, slice_set}
use Rattle.std.specs.Option.{option_map}
use Rattle.std.specs.Ordering.{nat_cmp}
use Rattle.std.specs.FinMap.{FinMap, get, insert}
use Rattle.share_tree.specs.Updates.{set_at}
use Rattle.trace_types.specs.declared.slots.Slot.{Slot}
use Rattle.trace_types.specs.declared.slots.Entry.{Entry}
use Rattle.trace_types.specs.declared.slots.Entry.TheVariants.{Alive, Husk}
use Rattle.ownership_model.specs.declared.link.Link.TheVariants.{StrongOrWeak}
use Rattle.ownership_model.specs.Changes.{HasField, with_field}
use Rattle.ownership_model.specs.Reach.{has, named, slots_names, entry_names}
use Rattle.ownership_model.proofs.Counting.{get_inserted}
use Rattle.ownership_model.proofs.Searching.{has-append}
use Rattle.object_heap.specs.TableView.{TableView, Kept, table_of, IsLean}
use Rattle.object_heap.specs.Descent.{rank_in, NameLower, AreRanked}
use Rattle.object_heap.proofs.TableLemmas.{entry_found, counters_found, entry_replaced, lean_put}
use Rattle.object_heap.proofs.DescentLemmas.{descend_insert, one_of}

or_left : (a b : Bool) → a ≡ true → (a || b) ≡ true
or_left true b t = refl
or_left false b t = absurd cc

or_right : (a b : Bool) → b ≡ true → (a || b) ≡ true
or_right true b t = refl
or_right false b t = t

-- what the fields name then is named by the slot that is set, or by a field before
has_set : (o : ℕ) (xs : List Slot) (i : ℕ) (s : Slot) → has o (slots_names StrongOrWeak (slice_set xs i s)) ≡ true → (has o (named StrongOrWeak s) || has o (slots_names StrongOrWeak xs)) ≡ true
has_set o [] i s h = absurd cc
has_set o (x ∷ xs) zero s h =
    one_of _ (has o (named StrongOrWeak s)) (has o (slots_names StrongOrWeak xs)) (sym (has-append o (named StrongOrWeak s) (slots_names StrongOrWeak xs)) ∙ h)
    (λ t. or_left _ _ t) (λ t. or_right _ _ (has-append o (named StrongOrWeak x) (slots_names StrongOrWeak xs) ∙ or_right _ _ t))
has_set o (x ∷ xs) (suc i) s h =
    one_of _ (has o (named StrongOrWeak x)) (has o (slots_names StrongOrWeak (slice_set xs i s))) (sym (has-append o (named StrongOrWeak x) (slots_names StrongOrWeak (slice_set xs i s))) ∙ h)
    (λ t. or_right _ _ (has-append o (named StrongOrWeak x) (slots_names StrongOrWeak xs) ∙ or_left _ _ t))
    (λ t. one_of _ (has o (named StrongOrWeak s)) (has o (slots_names StrongOrWeak xs)) (has_set o xs i s t)
    (λ u. or_left _ _ u) (λ u. or_right _ _ (has-append o (named StrongOrWeak x) (slots_names StrongOrWeak xs) ∙ or_right _ _ u)))

names_set : (o : ℕ) (x : Option Entry) (i : ℕ) (s : Slot) → has o (entry_names StrongOrWeak (Some (with_field x i s))) ≡ true → (has o (named StrongOrWeak s) || has o (entry_names StrongOrWeak x)) ≡ true
names_set o None i s h = absurd cc
names_set o (Some Husk) i s h = absurd cc
names_set o (Some (Alive fields)) i s h = has_set o fields i s h

pub descend_field : (ranks : FinMap nat_cmp ℕ) (from next object rank i : ℕ) (s : Slot) (objects : FinMap nat_cmp Entry) → from ≤ next → rank ≡ rank_in ranks object → NameLower ranks next rank (named StrongOrWeak s)
    → AreRanked ranks from objects → AreRanked ranks next (insert objects object (with_field (get objects object) i s))
descend_field ranks from next object rank i s objects more is here d =
    descend_insert ranks from next object rank (with_field (get objects object) i s) objects more is
    (λ o h above. one_of (rank_in ranks o < rank) (has o (named StrongOrWeak s)) (has o (entry_names StrongOrWeak (get objects object))) (names_set o (get objects object) i s h)
    (λ t. here o t above) (λ t. subst (λ r. rank_in ranks o < r) (sym is) (d.descend object o t (omega (arith, more, above))))) d

module _ (old : FinMap nat_cmp Kept) (t : TableView) (view : table_of old ≡ t) (o i : ℕ) (s : Slot) (has_field : HasField (get t.entries o) i) where
  pub field_kept : IfSome (get old o) (λ (k : Kept). HasField k.0 i)
  field_kept = elim (get old o) as (λ z. get old o ≡ z → IfSome z (λ (k : Kept). HasField k.0 i)) [
    | None ↦ λ e. tt
    | Some x ↦ λ e. subst (λ (y : Option Entry). HasField y i) (sym (entry_found old t view o (Some x) e)) has_field
  ] refl

  module _ (new : FinMap nat_cmp Kept) (is : new ≡ set_at old o (option_map {U = Kept} (λ (k : Kept). (Some (with_field k.0 i s), k.1)) (get old o))) where
    set_in : (x : Kept) → get old o ≡ Some x → (q : ℕ) → get new q ≡ (if o == q then Some (Some (with_field x.0 i s), x.1) else get old q)
    set_in x e q =
        ap (λ m. get m q) is
        ∙ ap (λ z. get (set_at old o (option_map {U = Kept} (λ (k : Kept). (Some (with_field k.0 i s), k.1)) z)) q) e
        ∙ get_inserted old o (Some (with_field x.0 i s), x.1) q

    pub field_set : IsLean old → IsLean new × (table_of new ≡ record { entries = insert t.entries o (with_field (get t.entries o) i s); counts = t.counts })
    field_set lean = elim (get old o) as (λ z. get old o ≡ z → IsLean new × (table_of new ≡ record { entries = insert t.entries o (with_field (get t.entries o) i s); counts = t.counts })) [
      | None ↦ λ e. absurd (subst (λ (y : Option Entry). HasField y i) (sym (entry_found old t view o None e)) has_field)
      | Some x ↦ λ e. (
        lean_put old new o (Some (with_field x.0 i s), x.1) refl (set_in x e) lean,
        entry_replaced old new t view o (Some (with_field x.0 i s), x.1) (set_in x e) (Some (with_field x.0 i s)) x.1 refl (counters_found old t view o (Some x) e)
            ∙ ap (λ (y : Option Entry). record { entries = insert t.entries o (with_field y i s); counts = t.counts }) (entry_found old t view o (Some x) e),
      )
    ] refl
