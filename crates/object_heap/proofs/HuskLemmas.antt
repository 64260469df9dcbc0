-- A husk in the place of what stands.
use Rattle.std.proofs.Common.{◌≡◌, ◌∙◌, ℕ, ◌+◌, ◌∷◌, List, refl, ap, sym, subst, arith, true, false}
use Rattle.std.specs.Prelude.{Option, Some, None, is_some, ◌++◌, ◌==◌, if◌then◌else◌}
use Rattle.std.specs.Option.{option_map}
use Rattle.std.specs.Ordering.{nat_cmp}
use Rattle.std.specs.FinMap.{FinMap, get, insert}
use Rattle.share_tree.specs.Updates.{set_at}
use Rattle.trace_types.specs.declared.slots.Entry.{Entry}
use Rattle.trace_types.specs.declared.slots.Entry.TheVariants.{Alive, Husk}
use Rattle.trace_types.specs.declared.slots.Slot.{Slot}
use Rattle.trace_types.specs.declared.slots.Slot.TheVariants.{Strong, Weak}
use Rattle.trace_types.specs.declared.slots.Item.{Item}
use Rattle.trace_types.specs.declared.slots.Item.TheVariants as item
use Rattle.trace_types.specs.declared.outcomes.Event.{Event}
use Rattle.ownership_model.specs.State.{State, strong, weak, ends, names_alike, is_alive, IsSound, IsSoundAt}
use Rattle.ownership_model.specs.Release.{fall, left_by, Becomes}
use Rattle.ownership_model.proofs.Counting.{get_inserted, same_number}
use Rattle.object_heap.specs.declared.counters.Counters.{Counters}
use Rattle.object_heap.specs.declared.draft.Draft.{Draft}
use Rattle.object_heap.specs.Counted.{drafted}
use Rattle.object_heap.specs.TableView.{TableView, Kept, counters_at, table_of, IsLean}
use Rattle.object_heap.specs.Gains.{IsSetAt, CountsMore}
use Rattle.object_heap.proofs.DropLemmas.{first_strong}
use Rattle.object_heap.proofs.TableLemmas.{counters_set, entries_with, lean_put, standing_kept}

module _ (old : FinMap nat_cmp Kept) (t : TableView) (view : table_of old ≡ t) (o : ℕ) (c : Counters) (stands : is_some (get t.entries o) ≡ true)
    (new : FinMap nat_cmp Kept) (is : new ≡ set_at old o (option_map {U = Kept} (λ (k : Kept). (Some Husk, c)) (get old o))) where
  husk_in : (q : ℕ) → get new q ≡ (if o == q then Some (Some Husk, c) else get old q)
  husk_in q = ap (λ m. get m q) is
      ∙ elim (get old o) as (λ (z : Option Kept). is_some z ≡ true → get (set_at old o (option_map {U = Kept} (λ (k : Kept). (Some Husk, c)) z)) q ≡ (if o == q then Some (Some Husk, c) else get old q)) [
        | None ↦ λ none. absurd cc
        | Some x ↦ λ some. get_inserted old o (Some Husk, c) q
      ] (standing_kept old t view o stands)

  pub husk_lean : IsLean old → IsLean new
  husk_lean lean = lean_put old new o (Some Husk, c) refl husk_in lean

  pub husk_stands : (table_of new).entries ≡ insert t.entries o Husk
  husk_stands = entries_with old new t view o (Some Husk, c) husk_in (Some Husk) refl

  pub husk_counted : IsSetAt t.counts (table_of new).counts o c
  husk_counted = counters_set old new t view o (Some Husk, c) husk_in c refl

pub alive_stands : (e : Option Entry) → is_alive e ≡ true → is_some e ≡ true
alive_stands None alive = absurd cc
alive_stands (Some e) alive = refl

-- what a strong slot names that is to be dropped first is alive
pub first_alive : (m : State) (xs : List Item) (o : ℕ) → IsSound m (item.Slot (Strong o) ∷ xs) → is_alive (get m.objects o) ≡ true
first_alive m xs o sound = of (get m.objects o) (first_strong m xs o sound)
  where
    of : (e : Option Entry) → IsSoundAt (1 + strong m xs o) (weak m xs o) (ends o xs) e → is_alive e ≡ true
    of None h = absurd (omega (arith, h.0))
    of (Some Husk) h = absurd (omega (arith, h.0))
    of (Some (Alive fields)) h = refl

-- a husk in the place of a value: the value falls
module _ (d : Draft) (t : TableView) (o : ℕ) (xs left : List Item) (before told : List Event) where
  fallen : Option Entry → Type 0
  fallen e = Becomes (drafted (record { handles = d.handles; cells = d.cells; objects = t })) left before told (left_by (drafted d) xs (fall o e))

  falls_alive : (e : Option Entry) → is_alive e ≡ true → ((m : State) → left ≡ (left_by m xs (fall o e)).pending)
      → ((m : State) → told ≡ before ++ (left_by m xs (fall o e)).events) → t.entries ≡ insert d.objects.entries o Husk → fallen e
  unfolding fallen
  falls_alive None alive pending events put = absurd cc
  falls_alive (Some Husk) alive pending events put = absurd cc
  falls_alive (Some (Alive fields)) alive pending events put = record {
    state = λ i. record { handles = d.handles.holdings; cells = d.cells; objects = put i; scopes = d.handles.scopes };
    pending = pending (drafted d);
    events = events (drafted d);
  }

  pub value_falls : (e : Option Entry) → e ≡ get d.objects.entries o → is_alive e ≡ true → ((m : State) → left ≡ (left_by m xs (fall o e)).pending)
      → ((m : State) → told ≡ before ++ (left_by m xs (fall o e)).events) → t.entries ≡ insert d.objects.entries o Husk
      → Becomes (drafted (record { handles = d.handles; cells = d.cells; objects = t })) left before told (left_by (drafted d) xs (fall o (get d.objects.entries o)))
  unfolding fallen
  value_falls e is alive pending events put = subst fallen is (falls_alive e alive pending events put)

-- the counters that an object has are set: all are counted as before
pub still_counted : (mid new : TableView) (o : ℕ) (c : Counters) → c ≡ counters_at (get mid.counts o) → IsSetAt mid.counts new.counts o c
    → (more : FinMap nat_cmp Counters) (g : (Slot → ℕ) → ℕ) → CountsMore mid.counts more g → CountsMore new.counts more g
still_counted mid new o c is set more g it = record {
  strong_is = λ p. it.strong_is p ∙ ap (λ (v : Counters). g (names_alike (Strong p)) + v.strong) (sym (same p));
  weak_is = λ p. it.weak_is p ∙ ap (λ (v : Counters). g (names_alike (Weak p)) + v.weak) (sym (same p));
  ends_is = λ p. it.ends_is p ∙ ap (λ (v : Counters). v.ends) (sym (same p));
}
  where
    same : (p : ℕ) → counters_at (get new.counts p) ≡ counters_at (get mid.counts p)
    same p = set p ∙ elim (o == p) as (λ b. (o == p) ≡ b → (if b then c else counters_at (get mid.counts p)) ≡ counters_at (get mid.counts p)) [
      | true ↦ λ t. is ∙ ap (λ q. counters_at (get mid.counts q)) (same_number o p t)
      | false ↦ λ f. refl
    ] refl

-- a husk is put where the counters of other objects changed before
pub husk_put : (d : Draft) (mid new : TableView) (o : ℕ) → new.entries ≡ insert mid.entries o Husk → mid.entries ≡ d.objects.entries
    → drafted (record { handles = d.handles; cells = d.cells; objects = new }) ≡ record { handles = d.handles.holdings; cells = d.cells; objects = insert d.objects.entries o Husk; scopes = d.handles.scopes }
husk_put d mid new o put stay =
    let is = put ∙ ap (λ (es : FinMap nat_cmp Entry). insert es o Husk) stay in
    λ i. record { handles = d.handles.holdings; cells = d.cells; objects = is i; scopes = d.handles.scopes }
