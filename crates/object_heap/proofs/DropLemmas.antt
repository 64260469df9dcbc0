-- The counters after one item is dropped.
use Rattle.std.proofs.Common.{◌≡◌, ℕ, ◌+◌, ◌-◌, ◌<◌, List, ◌∷◌, refl, ap, ◌∙◌, sym, subst, arith, Bool, true, false}
use Rattle.std.specs.Prelude.{Option, Some, None, ◌==◌, ◌&&◌, if◌then◌else◌}
use Rattle.std.proofs.lemmas.Bool.Decides.{nat_tests}
use Rattle.std.proofs.lemmas.List.{append-nil}
use Rattle.std.specs.Ordering.{nat_cmp}
use Rattle.std.specs.FinMap.{FinMap, get}
use Rattle.trace_types.specs.declared.slots.Slot.{Slot}
use Rattle.trace_types.specs.declared.slots.Slot.TheVariants.{Nothing, Strong, Weak, Dangling}
use Rattle.trace_types.specs.declared.slots.Entry.{Entry}
use Rattle.trace_types.specs.declared.slots.Entry.TheVariants.{Alive, Husk}
use Rattle.trace_types.specs.declared.slots.Item.{Item}
use Rattle.trace_types.specs.declared.slots.Item.TheVariants as item
use Rattle.trace_types.specs.declared.outcomes.Event.{Event}
use Rattle.ownership_model.proofs.Counting.{weight_at, total-set, total-cut, items_weight-drops, ends-drops, self_strong, self_weak, other_strong, other_weak, same_number}
use Rattle.ownership_model.specs.State.{State, strong, weak, ends, weight, names_alike, entry_weight, IsSound, IsSoundAt}
use Rattle.ownership_model.specs.Release.{Fate, Stays, Goes, fate, fall, is_husk, left_by, drop_first, Becomes}
use Rattle.object_heap.specs.declared.counters.Counters.{Counters}
use Rattle.object_heap.specs.declared.draft.Draft.{Draft}
use Rattle.object_heap.specs.Counted.{drafted, IsCounted}
use Rattle.object_heap.specs.TableView.{counters_at}
use Rattle.object_heap.specs.Gains.{IsSetAt, ended}
use Rattle.object_heap.specs.Drops.{DropsFirst}
use Rattle.object_heap.proofs.GainLemmas.{chosen}

-- whichever way a test goes
decide : (P : Fate → Type 0) (b : Bool) (f g : Fate) → (b ≡ true → P f) → (b ≡ false → P g) → P (if b then f else g)
decide P true f g p q = p refl
decide P false f g p q = q refl

either : (P : Fate → Type 0) (b : Bool) (f g : Fate) → P f → P g → P (if b then f else g)
either P b f g p q = decide P b f g (λ _. p) (λ _. q)

-- what all slots weigh is what those of the rest weigh
module _ (w : Slot → ℕ) (m : State) (xs : List Item) where
  Weighs : Fate → Type 0
  Weighs f = weight w (left_by m xs f).state (left_by m xs f).pending ≡ weight w m xs

  weighs_stays : Weighs Stays
  unfolding Weighs
  weighs_stays = refl

  weighs_fall : (o : ℕ) (e : Option Entry) → get m.objects o ≡ e → Weighs (fall o e)
  unfolding Weighs
  weighs_fall o None is = refl
  weighs_fall o (Some Husk) is = refl
  weighs_fall o (Some (Alive fields)) is = omega (arith, total-set (entry_weight w) m.objects o Husk (Some (Alive fields)) is, items_weight-drops w fields (item.End o ∷ xs))

  husk_weighs : (e : Option Entry) → is_husk e ≡ true → weight_at (entry_weight w) e ≡ 0
  husk_weighs None is = refl
  husk_weighs (Some (Alive fields)) is = absurd cc
  husk_weighs (Some Husk) is = refl

  weighs_goes : (o : ℕ) → is_husk (get m.objects o) ≡ true → Weighs (Goes o)
  unfolding Weighs
  weighs_goes o husk = omega (arith, total-cut (entry_weight w) m.objects o (get m.objects o) refl, husk_weighs (get m.objects o) husk)

middle : (a b c : Bool) → (a && (b && c)) ≡ true → b ≡ true
middle true true c h = refl
middle true false c h = h
middle false b c h = absurd cc

ended_husk : (s w e : ℕ) (entry : Option Entry) → IsSoundAt s w e entry → 0 < e → is_husk entry ≡ true
ended_husk s w e None h p = absurd (omega (arith, h.2))
ended_husk s w e (Some (Alive fields)) h p = absurd (omega (arith, h.1))
ended_husk s w e (Some Husk) h p = refl

first_end : (o : ℕ) (rest : List Item) → 0 < ends o (item.End o ∷ rest)
first_end o rest = grind (arith, nat_tests)

weight-drop_first : (w : Slot → ℕ) (m : State) (x : Item) (xs : List Item) → IsSound m (x ∷ xs) → weight w (drop_first m x xs).state (drop_first m x xs).pending ≡ weight w m xs
unfolding Weighs
weight-drop_first w m (item.Slot Nothing) xs sound = refl
weight-drop_first w m (item.Slot Dangling) xs sound = refl
weight-drop_first w m (item.Slot (Strong o)) xs sound = either (Weighs w m xs) (strong m xs o == 0) _ _ (weighs_fall w m xs o (get m.objects o) refl) (weighs_stays w m xs)
weight-drop_first w m (item.Slot (Weak o)) xs sound =
    decide (Weighs w m xs) (weak m xs o == 0 && (is_husk (get m.objects o) && (ends o xs == 0))) (Goes o) Stays
    (λ t. weighs_goes w m xs o (middle (weak m xs o == 0) (is_husk (get m.objects o)) (ends o xs == 0) t)) (λ f. weighs_stays w m xs)
weight-drop_first w m (item.End o) xs sound =
    decide (Weighs w m xs) (weak m xs o == 0) (Goes o) Stays
    (λ t. weighs_goes w m xs o (ended_husk _ _ _ (get m.objects o) (sound.counts o) (first_end o xs))) (λ f. weighs_stays w m xs)

-- what is counted is what the item leaves, but for the object that it names
record NamesOnly (counts : FinMap nat_cmp Counters) (m : State) (x : Item) (xs : List Item) (o : ℕ) : Type 0 where
  strong_stay : (p : ℕ) → (o == p) ≡ false → (counters_at (get counts p)).strong ≡ strong m xs p
  weak_stay : (p : ℕ) → (o == p) ≡ false → (counters_at (get counts p)).weak ≡ weak m xs p
  ends_stay : (p : ℕ) → (o == p) ≡ false → (counters_at (get counts p)).ends ≡ ends p (drop_first m x xs).pending

counted_next : (m : State) (x : Item) (xs : List Item) (counts less : FinMap nat_cmp Counters) (o : ℕ) (c : Counters) → IsSound m (x ∷ xs) → NamesOnly counts m x xs o → IsSetAt counts less o c
    → c.strong ≡ strong m xs o → c.weak ≡ weak m xs o → c.ends ≡ ends o (drop_first m x xs).pending → IsCounted less (drop_first m x xs).state (drop_first m x xs).pending
counted_next m x xs counts less o c sound only set s w e = record {
  strong_is = λ p. ap (λ (v : Counters). v.strong) (set p)
      ∙ chosen (λ v. v.strong) (o == p) c (counters_at (get counts p)) (strong m xs p) (λ t. s ∙ ap (λ q. strong m xs q) (same_number o p t)) (only.strong_stay p)
      ∙ sym (weight-drop_first (names_alike (Strong p)) m x xs sound);
  weak_is = λ p. ap (λ (v : Counters). v.weak) (set p)
      ∙ chosen (λ v. v.weak) (o == p) c (counters_at (get counts p)) (weak m xs p) (λ t. w ∙ ap (λ q. weak m xs q) (same_number o p t)) (only.weak_stay p)
      ∙ sym (weight-drop_first (names_alike (Weak p)) m x xs sound);
  ends_is = λ p. ap (λ (v : Counters). v.ends) (set p)
      ∙ chosen (λ v. v.ends) (o == p) c (counters_at (get counts p)) (ends p (drop_first m x xs).pending) (λ t. e ∙ ap (λ q. ends q (drop_first m x xs).pending) (same_number o p t)) (only.ends_stay p);
}

other_end : (o p n : ℕ) → (o == p) ≡ false → (if o == p then 1 else 0) + n ≡ n
other_end o p n f = grind (arith, f)

self_end : (o n : ℕ) → (if o == o then 1 else 0) + n ≡ 1 + n
self_end o n = grind (arith, nat_tests)

module _ (m : State) (xs : List Item) (o : ℕ) where
  EndsAt : ℕ → ℕ → Fate → Type 0
  EndsAt p n f = ends p (left_by m xs f).pending ≡ n

  fall_ends : (p : ℕ) (e : Option Entry) → (o == p) ≡ false → EndsAt p (ends p xs) (fall o e)
  unfolding EndsAt
  fall_ends p None f = refl
  fall_ends p (Some Husk) f = refl
  fall_ends p (Some (Alive fields)) f = ends-drops p fields (item.End o ∷ xs) ∙ other_end o p (ends p xs) f

  strong_ends : (p : ℕ) → (o == p) ≡ false → ends p xs ≡ ends p (drop_first m (item.Slot (Strong o)) xs).pending
  unfolding EndsAt
  strong_ends p f = sym (either (EndsAt p (ends p xs)) (strong m xs o == 0) _ _ (fall_ends p (get m.objects o) f) refl)

  strong_names_only : (counts : FinMap nat_cmp Counters) → IsCounted counts m (item.Slot (Strong o) ∷ xs) → NamesOnly counts m (item.Slot (Strong o)) xs o
  strong_names_only counts counted = record {
    strong_stay = λ p f. omega (arith, counted.strong_is p, other_strong p o f);
    weak_stay = λ p f. omega (arith, counted.weak_is p);
    ends_stay = λ p f. counted.ends_is p ∙ strong_ends p f;
  }

  uncounted_names_only : (counts : FinMap nat_cmp Counters) → IsCounted counts m xs → NamesOnly counts m (item.Slot (Strong o)) xs o
  uncounted_names_only counts counted = record {
    strong_stay = λ p f. counted.strong_is p;
    weak_stay = λ p f. counted.weak_is p;
    ends_stay = λ p f. counted.ends_is p ∙ strong_ends p f;
  }

  PendsRest : Fate → Type 0
  PendsRest f = (left_by m xs f).pending ≡ xs

  weak_pending : (drop_first m (item.Slot (Weak o)) xs).pending ≡ xs
  unfolding PendsRest
  weak_pending = either PendsRest (weak m xs o == 0 && (is_husk (get m.objects o) && (ends o xs == 0))) (Goes o) Stays refl refl

  end_pending : (drop_first m (item.End o) xs).pending ≡ xs
  unfolding PendsRest
  end_pending = either PendsRest (weak m xs o == 0) (Goes o) Stays refl refl

  weak_names_only : (counts : FinMap nat_cmp Counters) → IsCounted counts m (item.Slot (Weak o) ∷ xs) → NamesOnly counts m (item.Slot (Weak o)) xs o
  weak_names_only counts counted = record {
    strong_stay = λ p f. omega (arith, counted.strong_is p);
    weak_stay = λ p f. omega (arith, counted.weak_is p, other_weak p o f);
    ends_stay = λ p f. counted.ends_is p ∙ ap (ends p) (sym weak_pending);
  }

  end_names_only : (counts : FinMap nat_cmp Counters) → IsCounted counts m (item.End o ∷ xs) → NamesOnly counts m (item.End o) xs o
  end_names_only counts counted = record {
    strong_stay = λ p f. counted.strong_is p;
    weak_stay = λ p f. counted.weak_is p;
    ends_stay = λ p f. counted.ends_is p ∙ other_end o p (ends p xs) f ∙ ap (ends p) (sym end_pending);
  }

  -- a first strong slot names what is alive
  fall_ends_self : (s w : ℕ) (e : Option Entry) → IsSoundAt (1 + s) w (ends o xs) e → EndsAt o (1 + ends o xs) (fall o e)
  unfolding EndsAt
  fall_ends_self s w None h = absurd (omega (arith, h.0))
  fall_ends_self s w (Some Husk) h = absurd (omega (arith, h.0))
  fall_ends_self s w (Some (Alive fields)) h = ends-drops o fields (item.End o ∷ xs) ∙ self_end o (ends o xs)

  pub first_strong : IsSound m (item.Slot (Strong o) ∷ xs) → IsSoundAt (1 + strong m xs o) (weak m xs o) (ends o xs) (get m.objects o)
  first_strong sound =
      let same : strong m (item.Slot (Strong o) ∷ xs) o ≡ 1 + strong m xs o = omega (arith, self_strong o) in
      let too : weak m (item.Slot (Strong o) ∷ xs) o ≡ weak m xs o = omega arith in
      subst (λ n. IsSoundAt (1 + strong m xs o) n (ends o xs) (get m.objects o)) too (subst (λ n. IsSoundAt n (weak m (item.Slot (Strong o) ∷ xs) o) (ends o xs) (get m.objects o)) same (sound.counts o))

-- the fate of an item by a test that the code makes
fate_by : (a b : Bool) (f g : Fate) → a ≡ b → (if b then f else g) ≡ (if a then f else g)
fate_by a b f g same = ap (λ t. if t then f else g) (sym same)

pub is_none : (n : ℕ) → n ≡ 0 → (n == 0) ≡ true
is_none n h = grind (arith, nat_tests)

pub is_some : (n : ℕ) → (n ≡ 0 → ⊥) → (n == 0) ≡ false
is_some n h = grind (arith, nat_tests)

last_fate : (m : State) (xs : List Item) (o : ℕ) → strong m xs o ≡ 0 → fate m (item.Slot (Strong o)) xs ≡ fall o (get m.objects o)
last_fate m xs o none = fate_by true (strong m xs o == 0) (fall o (get m.objects o)) Stays (sym (is_none (strong m xs o) none))

other_fate : (m : State) (xs : List Item) (o : ℕ) → (strong m xs o ≡ 0 → ⊥) → fate m (item.Slot (Strong o)) xs ≡ Stays
other_fate m xs o some = fate_by false (strong m xs o == 0) (fall o (get m.objects o)) Stays (sym (is_some (strong m xs o) some))

-- an item of any kind: the counters of the object that it names, and the step
module _ (old new : Draft) (x : Item) (o : ℕ) (xs left : List Item) (before told : List Event) (c : Counters)
    (sound : IsSound (drafted old) (x ∷ xs)) (only : NamesOnly old.objects.counts (drafted old) x xs o) (set : IsSetAt old.objects.counts new.objects.counts o c) where
  drops_by : (f : Fate) → fate (drafted old) x xs ≡ f → c.strong ≡ strong (drafted old) xs o → c.weak ≡ weak (drafted old) xs o → c.ends ≡ ends o (left_by (drafted old) xs f).pending
      → Becomes (drafted new) left before told (left_by (drafted old) xs f) → DropsFirst old new x xs left before told
  drops_by f is s w e step =
      let next : IsCounted new.objects.counts (drop_first (drafted old) x xs).state (drop_first (drafted old) x xs).pending =
      counted_next (drafted old) x xs old.objects.counts new.objects.counts o c sound only set s w (e ∙ ap (λ (g : Fate). ends o (left_by (drafted old) xs g).pending) (sym is)) in
      let here : Becomes (drafted new) left before told (drop_first (drafted old) x xs) = subst (λ (g : Fate). Becomes (drafted new) left before told (left_by (drafted old) xs g)) (sym is) step in
      record {
        step = here;
        counted = subst (λ (p : List Item). IsCounted new.objects.counts (drafted new) p) (sym here.pending) (subst (λ (m : State). IsCounted new.objects.counts m (drop_first (drafted old) x xs).pending) (sym here.state) next);
      }

-- the last strong slot, whether it is still counted or not
module _ (old new : Draft) (o : ℕ) (xs left : List Item) (before told : List Event) (sound : IsSound (drafted old) (item.Slot (Strong o) ∷ xs))
    (step : Becomes (drafted new) left before told (left_by (drafted old) xs (fall o (get old.objects.entries o)))) (set : IsSetAt old.objects.counts new.objects.counts o (ended (counters_at (get old.objects.counts o)))) where
  falls : NamesOnly old.objects.counts (drafted old) (item.Slot (Strong o)) xs o → strong (drafted old) xs o ≡ 0 → (counters_at (get old.objects.counts o)).weak ≡ weak (drafted old) xs o → (counters_at (get old.objects.counts o)).ends ≡ ends o xs
      → DropsFirst old new (item.Slot (Strong o)) xs left before told
  unfolding EndsAt
  falls only none w e =
      let more : (counters_at (get old.objects.counts o)).ends + 1 ≡ 1 + ends o xs = omega (arith, e) in
      drops_by old new (item.Slot (Strong o)) o xs left before told (ended (counters_at (get old.objects.counts o))) sound only set (fall o (get old.objects.entries o)) (last_fate (drafted old) xs o none) (sym none) w
      (more ∙ sym (fall_ends_self (drafted old) xs o _ _ (get old.objects.entries o) (first_strong (drafted old) xs o sound))) step

  pub drops_last : IsCounted old.objects.counts (drafted old) (item.Slot (Strong o) ∷ xs) → (counters_at (get old.objects.counts o)).strong - 1 ≡ 0 → DropsFirst old new (item.Slot (Strong o)) xs left before told
  drops_last counted none = falls (strong_names_only (drafted old) xs o old.objects.counts counted) (omega (arith, none, counted.strong_is o, self_strong o)) (omega (arith, counted.weak_is o)) (counted.ends_is o)

  pub drops_uncounted : IsCounted old.objects.counts (drafted old) xs → (counters_at (get old.objects.counts o)).strong ≡ 0 → DropsFirst old new (item.Slot (Strong o)) xs left before told
  drops_uncounted counted none = falls (uncounted_names_only (drafted old) xs o old.objects.counts counted) (sym (counted.strong_is o) ∙ none) (counted.weak_is o) (counted.ends_is o)

-- nothing was told, and nothing else is pending
pub quiet : (m n : State) (xs : List Item) (before : List Event) → n ≡ m → Becomes n xs before before (left_by m xs Stays)
quiet m n xs before same = record { state = same; pending = refl; events = sym (append-nil before) }

-- one of several strong slots
pub drops_more : (old new : Draft) (o : ℕ) (xs : List Item) (before : List Event) (c : Counters) → IsSound (drafted old) (item.Slot (Strong o) ∷ xs) → IsCounted old.objects.counts (drafted old) (item.Slot (Strong o) ∷ xs) → IsSetAt old.objects.counts new.objects.counts o c
    → c.strong ≡ (counters_at (get old.objects.counts o)).strong - 1 → c.weak ≡ (counters_at (get old.objects.counts o)).weak → c.ends ≡ (counters_at (get old.objects.counts o)).ends → (c.strong ≡ 0 → ⊥) → drafted new ≡ drafted old → DropsFirst old new (item.Slot (Strong o)) xs xs before before
drops_more old new o xs before c sound counted set less same kept some stay =
    let s : c.strong ≡ strong (drafted old) xs o = omega (arith, less, counted.strong_is o, self_strong o) in
    let w : c.weak ≡ weak (drafted old) xs o = omega (arith, same, counted.weak_is o) in
    drops_by old new (item.Slot (Strong o)) o xs xs before before c sound (strong_names_only (drafted old) xs o old.objects.counts counted) set Stays (other_fate (drafted old) xs o (λ z. some (s ∙ z))) s w
    (kept ∙ counted.ends_is o) (quiet (drafted old) (drafted new) xs before stay)

-- one of several, where it isn't counted any more
pub stays_uncounted : (old : Draft) (o : ℕ) (xs : List Item) (before : List Event) → IsCounted old.objects.counts (drafted old) xs → ((counters_at (get old.objects.counts o)).strong ≡ 0 → ⊥) → DropsFirst old old (item.Slot (Strong o)) xs xs before before
stays_uncounted old o xs before counted some = record {
  step = subst (λ (g : Fate). Becomes (drafted old) xs before before (left_by (drafted old) xs g)) (sym (other_fate (drafted old) xs o (λ z. some (counted.strong_is o ∙ z)))) (quiet (drafted old) (drafted old) xs before refl);
  counted = counted;
}

module _ (old new : Draft) (o : ℕ) (xs : List Item) (before told : List Event) (c : Counters)
    (set : IsSetAt old.objects.counts new.objects.counts o c) (same : c.strong ≡ (counters_at (get old.objects.counts o)).strong) where
  pub drops_weak : (b : Bool) → IsSound (drafted old) (item.Slot (Weak o) ∷ xs) → IsCounted old.objects.counts (drafted old) (item.Slot (Weak o) ∷ xs) → c.weak ≡ (counters_at (get old.objects.counts o)).weak - 1 → c.ends ≡ (counters_at (get old.objects.counts o)).ends
      → b ≡ ((c.weak == 0) && (is_husk (get old.objects.entries o) && (c.ends == 0))) → Becomes (drafted new) xs before told (left_by (drafted old) xs (if b then Goes o else Stays)) → DropsFirst old new (item.Slot (Weak o)) xs xs before told
  drops_weak b sound counted less kept test step =
      let s : c.strong ≡ strong (drafted old) xs o = omega (arith, same, counted.strong_is o) in
      let w : c.weak ≡ weak (drafted old) xs o = omega (arith, less, counted.weak_is o, self_weak o) in
      let e : c.ends ≡ ends o xs = kept ∙ counted.ends_is o in
      let tested : b ≡ ((weak (drafted old) xs o == 0) && (is_husk (get old.objects.entries o) && (ends o xs == 0))) = test ∙ ap (λ n. (n == 0) && (is_husk (get old.objects.entries o) && (c.ends == 0))) w ∙ ap (λ n. (weak (drafted old) xs o == 0) && (is_husk (get old.objects.entries o) && (n == 0))) e in
      let is : fate (drafted old) (item.Slot (Weak o)) xs ≡ (if b then Goes o else Stays) = fate_by b ((weak (drafted old) xs o == 0) && (is_husk (get old.objects.entries o) && (ends o xs == 0))) (Goes o) Stays tested in
      drops_by old new (item.Slot (Weak o)) o xs xs before told c sound (weak_names_only (drafted old) xs o old.objects.counts counted) set (if b then Goes o else Stays) is s w (e ∙ ap (ends o) (sym (weak_pending (drafted old) xs o)) ∙ ap (λ (g : Fate). ends o (left_by (drafted old) xs g).pending) is) step

  pub drops_end : (b : Bool) → IsSound (drafted old) (item.End o ∷ xs) → IsCounted old.objects.counts (drafted old) (item.End o ∷ xs) → c.weak ≡ (counters_at (get old.objects.counts o)).weak → c.ends ≡ (counters_at (get old.objects.counts o)).ends - 1
      → b ≡ (c.weak == 0) → Becomes (drafted new) xs before told (left_by (drafted old) xs (if b then Goes o else Stays)) → DropsFirst old new (item.End o) xs xs before told
  drops_end b sound counted kept less test step =
      let s : c.strong ≡ strong (drafted old) xs o = same ∙ counted.strong_is o in
      let w : c.weak ≡ weak (drafted old) xs o = kept ∙ counted.weak_is o in
      let e : c.ends ≡ ends o xs = omega (arith, less, counted.ends_is o, self_end o (ends o xs)) in
      let tested : b ≡ (weak (drafted old) xs o == 0) = test ∙ ap (λ n. n == 0) w in
      let is : fate (drafted old) (item.End o) xs ≡ (if b then Goes o else Stays) = fate_by b (weak (drafted old) xs o == 0) (Goes o) Stays tested in
      drops_by old new (item.End o) o xs xs before told c sound (end_names_only (drafted old) xs o old.objects.counts counted) set (if b then Goes o else Stays) is s w (e ∙ ap (ends o) (sym (end_pending (drafted old) xs o)) ∙ ap (λ (g : Fate). ends o (left_by (drafted old) xs g).pending) is) step

pub drops_nothing : (old : Draft) (s : Slot) (xs : List Item) (before : List Event) → fate (drafted old) (item.Slot s) xs ≡ Stays → ((w : ℕ) → names_alike (Strong w) s ≡ 0) → ((w : ℕ) → names_alike (Weak w) s ≡ 0) → IsCounted old.objects.counts (drafted old) (item.Slot s ∷ xs) → DropsFirst old old (item.Slot s) xs xs before before
drops_nothing old s xs before is a b counted = record {
  step = subst (λ (g : Fate). Becomes (drafted old) xs before before (left_by (drafted old) xs g)) (sym is) (quiet (drafted old) (drafted old) xs before refl);
  counted = record {
    strong_is = λ o. omega (arith, counted.strong_is o, a o);
    weak_is = λ o. omega (arith, counted.weak_is o, b o);
    ends_is = counted.ends_is;
  };
}
