-- Objects that only those of higher ranks name are reached.
use Rattle.std.proofs.Common.{◌≡◌, ℕ, zero, suc, ◌+◌, ◌<◌, ◌≤◌, List, [], ◌∷◌, ◌++◌, take, length, get_or, add-one, refl, ap, ◌∙◌, sym, subst, arith, Bool, true, false}
use Rattle.std.specs.Prelude.{Result, Ok, Err, OnOk, OnErr, ◌==◌, ◌||◌, Option, Some, None, is_some, unwrap_or, if◌then◌else◌}
use Rattle.std.proofs.Math.Seq.{take-suc}
use Rattle.std.proofs.lemmas.Bool.Decides.{nat_tests}
use Rattle.std.specs.Ordering.{nat_cmp}
use Rattle.std.specs.FinMap.{FinMap, get, insert, remove, empty, get-empty}
use Rattle.trace_types.specs.declared.slots.Slot.{Slot}
use Rattle.trace_types.specs.declared.slots.Slot.TheVariants.{Nothing, Strong, Weak, Dangling}
use Rattle.trace_types.specs.declared.slots.Holding.{Holding}
use Rattle.trace_types.specs.declared.slots.Holding.TheVariants as holding
use Rattle.trace_types.specs.declared.slots.Entry.{Entry}
use Rattle.trace_types.specs.declared.slots.Entry.TheVariants.{Alive, Husk}
use Rattle.trace_types.specs.declared.limits.TheConstants.{MAX_ID}
use Rattle.ownership_model.specs.declared.link.Link.TheVariants.{StrongOrWeak}
use Rattle.ownership_model.specs.State.{State, IsSound, IsSoundAt, names_alike, slots_weight, holding_weight, entry_weight, weight}
use Rattle.ownership_model.specs.Bounds.{IsBounded, ObjectFits}
use Rattle.ownership_model.specs.Reach.{has, is_reached, named, slots_names, holding_names, cell_names, entry_names}
use Rattle.ownership_model.proofs.Counting.{weight_at, get_inserted, get_removed, same_number}
use Rattle.ownership_model.proofs.TotalLemmas.{total-zero}
use Rattle.ownership_model.proofs.Searching.{has-append}
use Rattle.ownership_model.proofs.LawsHold as laws
use Rattle.ownership_model.specs.Totals.{total}
use Rattle.ownership_model.proofs.NamedLemmas.{each_zero}
use Rattle.object_heap.specs.declared.counters.Counters.{Counters}
use Rattle.object_heap.specs.declared.ranks.TheConstants.{MAX_RANK}
use Rattle.object_heap.specs.Counted.{IsCounted}
use Rattle.object_heap.specs.Descent.{rank_in, AreLow, NameLower, AreRanked, DescendTo, IsUnnamed}
use Rattle.object_heap.specs.NamesCounted.{AreNamesCounted}

-- ---- fields one after another
has_slots-append : (o : ℕ) (xs ys : List Slot) → has o (slots_names StrongOrWeak (xs ++ ys)) ≡ (has o (slots_names StrongOrWeak xs) || has o (slots_names StrongOrWeak ys))
has_slots-append o [] ys = refl
has_slots-append o (x ∷ xs) ys =
    grind (arith, nat_tests, has-append o (named StrongOrWeak x) (slots_names StrongOrWeak (xs ++ ys)), has-append o (named StrongOrWeak x) (slots_names StrongOrWeak xs), has_slots-append o xs ys)

no_more : (b : Bool) → (b || false) ≡ b
no_more true = refl
no_more false = refl

has_slots-next : (slots : List Slot) (i : ℕ) (d : Slot) (o : ℕ) → i < length slots → has o (slots_names StrongOrWeak (take (i + 1) slots)) ≡ (has o (slots_names StrongOrWeak (take i slots)) || has o (named StrongOrWeak (get_or slots i d)))
has_slots-next slots i d o within =
    ap (λ n. has o (slots_names StrongOrWeak (take n slots))) (add-one i) ∙ ap (λ xs. has o (slots_names StrongOrWeak xs)) (take-suc slots i d within)
    ∙ has_slots-append o (take i slots) (get_or slots i d ∷ [])
    ∙ ap (λ b. has o (slots_names StrongOrWeak (take i slots)) || b) (has-append o (named StrongOrWeak (get_or slots i d)) [] ∙ no_more (has o (named StrongOrWeak (get_or slots i d))))

pub one_of : (P : Type 0) (a b : Bool) → (a || b) ≡ true → (a ≡ true → P) → (b ≡ true → P) → P
one_of P true b h f g = f refl
one_of P false b h f g = g h

-- one field more, by a rank that is no lower
pub slots_next : (ranks : FinMap nat_cmp ℕ) (slots : List Slot) (i : ℕ) (d : Slot) (from next rank : ℕ) → i < length slots → from ≤ next → NameLower ranks next rank (named StrongOrWeak (get_or slots i d))
    → NameLower ranks from rank (slots_names StrongOrWeak (take i slots)) → NameLower ranks next rank (slots_names StrongOrWeak (take (i + 1) slots))
slots_next ranks slots i d from next rank within more here before o h above =
    one_of (rank_in ranks o < rank) (has o (slots_names StrongOrWeak (take i slots))) (has o (named StrongOrWeak (get_or slots i d))) (sym (has_slots-next slots i d o within) ∙ h)
    (λ t. before o t (omega (arith, more, above))) (λ t. here o t above)

-- ---- what stands at one key changes
pub descend_up : (ranks : FinMap nat_cmp ℕ) (from next : ℕ) (objects : FinMap nat_cmp Entry) → from ≤ next → AreRanked ranks from objects → AreRanked ranks next objects
descend_up ranks from next objects more d = record { descend = λ p o h above. d.descend p o h (omega (arith, more, above)); low = d.low }

pub descend_insert : (ranks : FinMap nat_cmp ℕ) (from next object rank : ℕ) (entry : Entry) (objects : FinMap nat_cmp Entry) → from ≤ next → rank ≡ rank_in ranks object → NameLower ranks next rank (entry_names StrongOrWeak (Some entry))
    → AreRanked ranks from objects → AreRanked ranks next (insert objects object entry)
descend_insert ranks from next object rank entry objects more is here d = record {
  descend = λ p o h above.
      let at : get (insert objects object entry) p ≡ (if object == p then Some entry else get objects p) = get_inserted objects object entry p in
      elim (object == p) as (λ b. (object == p) ≡ b → has o (entry_names StrongOrWeak (if b then Some entry else get objects p)) ≡ true → rank_in ranks o < rank_in ranks p) [
        | true ↦ λ t g. subst (λ q. rank_in ranks o < rank_in ranks q) (same_number object p t) (subst (λ r. rank_in ranks o < r) is (here o g above))
        | false ↦ λ t g. d.descend p o g (omega (arith, more, above))
      ] refl (sym (ap (λ x. has o (entry_names StrongOrWeak x)) at) ∙ h);
  low = d.low;
}

pub descend_remove : (ranks : FinMap nat_cmp ℕ) (from object : ℕ) (objects : FinMap nat_cmp Entry) → AreRanked ranks from objects → AreRanked ranks from (remove objects object)
descend_remove ranks from object objects d = record {
  descend = λ p o h above.
      let at : get (remove objects object) p ≡ (if object == p then None else get objects p) = get_removed objects object p in
      elim (object == p) as (λ b. (object == p) ≡ b → has o (entry_names StrongOrWeak (if b then None else get objects p)) ≡ true → rank_in ranks o < rank_in ranks p) [
        | true ↦ λ t g. absurd cc
        | false ↦ λ t g. d.descend p o g above
      ] refl (sym (ap (λ x. has o (entry_names StrongOrWeak x)) at) ∙ h);
  low = d.low;
}

-- the value of an object goes
pub descend_husk : (ranks : FinMap nat_cmp ℕ) (from object : ℕ) (objects : FinMap nat_cmp Entry) → AreRanked ranks from objects → AreRanked ranks from (insert objects object Husk)
descend_husk ranks from object objects d = descend_insert ranks from from object (rank_in ranks object) Husk objects (omega arith) refl (λ o h above. absurd cc) d

apart : (b : Bool) → b ≡ true → b ≡ false → ⊥
apart true h g = cc
apart false h g = cc

-- ---- an object that no field names gets a higher rank
module _ (ranks new : FinMap nat_cmp ℕ) (object rank : ℕ) (is : new ≡ insert ranks object rank) where
  rank_at : (q : ℕ) → rank_in new q ≡ (if object == q then rank else rank_in ranks q)
  rank_at q = ap (λ m. rank_in m q) is ∙ ap (λ x. unwrap_or x q) (get_inserted ranks object rank q) ∙ chosen (object == q)
    where
      chosen : (b : Bool) → unwrap_or (if b then Some rank else get ranks q) q ≡ (if b then rank else unwrap_or (get ranks q) q)
      chosen true = refl
      chosen false = refl

  same_rank : (q : ℕ) → (object == q) ≡ false → rank_in new q ≡ rank_in ranks q
  same_rank q e = rank_at q ∙ ap (λ b. if b then rank else rank_in ranks q) e

  no_lower : rank_in ranks object < rank → (q : ℕ) → rank_in ranks q ≤ rank_in new q
  no_lower higher q = elim (object == q) as (λ b. (object == q) ≡ b → rank_in ranks q ≤ rank_in new q) [
    | true ↦ λ t. let at : rank_in new q ≡ rank = rank_at q ∙ ap (λ b. if b then rank else rank_in ranks q) t in
        let old : rank_in ranks q < rank = subst (λ p. rank_in ranks p < rank) (same_number object q t) higher in
        omega (arith, at, old)
    | false ↦ λ t. omega (arith, same_rank q t)
  ] refl

  low_after : rank ≤ MAX_RANK → AreLow ranks → AreLow new
  low_after few low q r h =
      elim (object == q) as (λ b. (object == q) ≡ b → (if b then Some rank else get ranks q) ≡ Some r → r ≤ MAX_RANK) [
        | true ↦ λ t g. let e : rank ≡ r = cc in omega (arith, e, few)
        | false ↦ λ t g. low q r g
      ] refl (sym (ap (λ m. get m q) is ∙ get_inserted ranks object rank q) ∙ h)

  pub descend_raise : (from : ℕ) (objects : FinMap nat_cmp Entry) → rank_in ranks object < rank → rank ≤ MAX_RANK → IsUnnamed objects object → AreRanked ranks from objects → AreRanked new from objects
  descend_raise from objects higher few unnamed d = record {
    descend = λ p o h above.
        elim (object == o) as (λ b. (object == o) ≡ b → rank_in new o < rank_in new p) [
          | true ↦ λ t. absurd (apart (has o (entry_names StrongOrWeak (get objects p))) h (subst (λ q. has q (entry_names StrongOrWeak (get objects p)) ≡ false) (same_number object o t) (unnamed p)))
          | false ↦ λ t.
              let same : rank_in new o ≡ rank_in ranks o = same_rank o t in
              let before : rank_in ranks o < rank_in ranks p = d.descend p o h (omega (arith, same, above)) in
              omega (arith, same, before, no_lower higher p)
        ] refl;
    low = low_after few d.low;
  }

pub raised : {T E : Type 0} (r : Result T E) (ranks new : FinMap nat_cmp ℕ) (object rank : ℕ) → OnOk r (new ≡ insert ranks object rank) → OnErr r (new ≡ ranks)
    → (from : ℕ) (objects : FinMap nat_cmp Entry) → rank_in ranks object < rank → rank ≤ MAX_RANK → IsUnnamed objects object → AreRanked ranks from objects → AreRanked new from objects
raised (Ok x) ranks new object rank ok err from objects higher few unnamed d = descend_raise ranks new object rank ok from objects higher few unnamed d
raised (Err e) ranks new object rank ok err from objects higher few unnamed d = subst (λ (m : FinMap nat_cmp ℕ). AreRanked m from objects) (sym err) d

-- after a call that changed something, or failed and left it
pub after : {T E A : Type 0} (r : Result T E) (P : A → Type 0) (old made new : A) → OnOk r (new ≡ made) → OnErr r (new ≡ old) → P made → P old → P new
after (Ok x) P old made new ok err p q = subst P (sym ok) p
after (Err e) P old made new ok err p q = subst P (sym err) q

none_kept : (o r : ℕ) (x : Option ℕ) → x ≡ None → x ≡ Some r → ⊥
none_kept o r x e h = cc

pub descend_empty : (ranks : FinMap nat_cmp ℕ) (objects : FinMap nat_cmp Entry) → ranks ≡ empty → objects ≡ empty → AreRanked ranks 0 objects
descend_empty ranks objects none is = record {
  descend = λ p o h above. absurd (let g : has o (entry_names StrongOrWeak None) ≡ true = sym (ap (λ x. has o (entry_names StrongOrWeak x)) (ap (λ n. get n p) is ∙ get-empty nat_cmp p)) ∙ h in cc);
  low = λ o r h. absurd (none_kept o r (get ranks o) (ap (λ n. get n o) none ∙ get-empty nat_cmp o) h);
}

-- ---- what nothing names counts nothing
left_false : (a b : Bool) → (a || b) ≡ false → a ≡ false
left_false true b h = absurd cc
left_false false b h = refl

right_false : (a b : Bool) → (a || b) ≡ false → b ≡ false
right_false true b h = absurd cc
right_false false b h = h

unnamed_strong : (o : ℕ) (s : Slot) → has o (named StrongOrWeak s) ≡ false → names_alike (Strong o) s ≡ 0
unnamed_strong o Nothing h = refl
unnamed_strong o (Strong p) h = grind (arith, nat_tests, h)
unnamed_strong o (Weak p) h = refl
unnamed_strong o Dangling h = refl

unnamed_weak : (o : ℕ) (s : Slot) → has o (named StrongOrWeak s) ≡ false → names_alike (Weak o) s ≡ 0
unnamed_weak o Nothing h = refl
unnamed_weak o (Strong p) h = refl
unnamed_weak o (Weak p) h = grind (arith, nat_tests, h)
unnamed_weak o Dangling h = refl

module _ (o : ℕ) (w : Slot → ℕ) (slot : (s : Slot) → has o (named StrongOrWeak s) ≡ false → w s ≡ 0) where
  slots : (ss : List Slot) → has o (slots_names StrongOrWeak ss) ≡ false → slots_weight w ss ≡ 0
  slots [] h = refl
  slots (s ∷ ss) h =
      let split : (has o (named StrongOrWeak s) || has o (slots_names StrongOrWeak ss)) ≡ false = sym (has-append o (named StrongOrWeak s) (slots_names StrongOrWeak ss)) ∙ h in
      omega (arith, slot s (left_false _ _ split), slots ss (right_false _ _ split))

  held : (x : Option Holding) → has o (holding_names StrongOrWeak x) ≡ false → weight_at (holding_weight w) x ≡ 0
  held None h = refl
  held (Some (holding.Slot s)) h = slot s h
  held (Some (holding.Bare fields)) h = slots fields h

  cell : (x : Option Slot) → has o (cell_names StrongOrWeak x) ≡ false → weight_at w x ≡ 0
  cell None h = refl
  cell (Some s) h = slot s h

  entry : (x : Option Entry) → has o (entry_names StrongOrWeak x) ≡ false → weight_at (entry_weight w) x ≡ 0
  entry None h = refl
  entry (Some (Alive fields)) h = slots fields h
  entry (Some Husk) h = refl

  weightless : (m : State) → ((h : ℕ) → has o (holding_names StrongOrWeak (get m.handles h)) ≡ false) → ((c : ℕ) → has o (cell_names StrongOrWeak (get m.cells c)) ≡ false)
      → ((p : ℕ) → has o (entry_names StrongOrWeak (get m.objects p)) ≡ false) → weight w m [] ≡ 0
  weightless m handles cells objects =
      omega (arith, total-zero (holding_weight w) m.handles (λ q. held (get m.handles q) (handles q)), total-zero w m.cells (λ q. cell (get m.cells q) (cells q)), total-zero (entry_weight w) m.objects (λ q. entry (get m.objects q) (objects q)))

-- what stands is counted
uncounted : (s w : ℕ) (x : Option Entry) → IsSoundAt s w 0 x → s ≡ 0 → w ≡ 0 → is_some x ≡ true → ⊥
uncounted s w None is z y there = absurd cc
uncounted s w (Some (Alive fields)) is z y there = absurd (omega (arith, is.0, z))
uncounted s w (Some Husk) is z y there = absurd (omega (arith, is.1, y))

within : (o : ℕ) (x : Option Entry) → ObjectFits o x → is_some x ≡ true → o ≤ MAX_ID
within o None f there = absurd cc
within o (Some e) f there = f.0

names_there : (o : ℕ) (x : Option Entry) → has o (entry_names StrongOrWeak x) ≡ true → is_some x ≡ true
names_there o None h = absurd cc
names_there o (Some e) h = refl

not_true : (b : Bool) → (b ≡ true → ⊥) → b ≡ false
not_true true f = absurd (f refl)
not_true false f = refl

rank_within : (ranks : FinMap nat_cmp ℕ) (o : ℕ) (x : Option ℕ) → get ranks o ≡ x → AreLow ranks → o ≤ MAX_ID → unwrap_or x o ≤ MAX_RANK
rank_within ranks o None e low few = omega (arith, few)
rank_within ranks o (Some r) e low few = low o r e

module _ (m : State) (ranks : FinMap nat_cmp ℕ) (from : ℕ) (sound : IsSound m []) (bounded : IsBounded m) (ranked : AreRanked ranks from m.objects) where
  -- An object that is not reached is named by objects that are not either. Those rank higher, and there is a highest rank.
  reached_below : (n o : ℕ) → from ≤ rank_in ranks o → MAX_RANK < rank_in ranks o + n → is_some (get m.objects o) ≡ true → is_reached StrongOrWeak m o ≡ true
  reached_below zero o above far there = absurd (omega (arith, far, rank_within ranks o (get ranks o) refl ranked.low (within o (get m.objects o) (bounded.objects o) there)))
  reached_below (suc n) o above far there =
      elim (is_reached StrongOrWeak m o) as (λ b. is_reached StrongOrWeak m o ≡ b → b ≡ true) [
        | true ↦ λ e. refl
        | false ↦ λ e.
            let handles : (h : ℕ) → has o (holding_names StrongOrWeak (get m.handles h)) ≡ false = λ h. not_true _ (λ t. apart _ (laws.named.by_handle StrongOrWeak m h o t) e) in
            let cells : (c : ℕ) → has o (cell_names StrongOrWeak (get m.cells c)) ≡ false = λ c. not_true _ (λ t. apart _ (laws.named.by_cell StrongOrWeak m c o t) e) in
            let objects : (p : ℕ) → has o (entry_names StrongOrWeak (get m.objects p)) ≡ false = λ p. not_true _ (λ t.
            let higher : rank_in ranks o < rank_in ranks p = ranked.descend p o t above in
            apart _ (laws.named.by_field StrongOrWeak m p o (reached_below n p (omega (arith, above, higher)) (omega (arith, far, higher)) (names_there o (get m.objects p) t)) t) e) in
            absurd (uncounted _ _ (get m.objects o) (sound.counts o) (weightless o (names_alike (Strong o)) (unnamed_strong o) m handles cells objects) (weightless o (names_alike (Weak o)) (unnamed_weak o) m handles cells objects) there)
      ] refl

pub reached : (m : State) (o : ℕ) → IsSound m [] → IsBounded m → DescendTo m.objects o → is_some (get m.objects o) ≡ true → is_reached StrongOrWeak m o ≡ true
reached m o sound bounded to there = reached_below m to.ranks to.from sound bounded to.ranked (suc MAX_RANK) o to.above (omega arith) there

-- ---- what counts nothing is named by nothing
pub counted_slot : (o : ℕ) (s : Slot) → names_alike (Strong o) s ≡ 0 → names_alike (Weak o) s ≡ 0 → has o (named StrongOrWeak s) ≡ false
counted_slot o Nothing z y = refl
counted_slot o (Strong p) z y = grind (arith, nat_tests, z)
counted_slot o (Weak p) z y = grind (arith, nat_tests, y)
counted_slot o Dangling z y = refl

pub both_false : (a b : Bool) → a ≡ false → b ≡ false → (a || b) ≡ false
both_false true b h g = absurd cc
both_false false b h g = g

pub counted_slots : (o : ℕ) (ss : List Slot) → slots_weight (names_alike (Strong o)) ss ≡ 0 → slots_weight (names_alike (Weak o)) ss ≡ 0 → has o (slots_names StrongOrWeak ss) ≡ false
counted_slots o [] z y = refl
counted_slots o (s ∷ ss) z y =
    has-append o (named StrongOrWeak s) (slots_names StrongOrWeak ss)
    ∙ both_false _ _ (counted_slot o s (omega (arith, z)) (omega (arith, y))) (counted_slots o ss (omega (arith, z)) (omega (arith, y)))

pub counted_entry : (o : ℕ) (x : Option Entry) → weight_at (entry_weight (names_alike (Strong o))) x ≡ 0 → weight_at (entry_weight (names_alike (Weak o))) x ≡ 0 → has o (entry_names StrongOrWeak x) ≡ false
counted_entry o None z y = refl
counted_entry o (Some (Alive fields)) z y = counted_slots o fields z y
counted_entry o (Some Husk) z y = refl

pub names_counted : (counts : FinMap nat_cmp Counters) (m : State) → IsCounted counts m [] → AreNamesCounted counts m.objects
names_counted counts m is o z y p =
    let strongs : total (entry_weight (names_alike (Strong o))) m.objects ≡ 0 = omega (arith, is.strong_is o, z) in
    let weaks : total (entry_weight (names_alike (Weak o))) m.objects ≡ 0 = omega (arith, is.weak_is o, y) in
    counted_entry o (get m.objects p) (each_zero (entry_weight (names_alike (Strong o))) m.objects strongs p) (each_zero (entry_weight (names_alike (Weak o))) m.objects weaks p)
