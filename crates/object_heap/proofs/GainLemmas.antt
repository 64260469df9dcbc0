-- Slots that are counted more, or no more, and what a change brings and takes.
use Rattle.std.proofs.Common.{◌≡◌, ℕ, zero, suc, ◌+◌, ◌^◌, ◌<◌, ◌≤◌, List, [], ◌∷◌, ◌++◌, length, drop, take, get_or, add-one, refl, ap, ◌∙◌, sym, subst, arith, Bool, true, false}
use Rattle.std.specs.Prelude.{Option, Some, None, ◌==◌, if◌then◌else◌, slice_get, slice_set}
use Rattle.std.specs.Prelude.{Result, Ok, Err, OnOk, OnErr}
use Rattle.std.proofs.Math.Seq.{take-suc, drop-cons}
use Rattle.std.specs.Ordering.{nat_cmp}
use Rattle.std.specs.FinMap.{FinMap, get, insert}
use Rattle.trace_types.specs.declared.limits.TheConstants.{MAX_FIELDS}
use Rattle.trace_types.specs.declared.slots.Slot.{Slot}
use Rattle.trace_types.specs.declared.slots.Slot.TheVariants.{Strong, Weak}
use Rattle.trace_types.specs.declared.slots.Entry.{Entry}
use Rattle.trace_types.specs.declared.slots.Entry.TheVariants.{Alive, Husk}
use Rattle.trace_types.specs.declared.slots.Item.{Item}
use Rattle.trace_types.specs.declared.slots.Item.TheVariants as item
use Rattle.trace_types.specs.declared.slots.Change.{Change}
use Rattle.trace_types.specs.declared.slots.Change.TheVariants.{SetHandle, EndHandle, SetCell, EndCell, SetField, Make, TurnHusk}
use Rattle.ownership_model.specs.Totals.{total}
use Rattle.ownership_model.specs.State.{State, ends, weight, names_alike, slots_weight, holding_weight, entry_weight}
use Rattle.ownership_model.specs.Changes.{changed, changed_by, with_field, HasField, CanBeDone, CanChange}
use Rattle.ownership_model.specs.Bounds.{IsBounded, ChangeFits, ChangesFit}
use Rattle.ownership_model.proofs.LawsHold.{bounds}
use Rattle.ownership_model.proofs.Counting.{weight_at, total-insert, total-remove, total-set, self_strong, self_weak, other_strong, other_weak, same_number, names_alike-le}
use Rattle.object_heap.specs.declared.counters.Counters.{Counters}
use Rattle.object_heap.specs.declared.draft.Draft.{Draft}
use Rattle.object_heap.specs.Counted.{drafted, IsCounted}
use Rattle.object_heap.specs.TableView.{TableView, counters_at}
use Rattle.object_heap.specs.Gains.{IsSetAt, CountsMore, HasSlots, HasRoom, Changes}
use Rattle.object_heap.proofs.ChangeWeights.{field_weight, gained, lost}

-- what a call that succeeded gives
pub on_ok : {T E : Type 0} (r : Result T E) {P Q : Type 0} → OnOk r P → (P → Q) → OnOk r Q
on_ok (Ok x) p f = f p
on_ok (Err e) p f = tt

pub on_both : {T E : Type 0} (r : Result T E) {P Q R : Type 0} → OnOk r P → OnOk r Q → (P → Q → R) → OnOk r R
on_both (Ok x) p q f = f p q
on_both (Err e) p q f = tt

-- what a call gives, whether it succeeded or not
pub either_way : {T E : Type 0} (r : Result T E) {P Q R : Type 0} → OnOk r P → OnErr r Q → (P → R) → (Q → R) → R
either_way (Ok x) p q f g = f p
either_way (Err e) p q f g = g q

-- the counters of a draft are no part of its state
pub same_state : (d : Draft) (t : TableView) → t.entries ≡ d.objects.entries → drafted (record { handles = d.handles; cells = d.cells; objects = t }) ≡ drafted d
same_state d t same = λ i. record { handles = d.handles.holdings; cells = d.cells; objects = same i; scopes = d.handles.scopes }

-- something else stands for an object, and the counters stay
pub put_entry : (d : Draft) (mid new : TableView) (o : ℕ) (e f : Entry) → new ≡ record { entries = insert mid.entries o e; counts = mid.counts } → mid.entries ≡ d.objects.entries → e ≡ f
    → drafted (record { handles = d.handles; cells = d.cells; objects = new }) ≡ record { handles = d.handles.holdings; cells = d.cells; objects = insert d.objects.entries o f; scopes = d.handles.scopes }
put_entry d mid new o e f put stay same =
    let is : new.entries ≡ insert d.objects.entries o f = ap (λ (t : TableView). t.entries) put ∙ (λ i. insert (stay i) o (same i)) in
    λ i. record { handles = d.handles.holdings; cells = d.cells; objects = is i; scopes = d.handles.scopes }

pub still_more : (mid new : TableView) (more : FinMap nat_cmp Counters) (es : FinMap nat_cmp Entry) (g : (Slot → ℕ) → ℕ) → new ≡ record { entries = es; counts = mid.counts } → CountsMore mid.counts more g → CountsMore new.counts more g
still_more mid new more es g is it = subst (λ (t : TableView). CountsMore t.counts more g) (sym is) it

-- whichever way a test goes
pub chosen : (f : Counters → ℕ) (b : Bool) (c d : Counters) (n : ℕ) → (b ≡ true → f c ≡ n) → (b ≡ false → f d ≡ n) → f (if b then c else d) ≡ n
chosen f true c d n p q = p refl
chosen f false c d n p q = q refl

module _ (old new : FinMap nat_cmp Counters) (o : ℕ) (c : Counters) (set : IsSetAt old new o c) where
  grown : (f : Counters → ℕ) (g : ℕ → ℕ) → f c ≡ g o + f (counters_at (get old o)) → ((p : ℕ) → (o == p) ≡ false → g p ≡ 0) → (p : ℕ) → f (counters_at (get new p)) ≡ g p + f (counters_at (get old p))
  grown f g here other p =
      ap f (set p)
      ∙ chosen f (o == p) c (counters_at (get old p)) (g p + f (counters_at (get old p)))
      (λ t. here ∙ ap (λ q. g q + f (counters_at (get old q))) (same_number o p t))
      (λ e. let none : g p ≡ 0 = other p e in omega (arith, none))

  pub more_strong : c.strong ≡ 1 + (counters_at (get old o)).strong → c.weak ≡ (counters_at (get old o)).weak → c.ends ≡ (counters_at (get old o)).ends → CountsMore old new (λ w. w (Strong o))
  more_strong s w e = record {
    strong_is = grown (λ v. v.strong) (λ p. names_alike (Strong p) (Strong o)) (omega (arith, s, self_strong o)) (λ p f. other_strong p o f);
    weak_is = grown (λ v. v.weak) (λ p. names_alike (Weak p) (Strong o)) (omega (arith, w)) (λ p f. refl);
    ends_is = λ p. grown (λ v. v.ends) (λ q. 0) (omega (arith, e)) (λ q f. refl) p ∙ omega arith;
  }

  pub more_weak : c.strong ≡ (counters_at (get old o)).strong → c.weak ≡ 1 + (counters_at (get old o)).weak → c.ends ≡ (counters_at (get old o)).ends → CountsMore old new (λ w. w (Weak o))
  more_weak s w e = record {
    strong_is = grown (λ v. v.strong) (λ p. names_alike (Strong p) (Weak o)) (omega (arith, s)) (λ p f. refl);
    weak_is = grown (λ v. v.weak) (λ p. names_alike (Weak p) (Weak o)) (omega (arith, w, self_weak o)) (λ p f. other_weak p o f);
    ends_is = λ p. grown (λ v. v.ends) (λ q. 0) (omega (arith, e)) (λ q f. refl) p ∙ omega arith;
  }

  shrunk : (f : Counters → ℕ) (g : ℕ → ℕ) → f (counters_at (get old o)) ≡ g o + f c → ((p : ℕ) → (o == p) ≡ false → g p ≡ 0) → (p : ℕ) → f (counters_at (get old p)) ≡ g p + f (counters_at (get new p))
  shrunk f g here other p =
      sym (ap (λ (v : Counters). g p + f v) (set p)
      ∙ chosen (λ v. g p + f v) (o == p) c (counters_at (get old p)) (f (counters_at (get old p)))
      (λ t. ap (λ q. g q + f c) (sym (same_number o p t)) ∙ sym here ∙ ap (λ q. f (counters_at (get old q))) (same_number o p t))
      (λ e. let none : g p ≡ 0 = other p e in omega (arith, none)))

  pub less_strong : (counters_at (get old o)).strong ≡ 1 + c.strong → (counters_at (get old o)).weak ≡ c.weak → (counters_at (get old o)).ends ≡ c.ends → CountsMore new old (λ w. w (Strong o))
  less_strong s w e = record {
    strong_is = shrunk (λ v. v.strong) (λ p. names_alike (Strong p) (Strong o)) (omega (arith, s, self_strong o)) (λ p f. other_strong p o f);
    weak_is = shrunk (λ v. v.weak) (λ p. names_alike (Weak p) (Strong o)) (omega (arith, w)) (λ p f. refl);
    ends_is = λ p. shrunk (λ v. v.ends) (λ q. 0) (omega (arith, e)) (λ q f. refl) p ∙ omega arith;
  }

  pub less_weak : (counters_at (get old o)).strong ≡ c.strong → (counters_at (get old o)).weak ≡ 1 + c.weak → (counters_at (get old o)).ends ≡ c.ends → CountsMore new old (λ w. w (Weak o))
  less_weak s w e = record {
    strong_is = shrunk (λ v. v.strong) (λ p. names_alike (Strong p) (Weak o)) (omega (arith, s)) (λ p f. refl);
    weak_is = shrunk (λ v. v.weak) (λ p. names_alike (Weak p) (Weak o)) (omega (arith, w, self_weak o)) (λ p f. other_weak p o f);
    ends_is = λ p. shrunk (λ v. v.ends) (λ q. 0) (omega (arith, e)) (λ q f. refl) p ∙ omega arith;
  }

-- where nothing is counted more
pub no_more : (counts : FinMap nat_cmp Counters) (g : (Slot → ℕ) → ℕ) → ((w : Slot → ℕ) → g w ≡ 0) → CountsMore counts counts g
no_more counts g none = record {
  strong_is = λ o. omega (arith, none (names_alike (Strong o)));
  weak_is = λ o. omega (arith, none (names_alike (Weak o)));
  ends_is = λ o. refl;
}

pub same_more : (less more : FinMap nat_cmp Counters) (g h : (Slot → ℕ) → ℕ) → ((w : Slot → ℕ) → h w ≡ g w) → CountsMore less more g → CountsMore less more h
same_more less more g h same it = record {
  strong_is = λ o. omega (arith, it.strong_is o, same (names_alike (Strong o)));
  weak_is = λ o. omega (arith, it.weak_is o, same (names_alike (Weak o)));
  ends_is = it.ends_is;
}

-- one after another
pub more_more : (a b c : FinMap nat_cmp Counters) (g h k : (Slot → ℕ) → ℕ) → ((w : Slot → ℕ) → k w ≡ g w + h w) → CountsMore a b g → CountsMore b c h → CountsMore a c k
more_more a b c g h k both first next = record {
  strong_is = λ o. omega (arith, first.strong_is o, next.strong_is o, both (names_alike (Strong o)));
  weak_is = λ o. omega (arith, first.weak_is o, next.weak_is o, both (names_alike (Weak o)));
  ends_is = λ o. next.ends_is o ∙ first.ends_is o;
}

-- what is left to take of what is counted
pub left_in : (a b : FinMap nat_cmp Counters) (g h k : (Slot → ℕ) → ℕ) → ((w : Slot → ℕ) → k w ≡ g w + h w) → HasSlots b k → CountsMore a b g → HasSlots a h
left_in a b g h k both has taken = record {
  strong_in = λ o. omega (arith, has.strong_in o, taken.strong_is o, both (names_alike (Strong o)));
  weak_in = λ o. omega (arith, has.weak_in o, taken.weak_is o, both (names_alike (Weak o)));
}

pub part_in : (a : FinMap nat_cmp Counters) (h k : (Slot → ℕ) → ℕ) → ((w : Slot → ℕ) → h w ≤ k w) → HasSlots a k → HasSlots a h
part_in a h k part has = record {
  strong_in = λ o. omega (arith, has.strong_in o, part (names_alike (Strong o)));
  weak_in = λ o. omega (arith, has.weak_in o, part (names_alike (Weak o)));
}

pub less_room : (counts : FinMap nat_cmp Counters) (n k : ℕ) → n ≤ k → HasRoom counts k → HasRoom counts n
less_room counts n k le room = record {
  strong_fits = λ o. omega (arith, room.strong_fits o);
  weak_fits = λ o. omega (arith, room.weak_fits o);
  ends_fit = λ o. omega (arith, room.ends_fit o);
}

-- a slot takes the room of one
pub room_after : (less more : FinMap nat_cmp Counters) (s : Slot) (n : ℕ) → HasRoom less (1 + n) → CountsMore less more (λ w. w s) → HasRoom more n
room_after less more s n room it = record {
  strong_fits = λ o. omega (arith, room.strong_fits o, it.strong_is o, names_alike-le (Strong o) s);
  weak_fits = λ o. omega (arith, room.weak_fits o, it.weak_is o, names_alike-le (Weak o) s);
  ends_fit = λ o. omega (arith, room.ends_fit o, it.ends_is o);
}

pub ends-le : (o : ℕ) (p : List Item) → ends o p ≤ length p
ends-le o [] = omega arith
ends-le o (item.Slot s ∷ p) = omega (arith, ends-le o p)
ends-le o (item.End q ∷ p) = ends_one (q == o) (ends o p) (length p) (ends-le o p)
  where
    ends_one : (b : Bool) (n k : ℕ) → n ≤ k → (if b then 1 else 0) + n ≤ suc k
    ends_one true n k le = omega arith
    ends_one false n k le = omega arith

-- the limits leave room in the counters
pub room : (counts : FinMap nat_cmp Counters) (m : State) (p : List Item) → IsBounded m → IsCounted counts m p → length p < 2 ^ 63 → HasRoom counts MAX_FIELDS
room counts m p bounded counted short = record {
  strong_fits = λ o. omega (arith, counted.strong_is o, (bounds.counts m p o bounded).0);
  weak_fits = λ o. omega (arith, counted.weak_is o, (bounds.counts m p o bounded).1);
  ends_fit = λ o. omega (arith, counted.ends_is o, ends-le o p);
}

set_weighs : (w : Slot → ℕ) (fields : List Slot) (i : ℕ) (s : Slot) → i < length fields → slots_weight w (slice_set fields i s) + weight_at w (slice_get fields i) ≡ slots_weight w fields + w s
set_weighs w [] i s within = absurd (omega arith)
set_weighs w (f ∷ fields) zero s within = omega arith
set_weighs w (f ∷ fields) (suc i) s within = omega (arith, set_weighs w fields i s (omega arith))

field_balance : (w : Slot → ℕ) (m : State) (o i : ℕ) (s : Slot) (e : Option Entry) → get m.objects o ≡ e → HasField e i → total (entry_weight w) (insert m.objects o (with_field e i s)) + field_weight w e i ≡ w s + total (entry_weight w) m.objects
field_balance w m o i s None is can = absurd can
field_balance w m o i s (Some Husk) is can = absurd can
field_balance w m o i s (Some (Alive fields)) is can = omega (arith, total-set (entry_weight w) m.objects o (Alive (slice_set fields i s)) (Some (Alive fields)) is, set_weighs w fields i s can)

-- what stands after a change, and what went by it, is what stood before, and what it brought
pub balance : (w : Slot → ℕ) (m : State) (c : Change) → CanBeDone m c → weight w (changed_by m c) [] + lost m c w ≡ gained c w + weight w m []
balance w m (SetHandle t h x) can = omega (arith, total-insert (holding_weight w) m.handles h x)
balance w m (EndHandle h) can = omega (arith, total-remove (holding_weight w) m.handles h)
balance w m (SetCell c s) can = omega (arith, total-insert w m.cells c s)
balance w m (EndCell c) can = omega (arith, total-remove w m.cells c)
balance w m (SetField o i s) can = omega (arith, field_balance w m o i s (get m.objects o) refl can)
balance w m (Make o fields) can = omega (arith, total-set (entry_weight w) m.objects o (Alive fields) None can)
balance w m (TurnHusk o) can = omega (arith, total-insert (entry_weight w) m.objects o Husk)

module _ (counts mid : FinMap nat_cmp Counters) (m : State) (c : Change) (can : CanBeDone m c) (counted : IsCounted counts m []) (more : CountsMore counts mid (gained c)) where
  -- what a change takes is counted
  pub lost_in : HasSlots mid (lost m c)
  lost_in = record {
    strong_in = λ o. omega (arith, counted.strong_is o, more.strong_is o, balance (names_alike (Strong o)) m c can);
    weak_in = λ o. omega (arith, counted.weak_is o, more.weak_is o, balance (names_alike (Weak o)) m c can);
  }

  -- the counters follow the state
  pub counted_after : (less : FinMap nat_cmp Counters) → CountsMore less mid (lost m c) → IsCounted less (changed_by m c) []
  counted_after less fewer = record {
    strong_is = λ o. omega (arith, counted.strong_is o, more.strong_is o, fewer.strong_is o, balance (names_alike (Strong o)) m c can);
    weak_is = λ o. omega (arith, counted.weak_is o, more.weak_is o, fewer.weak_is o, balance (names_alike (Weak o)) m c can);
    ends_is = λ o. sym (fewer.ends_is o) ∙ more.ends_is o ∙ counted.ends_is o;
  }

  pub changes : (old new : Draft) → ◌≡◌ {A = State} (drafted old) m → CountsMore new.objects.counts mid (lost m c) → drafted new ≡ changed_by m c → Changes old new c
  changes old new was fewer is = record {
    state = is ∙ ap (λ (n : State). changed_by n c) (sym was);
    counted = subst (λ (n : State). IsCounted new.objects.counts n []) (sym is) (counted_after new.objects.counts fewer);
  }

slots_weight-append : (w : Slot → ℕ) (xs : List Slot) (s : Slot) → slots_weight w (xs ++ s ∷ []) ≡ slots_weight w xs + w s
slots_weight-append w [] s = omega arith
slots_weight-append w (x ∷ xs) s = omega (arith, slots_weight-append w xs s)

module _ (slots : List Slot) (i : ℕ) (d : Slot) (within : i < length slots) where
  taken : (w : Slot → ℕ) → slots_weight w (take (i + 1) slots) ≡ slots_weight w (take i slots) + w (get_or slots i d)
  taken w = ap (λ k. slots_weight w (take k slots)) (add-one i) ∙ ap (slots_weight w) (take-suc slots i d within) ∙ slots_weight-append w (take i slots) (get_or slots i d)

  dropped : drop i slots ≡ get_or slots i d ∷ drop (i + 1) slots
  dropped = drop-cons slots i d within ∙ ap (λ k. get_or slots i d ∷ drop k slots) (sym (add-one i))

  pub room_next : (less more : FinMap nat_cmp Counters) → HasRoom less (length (drop i slots)) → CountsMore less more (λ w. w (get_or slots i d)) → HasRoom more (length (drop (i + 1) slots))
  room_next less more room it = room_after less more (get_or slots i d) (length (drop (i + 1) slots)) (less_room less (1 + length (drop (i + 1) slots)) (length (drop i slots)) (omega (arith, ap (λ (l : List Slot). length l) dropped)) room) it

  pub held_next : (first less more : FinMap nat_cmp Counters) → CountsMore first less (λ w. slots_weight w (take i slots)) → CountsMore less more (λ w. w (get_or slots i d)) → CountsMore first more (λ w. slots_weight w (take (i + 1) slots))
  held_next first less more so_far it = more_more first less more (λ w. slots_weight w (take i slots)) (λ w. w (get_or slots i d)) (λ w. slots_weight w (take (i + 1) slots)) taken so_far it

  pub gone_next : (first more less : FinMap nat_cmp Counters) → CountsMore more first (λ w. slots_weight w (take i slots)) → CountsMore less more (λ w. w (get_or slots i d)) → CountsMore less first (λ w. slots_weight w (take (i + 1) slots))
  gone_next first more less so_far it = more_more less more first (λ w. w (get_or slots i d)) (λ w. slots_weight w (take i slots)) (λ w. slots_weight w (take (i + 1) slots)) (λ w. omega (arith, taken w)) it so_far

  pub still_next : (more less : FinMap nat_cmp Counters) → HasSlots more (λ w. slots_weight w (drop i slots)) → CountsMore less more (λ w. w (get_or slots i d)) → HasSlots less (λ w. slots_weight w (drop (i + 1) slots))
  still_next more less still it = left_in less more (λ w. w (get_or slots i d)) (λ w. slots_weight w (drop (i + 1) slots)) (λ w. slots_weight w (drop i slots)) (λ w. ap (slots_weight w) dropped) still it

field_at : (fields : List Slot) (i : ℕ) (d : Slot) → i < length fields → slice_get fields i ≡ Some (get_or fields i d)
field_at [] i d within = absurd (omega arith)
field_at (f ∷ fields) zero d within = refl
field_at (f ∷ fields) (suc i) d within = field_at fields i d (omega arith)

-- the field that is set anew
module _ (m : State) (o i : ℕ) (s : Slot) (fields slots : List Slot) (d : Slot) (is : get m.objects o ≡ Some (Alive fields)) (can : HasField (get m.objects o) i) (same : slots ≡ fields) where
  field_weighs : (w : Slot → ℕ) → w (get_or slots i d) ≡ field_weight w (get m.objects o) i
  field_weighs w =
      let within : i < length fields = subst (λ (e : Option Entry). HasField e i) is can in
      sym (ap (λ (e : Option Entry). field_weight w e i) is ∙ ap (weight_at w) (field_at fields i d within) ∙ ap (λ (l : List Slot). w (get_or l i d)) (sym same))

  pub field_in : (counts : FinMap nat_cmp Counters) → HasSlots counts (lost m (SetField o i s)) → HasSlots counts (λ w. w (get_or slots i d))
  field_in counts has = part_in counts (λ w. w (get_or slots i d)) (lost m (SetField o i s)) (λ w. omega (arith, field_weighs w)) has

  pub field_gone : (less more : FinMap nat_cmp Counters) → CountsMore less more (λ w. w (get_or slots i d)) → CountsMore less more (lost m (SetField o i s))
  field_gone less more it = same_more less more (λ w. w (get_or slots i d)) (lost m (SetField o i s)) (λ w. sym (field_weighs w)) it

-- one change of several
module _ (m n : State) (changes : List Change) (i : ℕ) (x : Change) (within : i < length changes) (is : x ≡ get_or changes i x) (made : n ≡ changed_by m x) where
  pub first_change : drop i changes ≡ x ∷ drop (i + 1) changes
  first_change = drop-cons changes i x within ∙ ap (λ (y : Change). y ∷ drop (suc i) changes) (sym is) ∙ ap (λ k. x ∷ drop k changes) (sym (add-one i))

  pub can_first : CanChange m (drop i changes) → CanBeDone m x
  can_first can = (subst (λ (cs : List Change). CanChange m cs) first_change can).0

  pub can_next : CanChange m (drop i changes) → CanChange n (drop (i + 1) changes)
  can_next can = subst (λ (k : State). CanChange k (drop (i + 1) changes)) (sym made) (subst (λ (cs : List Change). CanChange m cs) first_change can).1

  pub fits_first : ChangesFit (drop i changes) → ChangeFits x
  fits_first fits = (subst (λ (cs : List Change). ChangesFit cs) first_change fits).0

  pub fits_next : ChangesFit (drop i changes) → ChangesFit (drop (i + 1) changes)
  fits_next fits = (subst (λ (cs : List Change). ChangesFit cs) first_change fits).1

  pub bounded_next : IsBounded m → CanChange m (drop i changes) → ChangesFit (drop i changes) → IsBounded n
  bounded_next bounded can fits = subst (λ (k : State). IsBounded k) (sym made) (bounds.changes m (x ∷ []) bounded (fits_first fits, tt) (can_first can, tt))

  pub changed_next : changed n (drop (i + 1) changes) ≡ changed m (drop i changes)
  changed_next = ap (λ (k : State). changed k (drop (i + 1) changes)) made ∙ sym (ap (λ (cs : List Change). changed m cs) first_change)
