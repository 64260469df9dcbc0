-- Objects that are alive in two states with as many fields: what their shifts tell, and what their loose fields hold.
use Rattle.std.proofs.Common.{◌≡◌, ◌≤◌, ◌<◌, ◌+◌, ◌-◌, ◌^◌, ◌++◌, ◌⊎◌, inl, inr, ℕ, zero, suc, min, List, [], ◌∷◌, length, take, get_or, refl, ap, ◌∙◌, sym, subst, arith, append_assoc, Bool, true, false}
use Rattle.std.proofs.lemmas.Bool.Decides.{nat_tests}
use Rattle.std.specs.Prelude.{map, flat_map, Option, Some, None, nat_lt, ◌==◌, ◌&&◌, ◌||◌, not, slice_get, if◌then◌else◌}
use Rattle.std.specs.List.{AllByRecursion, list_any}
use Rattle.std.specs.FinMap.{get}
use Rattle.std.proofs.lemmas.Bool.{and_parts, or_cases, or_parts, or_left, both_ways}
use Rattle.std.proofs.lemmas.List.{take_more, length-take-le}
use Rattle.std.proofs.lemmas.List.Folds.{list_any-append}
use Rattle.trace_types.specs.declared.slots.Slot.{Slot}
use Rattle.trace_types.specs.declared.slots.Slot.TheVariants.{Strong, Weak}
use Rattle.trace_types.specs.declared.slots.Entry.{Entry}
use Rattle.trace_types.specs.declared.slots.Entry.TheVariants.{Alive, Husk}
use Rattle.trace_types.specs.declared.kinds.Kind.{Kind}
use Rattle.trace_types.specs.declared.outcomes.Answer.TheVariants as answer
use Rattle.trace_types.specs.declared.outcomes.Verdict.{Verdict}
use Rattle.trace_types.specs.declared.outcomes.Verdict.TheVariants.{Did}
use Rattle.trace_types.specs.declared.outcomes.Counts.{Counts}
use Rattle.trace_types.specs.declared.outcomes.Outcome.{Outcome}
use Rattle.trace_types.specs.Operation.{Operation}
use Rattle.ownership_model.specs.State.{State, strong, weak, names_alike}
use Rattle.ownership_model.specs.declared.key.Key.TheVariants.{Object}
use Rattle.ownership_model.specs.Touched.{event_object, counted}
use Rattle.ownership_model.specs.Bounds.{max_slots}
use Rattle.ownership_model.specs.Table.{fields_of}
use Rattle.ownership_model.specs.Alike.{WeightsMoveAlike}
use Rattle.ownership_model.specs.Near.{AreFieldsNear, AreEntriesNear, asks_counts, copies_fields, field_index, AreBlind, IsBlind, recounted_counts, recounted}
use Rattle.ownership_model.proofs.Counting.{same_number}
use Rattle.object_heap.specs.declared.put.FieldPut.{FieldPut}
use Rattle.heap_difference.specs.declared.shifts.Shift.{Shift}
use Rattle.heap_difference.specs.Alikes.{shift_of, is_alike, is_loose, shifted_by, shifted, shifted_in, shifted_outcome, IsShift, AreShifts, IsSmall, HoldFields, AreOfAlikes, AreAlikes, AreAdded}
use Rattle.heap_difference.specs.Naming.{outcome_keys}
use Rattle.heap_difference.specs.Blind.{names_alike_event, did_clone, is_cloned, is_field_blind, are_small, is_blind_to, is_blind, are_blind}
use Rattle.heap_difference.proofs.Tests.{clash, itself, contrary, or_right, is_false}

-- ---- lists
-- what holds of the items of two lists holds of those of both
pub all_both : {X : Type 0} (P : X → Type 0) (xs ys : List X) → AllByRecursion P xs → AllByRecursion P ys → AllByRecursion P (xs ++ ys)
all_both P [] ys a b = b
all_both P (x ∷ xs) ys a b = (a.0, all_both P xs ys a.1 b)

-- what follows of each item
pub all_so : {X : Type 0} (P Q : X → Type 0) (xs : List X) → ((x : X) → P x → Q x) → AllByRecursion P xs → AllByRecursion Q xs
all_so P Q [] so a = tt
all_so P Q (x ∷ xs) so a = (so x a.0, all_so P Q xs so a.1)

-- no item passes
pub none_passes : {X : Type 0} (p : X → Bool) (xs : List X) → list_any p xs ≡ false → AllByRecursion (λ x. p x ≡ false) xs
none_passes p [] f = tt
none_passes p (x ∷ xs) f = let parts = or_parts (p x) (list_any p xs) f in (parts.0, none_passes p xs parts.1)

-- one that passes in front, or behind
pub any_front : {X : Type 0} (p : X → Bool) (xs ys : List X) → list_any p xs ≡ true → list_any p (xs ++ ys) ≡ true
any_front p xs ys t = list_any-append p xs ys ∙ or_left (list_any p xs) (list_any p ys) t

pub any_behind : {X : Type 0} (p : X → Bool) (xs ys : List X) → list_any p ys ≡ true → list_any p (xs ++ ys) ≡ true
any_behind p xs ys t = list_any-append p xs ys ∙ or_right (list_any p xs) (list_any p ys) t

-- an item of a longer list
get_front : {X : Type 0} (xs ys : List X) (i : ℕ) (x : X) → slice_get xs i ≡ Some x → slice_get (xs ++ ys) i ≡ Some x
get_front [] ys i x is = absurd cc
get_front (y ∷ xs) ys zero x is = is
get_front (y ∷ xs) ys (suc i) x is = get_front xs ys i x is

get_last : {X : Type 0} (xs : List X) (x : X) → slice_get (xs ++ x ∷ []) (length xs) ≡ Some x
get_last [] x = refl
get_last (y ∷ xs) x = get_last xs x

-- an item of the shorter list, where one of a list that is as long is at the same place
get_shorter : (xs ys : List Slot) (x y : Slot) (i : ℕ) → length xs ≡ length ys → slice_get ys i ≡ Some y → slice_get (xs ++ x ∷ []) i ≡ Some y → slice_get xs i ≡ Some y
get_shorter [] [] x y i as_many there is = absurd cc
get_shorter [] (z ∷ ys) x y i as_many there is = absurd (omega (arith, as_many))
get_shorter (w ∷ xs) [] x y i as_many there is = absurd (omega (arith, as_many))
get_shorter (w ∷ xs) (z ∷ ys) x y zero as_many there is = is
get_shorter (w ∷ xs) (z ∷ ys) x y (suc i) as_many there is = get_shorter xs ys x y i (omega (arith, as_many)) there is

-- ---- fields and entries
-- more of them are loose
pub less_loose : (l k : ℕ → Bool) (xs ys : List Slot) → ((i : ℕ) → l i ≡ true → k i ≡ true) → AreFieldsNear l xs ys → AreFieldsNear k xs ys
less_loose l k [] [] more near = tt
less_loose l k [] (y ∷ ys) more near = near
less_loose l k (x ∷ xs) [] more near = near
less_loose l k (x ∷ xs) (y ∷ ys) more near = (λ f. near.0 (contrary (l 0) (k 0) (more 0) f), less_loose (λ i. l (suc i)) (λ i. k (suc i)) xs ys (λ i. more (suc i)) near.1)

-- near to what is near
pub near_through : (k : ℕ → Bool) (xs ys zs : List Slot) → AreFieldsNear k xs ys → AreFieldsNear k ys zs → AreFieldsNear k xs zs
near_through k [] [] zs a b = b
near_through k [] (y ∷ ys) zs a b = absurd a
near_through k (x ∷ xs) [] zs a b = absurd a
near_through k (x ∷ xs) (y ∷ ys) [] a b = absurd b
near_through k (x ∷ xs) (y ∷ ys) (z ∷ zs) a b = (λ f. a.0 f ∙ b.0 f, near_through (λ i. k (suc i)) xs ys zs a.1 b.1)

-- so it is of entries
pub less_loose_entry : (l k : ℕ → Bool) (e f : Option Entry) → ((i : ℕ) → l i ≡ true → k i ≡ true) → AreEntriesNear l e f → AreEntriesNear k e f
less_loose_entry l k (Some (Alive xs)) (Some (Alive ys)) more near = less_loose l k xs ys more near
less_loose_entry l k (Some (Alive xs)) (Some Husk) more near = near
less_loose_entry l k (Some (Alive xs)) None more near = near
less_loose_entry l k (Some Husk) f more near = near
less_loose_entry l k None f more near = near

pub near_entry_through : (k : ℕ → Bool) (e f g : Option Entry) → AreEntriesNear k e f → AreEntriesNear k f g → AreEntriesNear k e g
near_entry_through k (Some (Alive xs)) (Some (Alive ys)) (Some (Alive zs)) a b = near_through k xs ys zs a b
near_entry_through k (Some (Alive xs)) (Some (Alive ys)) (Some Husk) a b = b
near_entry_through k (Some (Alive xs)) (Some (Alive ys)) None a b = b
near_entry_through k (Some (Alive xs)) (Some Husk) g a b = absurd a
near_entry_through k (Some (Alive xs)) None g a b = absurd a
near_entry_through k (Some Husk) f g a b = a
near_entry_through k None f g a b = a

-- one more field at the end
near_more : (k : ℕ → Bool) (xs ys : List Slot) (x y : Slot) → AreFieldsNear k xs ys → (k (length xs) ≡ false → x ≡ y) → AreFieldsNear k (xs ++ x ∷ []) (ys ++ y ∷ [])
near_more k [] [] x y near same = (same, tt)
near_more k [] (z ∷ ys) x y near same = absurd near
near_more k (w ∷ xs) [] x y near same = absurd near
near_more k (w ∷ xs) (z ∷ ys) x y near same = (near.0, near_more (λ i. k (suc i)) xs ys x y near.1 same)

-- ---- operations that read only what is the same
-- what isn't copied, whatever the verdict
not_copied : (k : Kind) (v : Verdict) → not (is_cloned k v) ≡ true → copies_fields k ≡ true → v ≡ Did answer.Cloned → ⊥
not_copied k v not_so copies is =
    clash (is_cloned k v) (ap (λ u. copies_fields k && did_clone u) is ∙ ap (λ b. b && true) copies) (is_false (is_cloned k v) not_so)

-- what an operation reads of one of the objects
blind_reads : (a s b f : Bool) → (not a || (s && (not b && f))) ≡ true → a ≡ true → (s ≡ true) × (b ≡ false) × (f ≡ true)
blind_reads true true true f t is = absurd cc
blind_reads true true false f t is = (refl, refl, t)
blind_reads true false b f t is = absurd cc
blind_reads false s b f t is = absurd cc

reads_of : (shifts : List Shift) (fields : List FieldPut) (k : Kind) (o : Option Counts) (c : Counts) → o ≡ Some c → is_blind_to shifts fields k o ≡ true → is_alike shifts c.object ≡ true
    → (are_small c ≡ true) × (asks_counts k ≡ false) × (is_field_blind fields c.object (field_index k) ≡ true)
reads_of shifts fields k o c told blind_to alike =
    blind_reads (is_alike shifts c.object) (are_small c) (asks_counts k) (is_field_blind fields c.object (field_index k)) (subst (λ x. is_blind_to shifts fields k x ≡ true) told blind_to) alike

pub is_blind_is : (shifts : List Shift) (fields : List FieldPut) (op : Operation) (x : Outcome) → is_blind shifts fields op x ≡ true → IsBlind (is_alike shifts) (is_loose fields) op x
is_blind_is shifts fields op x blind =
    let parts = and_parts (not (list_any (names_alike_event shifts) x.events)) (not (is_cloned op.kind x.verdict) && is_blind_to shifts fields op.kind x.counts) blind in
    let rest = and_parts (not (is_cloned op.kind x.verdict)) (is_blind_to shifts fields op.kind x.counts) parts.1 in
    record {
      events = none_passes (names_alike_event shifts) x.events (is_false (list_any (names_alike_event shifts) x.events) parts.0);
      copied = not_copied op.kind x.verdict rest.0;
      counts = λ c told alike. (reads_of shifts fields op.kind x.counts c told rest.1 alike).1;
      fields = λ c i told alike index. is_false (is_loose fields c.object i) (subst (λ o. is_field_blind fields c.object o ≡ true) index (reads_of shifts fields op.kind x.counts c told rest.1 alike).2);
    }

-- so it is of operations with their outcomes
pub are_blind_is : (shifts : List Shift) (fields : List FieldPut) (ops : List Operation) (xs : List Outcome) → are_blind shifts fields ops xs ≡ true → AreBlind (is_alike shifts) (is_loose fields) ops xs
are_blind_is shifts fields [] xs blind = tt
are_blind_is shifts fields (op ∷ ops) [] blind = tt
are_blind_is shifts fields (op ∷ ops) (x ∷ xs) blind =
    let parts = and_parts (is_blind shifts fields op x) (are_blind shifts fields ops xs) blind in
    (is_blind_is shifts fields op x parts.0, are_blind_is shifts fields ops xs parts.1)

-- the counts that an outcome tells of one of the objects may be told with others added
abbrev pub TellsSmall : List Shift → Outcome → Type 0
TellsSmall shifts x = (c : Counts) → x.counts ≡ Some c → is_alike shifts c.object ≡ true → are_small c ≡ true

pub tell_small : (shifts : List Shift) (fields : List FieldPut) (ops : List Operation) (xs : List Outcome) → length ops ≡ length xs → are_blind shifts fields ops xs ≡ true → AllByRecursion (TellsSmall shifts) xs
tell_small shifts fields [] [] same blind = tt
tell_small shifts fields [] (x ∷ xs) same blind = absurd (omega (arith, same))
tell_small shifts fields (op ∷ ops) [] same blind = absurd (omega (arith, same))
tell_small shifts fields (op ∷ ops) (x ∷ xs) same blind =
    let parts = and_parts (is_blind shifts fields op x) (are_blind shifts fields ops xs) blind in
    let rest = and_parts (not (list_any (names_alike_event shifts) x.events)) (not (is_cloned op.kind x.verdict) && is_blind_to shifts fields op.kind x.counts) parts.0 in
    let last = and_parts (not (is_cloned op.kind x.verdict)) (is_blind_to shifts fields op.kind x.counts) rest.1 in
    (λ c told alike. (reads_of shifts fields op.kind x.counts c told last.1 alike).0, tell_small shifts fields ops xs (omega (arith, same)) parts.1)

-- ---- shifts
-- the shift of an object that has one: its counts differ so, and they are small
pub record IsShiftOf (shifts : List Shift) (old new : State) (o : ℕ) (s : Shift) : Type 0 where
  pub is : shift_of shifts o ≡ Some s
  pub strongs : strong new [] o + s.old_strong ≡ strong old [] o + s.new_strong
  pub weaks : weak new [] o + s.old_weak ≡ weak old [] o + s.new_weak
  pub small : IsSmall s

pub shift_there : (shifts : List Shift) (old new : State) (o : ℕ) → is_alike shifts o ≡ true → AreShifts shifts old new → AllByRecursion IsSmall shifts → (s : Shift) × IsShiftOf shifts old new o s
shift_there [] old new o alike are small = absurd cc
shift_there (s ∷ shifts) old new o alike are small = at (s.object == o) refl (λ rest. shift_there shifts old new o rest are.1 small.1)
  where
    at : (b : Bool) → (s.object == o) ≡ b → (is_alike shifts o ≡ true → (r : Shift) × IsShiftOf shifts old new o r) → (r : Shift) × IsShiftOf (s ∷ shifts) old new o r
    at true e next = (
      s,
      record {
        is = ap (λ b. if b then Some s else shift_of shifts o) e;
        strongs = subst (λ p. strong new [] p + s.old_strong ≡ strong old [] p + s.new_strong) (same_number s.object o e) are.0.strongs;
        weaks = subst (λ p. weak new [] p + s.old_weak ≡ weak old [] p + s.new_weak) (same_number s.object o e) are.0.weaks;
        small = small.0;
      },
    )
    at false e next =
        let found = next (sym (ap (λ b. b || is_alike shifts o) e) ∙ alike) in
        (found.0, record { is = ap (λ b. if b then Some s else shift_of shifts o) e ∙ found.1.is; strongs = found.1.strongs; weaks = found.1.weaks; small = found.1.small })

-- others have none
pub no_shift : (shifts : List Shift) (o : ℕ) → is_alike shifts o ≡ false → shift_of shifts o ≡ None
no_shift [] o f = refl
no_shift (s ∷ shifts) o f =
    let parts = or_parts (s.object == o) (is_alike shifts o) f in
    ap (λ b. if b then Some s else shift_of shifts o) parts.0 ∙ no_shift shifts o parts.1

-- the counts of an object, one number each
abbrev counts_of : (o s w : ℕ) → Counts
counts_of o s w = record { object = o; strong = s; weak = w }

-- a count within the limits is told right
told_right : (told old new before now : ℕ) → told < 2 ^ 62 → before ≤ max_slots → now ≤ max_slots → new + before ≡ old + now → min (told + now) (2 ^ 64 - 1) - before ≡ told + new - old
told_right told old new before now a b c moved = omega arith

told_same : (told old new : ℕ) → old ≡ new → told ≡ told + new - old
told_same told old new same = omega arith

-- the counts that are told within the limits, where those of objects with no shift are the same in both states
pub record AreTold (shifts : List Shift) (old new : State) (c : Counts) : Type 0 where
  pub fits : is_alike shifts c.object ≡ true → are_small c ≡ true
  pub same : is_alike shifts c.object ≡ false → (strong old [] c.object ≡ strong new [] c.object) × (weak old [] c.object ≡ weak new [] c.object)

small_counts : (c : Counts) → are_small c ≡ true → (c.strong < 2 ^ 62) × (c.weak < 2 ^ 62)
small_counts c small =
    let parts = and_parts (nat_lt c.strong (2 ^ 62)) (nat_lt c.weak (2 ^ 62)) small in
    let first = parts.0 in
    let second = parts.1 in
    (grind (arith, nat_tests), grind (arith, nat_tests))

-- counts are told right
told_counts : (shifts : List Shift) (old new : State) (c : Counts) → AreShifts shifts old new → AllByRecursion IsSmall shifts → AreTold shifts old new c
    → shifted shifts c ≡ counts_of c.object (c.strong + strong new [] c.object - strong old [] c.object) (c.weak + weak new [] c.object - weak old [] c.object)
told_counts shifts old new c are small told = at (is_alike shifts c.object) refl
  where
    at : (b : Bool) → is_alike shifts c.object ≡ b → shifted shifts c ≡ counts_of c.object (c.strong + strong new [] c.object - strong old [] c.object) (c.weak + weak new [] c.object - weak old [] c.object)
    at true e =
        let there = shift_there shifts old new c.object e are small in
        let fits = small_counts c (told.fits e) in
        ap (λ s. shifted_by s c) there.1.is
        ∙ ap (λ n. counts_of c.object n (min (c.weak + there.0.new_weak) (2 ^ 64 - 1) - there.0.old_weak))
        (told_right c.strong (strong old [] c.object) (strong new [] c.object) there.0.old_strong there.0.new_strong fits.0 there.1.small.old_strong there.1.small.new_strong there.1.strongs)
        ∙ ap (λ n. counts_of c.object (c.strong + strong new [] c.object - strong old [] c.object) n)
        (told_right c.weak (weak old [] c.object) (weak new [] c.object) there.0.old_weak there.0.new_weak fits.1 there.1.small.old_weak there.1.small.new_weak there.1.weaks)
    at false e =
        let same = told.same e in
        ap (λ s. shifted_by s c) (no_shift shifts c.object e)
        ∙ ap (λ n. counts_of c.object n c.weak) (told_same c.strong (strong old [] c.object) (strong new [] c.object) same.0)
        ∙ ap (λ n. counts_of c.object (c.strong + strong new [] c.object - strong old [] c.object) n) (told_same c.weak (weak old [] c.object) (weak new [] c.object) same.1)

told_option : (shifts : List Shift) (old new : State) (o : Option Counts) → AreShifts shifts old new → AllByRecursion IsSmall shifts → ((c : Counts) → o ≡ Some c → AreTold shifts old new c)
    → shifted_in shifts o ≡ recounted_counts old new o
told_option shifts old new None are small told = refl
told_option shifts old new (Some c) are small told = ap (λ x. Some x) (told_counts shifts old new c are small (told c refl))

-- an outcome within the limits is told from the new state as its shifts say
pub shifted_is : (shifts : List Shift) (old new : State) (x : Outcome) → AreShifts shifts old new → AllByRecursion IsSmall shifts
    → TellsSmall shifts x
    → ((c : Counts) → x.counts ≡ Some c → is_alike shifts c.object ≡ false → (strong old [] c.object ≡ strong new [] c.object) × (weak old [] c.object ≡ weak new [] c.object))
    → shifted_outcome shifts x ≡ recounted old new x
shifted_is shifts old new x are small fits same =
    ap (λ o. record x { counts = o }) (told_option shifts old new x.counts are small (λ c is. record { fits = fits c is; same = same c is }))

-- they name the same objects
same_object : (o : Option Shift) (c : Counts) → (shifted_by o c).object ≡ c.object
same_object None c = refl
same_object (Some s) c = refl

same_counted : (shifts : List Shift) (o : Option Counts) → counted (shifted_in shifts o) ≡ counted o
same_counted shifts None = refl
same_counted shifts (Some c) = ap (λ n. n ∷ []) (same_object (shift_of shifts c.object) c)

pub same_names : (shifts : List Shift) (xs : List Outcome) → flat_map outcome_keys (map (shifted_outcome shifts) xs) ≡ flat_map outcome_keys xs
same_names shifts [] = refl
same_names shifts (x ∷ xs) = λ i. map Object (map event_object x.events ++ same_counted shifts x.counts i) ++ same_names shifts xs i

-- a shift stays one where both states change by as much
shift_on : (s : Shift) (old later_old new later_new : State) → WeightsMoveAlike old later_old new later_new → IsShift s old new → IsShift s later_old later_new
shift_on s old later_old new later_new moves is = record {
  strongs = let moved = moves (names_alike (Strong s.object)) in let there = is.strongs in omega arith;
  weaks = let moved = moves (names_alike (Weak s.object)) in let there = is.weaks in omega arith;
}

pub shifts_on : (shifts : List Shift) (old later_old new later_new : State) → AreShifts shifts old new → WeightsMoveAlike old later_old new later_new → AreShifts shifts later_old later_new
shifts_on shifts old later_old new later_new are moves = all_so (λ s. IsShift s old new) (λ s. IsShift s later_old later_new) shifts (λ s. shift_on s old later_old new later_new moves) are

-- ---- fields
-- what is loose in the rest of a list is loose in all of it
loose_first : (f : FieldPut) (fields : List FieldPut) → is_loose (f ∷ fields) f.object f.index ≡ true
loose_first f fields = or_left ((f.object == f.object) && (f.index == f.index)) (is_loose fields f.object f.index) (ap (λ b. b && (f.index == f.index)) (itself f.object) ∙ itself f.index)

-- where what is loose in one list is loose in another one, each of its items is
pub each_loose : (p : ℕ → Bool) (fields others : List FieldPut) → ((o i : ℕ) → is_loose others o i ≡ true → p o ≡ true → is_loose fields o i ≡ true) → AllByRecursion (λ f. p f.object ≡ true → is_loose fields f.object f.index ≡ true) others
each_loose p fields [] so = tt
each_loose p fields (f ∷ others) so = (so f.object f.index (loose_first f others), each_loose p fields others (λ o i loose. so o i (or_right ((f.object == o) && (f.index == i)) (is_loose others o i) loose)))

-- the fields hold this later, where what is loose stays
fields_stay : (shifts : List Shift) (fields some : List FieldPut) (m later : State) → ((o i : ℕ) → is_loose some o i ≡ true → is_loose fields o i ≡ true) → AreOfAlikes shifts some → HoldFields some m
    → ((o i : ℕ) → is_alike shifts o ≡ true → is_loose fields o i ≡ true → slice_get (fields_of (get later.objects o)) i ≡ slice_get (fields_of (get m.objects o)) i) → HoldFields some later
fields_stay shifts fields [] m later more own hold stay = tt
fields_stay shifts fields (f ∷ some) m later more own hold stay = (
  stay f.object f.index own.0 (more f.object f.index (loose_first f some)) ∙ hold.0,
  fields_stay shifts fields some m later (λ o i loose. more o i (or_right ((f.object == o) && (f.index == i)) (is_loose some o i) loose)) own.1 hold.1 stay,
)

pub fields_on : (shifts : List Shift) (fields : List FieldPut) (m later : State) → AreOfAlikes shifts fields → HoldFields fields m
    → ((o i : ℕ) → is_alike shifts o ≡ true → is_loose fields o i ≡ true → slice_get (fields_of (get later.objects o)) i ≡ slice_get (fields_of (get m.objects o)) i) → HoldFields fields later
fields_on shifts fields m later own hold stay = fields_stay shifts fields fields m later (λ o i loose. loose) own hold stay

-- ---- what is gathered
-- the fields that were seen hold what they held
hold_more : (seen : List Slot) (s : Slot) (added : List FieldPut) → AllByRecursion (λ f. slice_get seen f.index ≡ Some f.slot) added → AllByRecursion (λ f. slice_get (seen ++ s ∷ []) f.index ≡ Some f.slot) added
hold_more seen s added = all_so (λ f. slice_get seen f.index ≡ Some f.slot) (λ f. slice_get (seen ++ s ∷ []) f.index ≡ Some f.slot) added (λ f. get_front seen (s ∷ []) f.index f.slot)

-- they held something else before
differ_more : (was is : List Slot) (s : Slot) (added : List FieldPut) → length was ≡ length is → AllByRecursion (λ f. slice_get is f.index ≡ Some f.slot) added
    → AllByRecursion (λ f. slice_get was f.index ≡ Some f.slot → ⊥) added → AllByRecursion (λ f. slice_get (was ++ s ∷ []) f.index ≡ Some f.slot → ⊥) added
differ_more was is s [] as_many holds differ = tt
differ_more was is s (f ∷ added) as_many holds differ = (
  λ same. differ.0 (get_shorter was is s f.slot f.index as_many holds.0 same),
  differ_more was is s added as_many holds.1 differ.1,
)

-- a field that is the same
same_more : (o : ℕ) (was is : List Slot) (s t : Slot) (old new : List FieldPut) → length was ≡ length is → s ≡ t → AreAdded o was is old new → AreAdded o (was ++ s ∷ []) (is ++ t ∷ []) old new
same_more o was is s t old new as_many same so_far = record {
  added = so_far.added;
  new_is = so_far.new_is;
  own = so_far.own;
  holds = hold_more is t so_far.added so_far.holds;
  differ = differ_more was is s so_far.added as_many so_far.holds so_far.differ;
  near = near_more (is_loose so_far.added o) was is s t so_far.near (λ _. same);
}

-- a field that joins them
put_more : (o : ℕ) (was is : List Slot) (s t : Slot) (old new : List FieldPut) (p : FieldPut) → p.object ≡ o → p.index ≡ length was → length was ≡ length is → p.slot ≡ t → (s ≡ t → ⊥)
    → AreAdded o was is old new → AreAdded o (was ++ s ∷ []) (is ++ t ∷ []) old (new ++ p ∷ [])
put_more o was is s t old new p its at as_many slot other so_far = record {
  added = so_far.added ++ p ∷ [];
  new_is = ap (λ ps. ps ++ p ∷ []) so_far.new_is ∙ append_assoc old so_far.added (p ∷ []);
  own = all_both (λ f. f.object ≡ o) so_far.added (p ∷ []) so_far.own (its, tt);
  holds = all_both (λ f. slice_get (is ++ t ∷ []) f.index ≡ Some f.slot) so_far.added (p ∷ []) (hold_more is t so_far.added so_far.holds)
      (ap (slice_get (is ++ t ∷ [])) (at ∙ as_many) ∙ get_last is t ∙ ap (λ x. Some x) (sym slot), tt);
  differ = all_both (λ f. slice_get (was ++ s ∷ []) f.index ≡ Some f.slot → ⊥) so_far.added (p ∷ []) (differ_more was is s so_far.added as_many so_far.holds so_far.differ)
      (λ same. put_differs (sym (get_last was s) ∙ ap (slice_get (was ++ s ∷ [])) (sym at) ∙ same ∙ ap (λ x. Some x) slot), tt);
  near = near_more (is_loose (so_far.added ++ p ∷ []) o) was is s t
      (less_loose (is_loose so_far.added o) (is_loose (so_far.added ++ p ∷ []) o) was is (λ i. any_front (λ f. (f.object == o) && (f.index == i)) so_far.added (p ∷ [])) so_far.near)
      (λ f. absurd (both_ways (is_loose (so_far.added ++ p ∷ []) o (length was)) f loose));
}
  where
    put_differs : Some s ≡ Some t → ⊥
    put_differs same = other cc

    loose : is_loose (so_far.added ++ p ∷ []) o (length was) ≡ true
    loose = any_behind (λ f. (f.object == o) && (f.index == length was)) so_far.added (p ∷ [])
        (subst (λ x. is_loose (p ∷ []) x (length was) ≡ true) its (subst (λ x. is_loose (p ∷ []) p.object x ≡ true) at (loose_first p [])))

-- one field more of each
pub added_same : (o : ℕ) (before fields : List Slot) (i : ℕ) (d : Slot) (old new : List FieldPut) → i < length before → i < length fields → get_or before i d ≡ get_or fields i d
    → AreAdded o (take i before) (take i fields) old new → AreAdded o (take (i + 1) before) (take (i + 1) fields) old new
added_same o before fields i d old new a b same so_far =
    let first : length (take i before) ≡ i = length-take-le i before (omega arith) in
    let second : length (take i fields) ≡ i = length-take-le i fields (omega arith) in
    subst (λ xs. AreAdded o xs (take (i + 1) fields) old new) (sym (take_more before i d a))
    (subst (λ ys. AreAdded o (take i before ++ get_or before i d ∷ []) ys old new) (sym (take_more fields i d b))
    (same_more o (take i before) (take i fields) (get_or before i d) (get_or fields i d) old new (first ∙ sym second) same so_far))

pub added_put : (o : ℕ) (before fields : List Slot) (i : ℕ) (d : Slot) (old new : List FieldPut) (p : FieldPut) → i < length before → i < length fields → p.object ≡ o → p.index ≡ i → p.slot ≡ get_or fields i d → (get_or before i d ≡ get_or fields i d → ⊥)
    → AreAdded o (take i before) (take i fields) old new → AreAdded o (take (i + 1) before) (take (i + 1) fields) old (new ++ p ∷ [])
added_put o before fields i d old new p a b its at slot other so_far =
    let first : length (take i before) ≡ i = length-take-le i before (omega arith) in
    let second : length (take i fields) ≡ i = length-take-le i fields (omega arith) in
    subst (λ xs. AreAdded o xs (take (i + 1) fields) old (new ++ p ∷ [])) (sym (take_more before i d a))
    (subst (λ ys. AreAdded o (take i before ++ get_or before i d ∷ []) ys old (new ++ p ∷ [])) (sym (take_more fields i d b))
    (put_more o (take i before) (take i fields) (get_or before i d) (get_or fields i d) old new p its (at ∙ sym first) (first ∙ sym second) slot other so_far))

-- an object joins them
pub alikes_more : (shifts : List Shift) (fields all : List FieldPut) (old new : State) (s : Shift) (before now : List Slot) → get old.objects s.object ≡ Some (Alive before) → get new.objects s.object ≡ Some (Alive now)
    → IsShift s old new → IsSmall s → AreAdded s.object before now fields all → AreAlikes shifts fields old new → AreAlikes (shifts ++ s ∷ []) all old new
alikes_more shifts fields all old new s before now was is moved small joined so_far =
    subst (λ fs. AreAlikes (shifts ++ s ∷ []) fs old new) (sym joined.new_is) (record {
      near = λ o alike. near_at o (or_cases (is_alike shifts o) (is_alike (s ∷ []) o) (sym (list_any-append (λ r. r.object == o) shifts (s ∷ [])) ∙ alike));
      counts = all_both (λ r. IsShift r old new) shifts (s ∷ []) so_far.counts (moved, tt);
      small = all_both IsSmall shifts (s ∷ []) so_far.small (small, tt);
      holds = all_both (λ f. slice_get (fields_of (get new.objects f.object)) f.index ≡ Some f.slot) fields joined.added so_far.holds (held joined.added joined.own joined.holds);
      own = all_both (λ f. is_alike (shifts ++ s ∷ []) f.object ≡ true) fields joined.added
          (all_so (λ f. is_alike shifts f.object ≡ true) (λ f. is_alike (shifts ++ s ∷ []) f.object ≡ true) fields (λ f. any_front (λ r. r.object == f.object) shifts (s ∷ [])) so_far.own)
          (all_so (λ f. f.object ≡ s.object) (λ f. is_alike (shifts ++ s ∷ []) f.object ≡ true) joined.added (λ f its. itself_there f.object (sym its)) joined.own);
    })
  where
    held : (added : List FieldPut) → AllByRecursion (λ f. f.object ≡ s.object) added → AllByRecursion (λ f. slice_get now f.index ≡ Some f.slot) added
        → AllByRecursion (λ f. slice_get (fields_of (get new.objects f.object)) f.index ≡ Some f.slot) added
    held [] own holds = tt
    held (f ∷ added) own holds = (ap (λ o. slice_get (fields_of (get new.objects o)) f.index) own.0 ∙ ap (λ e. slice_get (fields_of e) f.index) is ∙ holds.0, held added own.1 holds.1)

    itself_there : (o : ℕ) → s.object ≡ o → is_alike (shifts ++ s ∷ []) o ≡ true
    itself_there o same = any_behind (λ r. r.object == o) shifts (s ∷ []) (or_left (s.object == o) false (ap (λ x. x == o) same ∙ itself o))

    near_here : (o : ℕ) → s.object ≡ o → AreEntriesNear (is_loose (fields ++ joined.added) o) (get old.objects o) (get new.objects o)
    near_here o same =
        subst (λ x. AreEntriesNear (is_loose (fields ++ joined.added) x) (get old.objects x) (get new.objects x)) same
        (subst (λ e. AreEntriesNear (is_loose (fields ++ joined.added) s.object) e (get new.objects s.object)) (sym was)
        (subst (λ e. AreEntriesNear (is_loose (fields ++ joined.added) s.object) (Some (Alive before)) e) (sym is)
        (less_loose (is_loose joined.added s.object) (is_loose (fields ++ joined.added) s.object) before now (λ i. any_behind (λ f. (f.object == s.object) && (f.index == i)) fields joined.added) joined.near)))

    near_at : (o : ℕ) → (is_alike shifts o ≡ true) ⊎ (is_alike (s ∷ []) o ≡ true) → AreEntriesNear (is_loose (fields ++ joined.added) o) (get old.objects o) (get new.objects o)
    near_at o (inl alike) =
        less_loose_entry (is_loose fields o) (is_loose (fields ++ joined.added) o) (get old.objects o) (get new.objects o) (λ i. any_front (λ f. (f.object == o) && (f.index == i)) fields joined.added) (so_far.near o alike)
    near_at o (inr alike) = near_here o (same_number s.object o (alone (s.object == o) alike))
      where
        alone : (b : Bool) → (b || false) ≡ true → b ≡ true
        alone true t = refl
        alone false t = t

-- operations or outcomes that have come to their end
pub blind_end : (shifts : List Shift) (fields : List FieldPut) (ops : List Operation) (xs : List Outcome) → (length ops ≡ 0) ⊎ (length xs ≡ 0) → true ≡ are_blind shifts fields ops xs
blind_end shifts fields [] xs e = refl
blind_end shifts fields (op ∷ ops) [] e = refl
blind_end shifts fields (op ∷ ops) (x ∷ xs) (inl e) = absurd (omega (arith, e))
blind_end shifts fields (op ∷ ops) (x ∷ xs) (inr e) = absurd (omega (arith, e))

-- how the counts of an object differ between two states
abbrev pub shift_between : State → State → ℕ → Shift
shift_between old new o = record { object = o; old_strong = strong old [] o; new_strong = strong new [] o; old_weak = weak old [] o; new_weak = weak new [] o }
