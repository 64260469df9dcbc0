-- Objects whose numbers are above all that lists name: nothing names them, and none of them stands.
use Rattle.std.proofs.Common.{◌≡◌, ℕ, ◌<◌, ◌≤◌, List, [], ◌∷◌, refl, sym, subst, arith}
use Rattle.std.specs.Prelude.{Option, None}
use Rattle.std.proofs.lemmas.Bool.Decides.{nat_tests}
use Rattle.trace_types.specs.declared.slots.Slot.{Slot}
use Rattle.trace_types.specs.declared.slots.Slot.TheVariants.{Nothing, Strong, Weak, Dangling}
use Rattle.trace_types.specs.declared.slots.Holding.{Holding}
use Rattle.trace_types.specs.declared.slots.Holding.TheVariants as holding
use Rattle.trace_types.specs.declared.slots.Entry.{Entry}
use Rattle.trace_types.specs.declared.slots.Entry.TheVariants.{Alive, Husk}
use Rattle.trace_types.specs.declared.slots.Item.{Item}
use Rattle.trace_types.specs.declared.slots.Item.TheVariants as item
use Rattle.ownership_model.specs.Totals.{total_in}
use Rattle.ownership_model.specs.State.{slots_weight, items_weight, holding_weight, entry_weight, names_alike, ends, IsSoundAt}
use Rattle.ownership_model.proofs.Listed.{Lists, look, count}

abbrev pub SlotBelow : ℕ → Slot → Type 0
SlotBelow n Nothing = Unit {0}
SlotBelow n (Strong p) = p < n
SlotBelow n (Weak p) = p < n
SlotBelow n Dangling = Unit {0}

abbrev pub SlotsBelow : ℕ → List Slot → Type 0
SlotsBelow n [] = Unit {0}
SlotsBelow n (s ∷ ss) = SlotBelow n s × SlotsBelow n ss

abbrev pub HoldingBelow : ℕ → Holding → Type 0
HoldingBelow n (holding.Slot s) = SlotBelow n s
HoldingBelow n (holding.Bare fields) = SlotsBelow n fields

abbrev pub EntryBelow : ℕ → Entry → Type 0
EntryBelow n (Alive fields) = SlotsBelow n fields
EntryBelow n Husk = Unit {0}

abbrev pub AllBelow : {X : Type 0} → (X → Type 0) → List (ℕ × X) → Type 0
AllBelow P [] = Unit {0}
AllBelow P (e ∷ es) = P e.1 × AllBelow P es

abbrev pub KeysBelow : {X : Type 0} → ℕ → List (ℕ × X) → Type 0
KeysBelow n [] = Unit {0}
KeysBelow n (e ∷ es) = (e.0 < n) × KeysBelow n es

abbrev pub ItemsBelow : ℕ → List Item → Type 0
ItemsBelow n [] = Unit {0}
ItemsBelow n (item.Slot s ∷ is) = SlotBelow n s × ItemsBelow n is
ItemsBelow n (item.End o ∷ is) = (o < n) × ItemsBelow n is

pub record AreBelow (n : ℕ) (m : Lists) (pending : List Item) : Type 0 where
  pub handles : AllBelow (HoldingBelow n) m.handles
  pub cells : AllBelow (SlotBelow n) m.cells
  pub objects : AllBelow (EntryBelow n) m.objects
  pub keys : KeysBelow n m.objects
  pub items : ItemsBelow n pending

abbrev IsFar : ℕ → Slot → Type 0
IsFar n x = (s : Slot) → SlotBelow n s → names_alike x s ≡ 0

strong_far : (n o : ℕ) → n ≤ o → IsFar n (Strong o)
strong_far n o le Nothing below = refl
strong_far n o le (Strong p) below = grind (arith, nat_tests)
strong_far n o le (Weak p) below = refl
strong_far n o le Dangling below = refl

weak_far : (n o : ℕ) → n ≤ o → IsFar n (Weak o)
weak_far n o le Nothing below = refl
weak_far n o le (Strong p) below = refl
weak_far n o le (Weak p) below = grind (arith, nat_tests)
weak_far n o le Dangling below = refl

slots_none : (n : ℕ) (x : Slot) → IsFar n x → (ss : List Slot) → SlotsBelow n ss → slots_weight (names_alike x) ss ≡ 0
slots_none n x far [] below = refl
slots_none n x far (s ∷ ss) below = omega (arith, far s below.0, slots_none n x far ss below.1)

holding_none : (n : ℕ) (x : Slot) → IsFar n x → (h : Holding) → HoldingBelow n h → holding_weight (names_alike x) h ≡ 0
holding_none n x far (holding.Slot s) below = far s below
holding_none n x far (holding.Bare fields) below = slots_none n x far fields below

entry_none : (n : ℕ) (x : Slot) → IsFar n x → (e : Entry) → EntryBelow n e → entry_weight (names_alike x) e ≡ 0
entry_none n x far (Alive fields) below = slots_none n x far fields below
entry_none n x far Husk below = refl

total_none : {X : Type 0} (P : X → Type 0) (w : X → ℕ) → ((x : X) → P x → w x ≡ 0) → (es : List (ℕ × X)) → AllBelow P es → total_in w es ≡ 0
total_none P w none [] below = refl
total_none P w none (e ∷ es) below = omega (arith, none e.1 below.0, total_none P w none es below.1)

items_none : (n : ℕ) (x : Slot) → IsFar n x → (is : List Item) → ItemsBelow n is → items_weight (names_alike x) is ≡ 0
items_none n x far [] below = refl
items_none n x far (item.Slot s ∷ is) below = omega (arith, far s below.0, items_none n x far is below.1)
items_none n x far (item.End o ∷ is) below = items_none n x far is below.1

ends_none : (n o : ℕ) → n ≤ o → (is : List Item) → ItemsBelow n is → ends o is ≡ 0
ends_none n o le [] below = refl
ends_none n o le (item.Slot s ∷ is) below = ends_none n o le is below.1
ends_none n o le (item.End p ∷ is) below = let rest : ends o is ≡ 0 = ends_none n o le is below.1 in let less : p < n = below.0 in grind (arith, nat_tests)

look_none : {X : Type 0} (n o : ℕ) → n ≤ o → (es : List (ℕ × X)) → KeysBelow n es → look o es ≡ None
look_none n o le [] below = refl
look_none n o le (e ∷ es) below = let rest : look o es ≡ None = look_none n o le es below.1 in let less : e.0 < n = below.0 in grind (arith, nat_tests)

count_none : (n : ℕ) (x : Slot) → IsFar n x → (m : Lists) (pending : List Item) → AreBelow n m pending → count x m pending ≡ 0
count_none n x far m pending below = omega (
  arith,
  total_none (HoldingBelow n) (holding_weight (names_alike x)) (holding_none n x far) m.handles below.handles,
  total_none (SlotBelow n) (names_alike x) far m.cells below.cells,
  total_none (EntryBelow n) (entry_weight (names_alike x)) (entry_none n x far) m.objects below.objects,
  items_none n x far pending below.items,
)

-- an object that nothing names and that doesn't stand is sound
pub far_sound : (n : ℕ) (m : Lists) (pending : List Item) → AreBelow n m pending → (o : ℕ) → n ≤ o
    → IsSoundAt (count (Strong o) m pending) (count (Weak o) m pending) (ends o pending) (look o m.objects)
far_sound n m pending below o le =
    subst (λ (e : Option Entry). IsSoundAt (count (Strong o) m pending) (count (Weak o) m pending) (ends o pending) e) (sym (look_none n o le m.objects below.keys))
    (count_none n (Strong o) (strong_far n o le) m pending below, count_none n (Weak o) (weak_far n o le) m pending below, ends_none n o le pending below.items)
