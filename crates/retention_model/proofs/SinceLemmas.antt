-- The date of what a place holds, by one fold: over the operations it has stood there all along, or since the one that is told.
use Rattle.std.proofs.Common.{◌≡◌, ℕ, List, [], ◌∷◌, ◌++◌, refl, sym, ◌∙◌, ap, arith, inl, inr}
use Rattle.std.specs.Prelude.{◌⊎◌, Option, Some, None, Bool, true, false, ◌==◌, if◌then◌else◌}
use Rattle.std.proofs.lemmas.Bool.Decides.{nat_tests}
use Rattle.trace_types.specs.declared.slots.Slot.{Slot}
use Rattle.trace_types.specs.declared.slots.Slot.TheVariants.{Nothing, Strong, Weak, Dangling}
use Rattle.trace_types.specs.Operation.{Operation}
use Rattle.ownership_model.specs.State.{State}
use Rattle.ownership_model.specs.Step.{step, end_from}
use Rattle.retention_model.specs.declared.place.Place.{Place}
use Rattle.retention_model.specs.Places.{at}
use Rattle.retention_model.specs.Since.{IsSince, is_same_slot, is_same, dated, since_from}

same_number : (o p : ℕ) → (o == p) ≡ true → o ≡ p
same_number o p same = grind (arith, nat_tests)

number_same : (o : ℕ) → (o == o) ≡ true
number_same o = grind (arith, nat_tests)

-- slots that are told to be the same are
pub slot_same : (s t : Slot) → is_same_slot s t ≡ true → s ≡ t
slot_same Nothing Nothing same = refl
slot_same Nothing (Strong p) same = absurd cc
slot_same Nothing (Weak p) same = absurd cc
slot_same Nothing Dangling same = absurd cc
slot_same (Strong o) Nothing same = absurd cc
slot_same (Strong o) (Strong p) same = ap Strong (same_number o p same)
slot_same (Strong o) (Weak p) same = absurd cc
slot_same (Strong o) Dangling same = absurd cc
slot_same (Weak o) Nothing same = absurd cc
slot_same (Weak o) (Strong p) same = absurd cc
slot_same (Weak o) (Weak p) same = ap Weak (same_number o p same)
slot_same (Weak o) Dangling same = absurd cc
slot_same Dangling Nothing same = absurd cc
slot_same Dangling (Strong p) same = absurd cc
slot_same Dangling (Weak p) same = absurd cc
slot_same Dangling Dangling same = refl

pub same_slot : (s : Slot) → is_same_slot s s ≡ true
same_slot Nothing = refl
same_slot (Strong o) = number_same o
same_slot (Weak o) = number_same o
same_slot Dangling = refl

-- what is told to be the same is
pub is_same_sound : (a b : Option Slot) → is_same a b ≡ true → a ≡ b
is_same_sound None None same = refl
is_same_sound None (Some t) same = absurd cc
is_same_sound (Some s) None same = absurd cc
is_same_sound (Some s) (Some t) same = ap Some (slot_same s t same)

-- and what is the same is told so
pub is_same_whole : (a b : Option Slot) → a ≡ b → is_same a b ≡ true
is_same_whole None None e = refl
is_same_whole None (Some t) e = absurd cc
is_same_whole (Some s) None e = absurd cc
is_same_whole (Some s) (Some t) e = let each : s ≡ t = cc in rw each (same_slot t)

-- Of a place p and a slot s.
module _ (p : Place) (s : Slot) where
  -- the place holds the slot
  abbrev pub Holds : State → Type 0
  Holds m = at m p ≡ Some s

  -- it does after each front of the operations
  abbrev pub Stays : State → List Operation → Type 0
  Stays m ops = (some more : List Operation) → ops ≡ some ++ more → Holds (end_from m some)

  -- it has all along, and the date stands; or the date is that of the operation since which it has
  abbrev pub IsDated : State → List Operation → ℕ → ℕ → Type 0
  IsDated m ops old new = (Stays m ops × (new ≡ old)) ⊎ IsSince Holds m ops new

  stays_nowhere : (m : State) → Holds m → Stays m []
  stays_nowhere m holds [] more e = holds
  stays_nowhere m holds (x ∷ some) more e = absurd cc

  stays_before : (m : State) (op : Operation) (ops : List Operation) → Holds m → Stays (step m op).state ops → Stays m (op ∷ ops)
  stays_before m op ops holds stays [] more e = holds
  stays_before m op ops holds stays (x ∷ some) more e =
      let first : op ≡ x = cc in
      let rest : ops ≡ some ++ more = cc in
      rw (← first) (stays some more rest)

  since_before : (m : State) (op : Operation) (ops : List Operation) (id : ℕ) → IsSince Holds (step m op).state ops id → IsSince Holds m (op ∷ ops) id
  since_before m op ops id it = record {
    before = op ∷ it.before;
    op = it.op;
    later = it.later;
    split = ap (λ l. op ∷ l) it.split;
    number = it.number;
    not_before = it.not_before;
    ever_since = it.ever_since;
  }

  since_first : (m : State) (op : Operation) (ops : List Operation) → (Holds m → ⊥) → Stays (step m op).state ops → IsSince Holds m (op ∷ ops) op.id
  since_first m op ops never stays = record {
    before = [];
    op = op;
    later = ops;
    split = refl;
    number = refl;
    not_before = never;
    ever_since = stays;
  }

  -- one operation, before others over which the place holds the slot all along
  first_dated : (m : State) (op : Operation) (ops : List Operation) (old : ℕ) (same : Bool) → is_same (at m p) (at (step m op).state p) ≡ same
      → Holds (step m op).state → Stays (step m op).state ops
      → IsDated m (op ∷ ops) old (if same then old else op.id)
  first_dated m op ops old true is holds stays = inl (stays_before m op ops (is_same_sound (at m p) (at (step m op).state p) is ∙ holds) stays, refl)
  first_dated m op ops old false is holds stays =
      inr (since_first m op ops (λ held. let told = is_same_whole (at m p) (at (step m op).state p) (held ∙ sym holds) in absurd cc) stays)

  by_rest : (op : Operation) (ops : List Operation) (m : State) (old new : ℕ) → Holds (end_from (step m op).state ops)
      → IsDated (step m op).state ops (dated (at m p) (at (step m op).state p) old op.id) new → IsDated m (op ∷ ops) old new
  by_rest op ops m old new holds (inl (stays, e)) =
      rw e (first_dated m op ops old (is_same (at m p) (at (step m op).state p)) refl (stays [] ops refl) stays)
  by_rest op ops m old new holds (inr it) = inr (since_before m op ops new it)

  fold : (ops : List Operation) (m : State) (old : ℕ) → Holds (end_from m ops) → IsDated m ops old (since_from m ops p old)
  fold [] m old holds = inl (stays_nowhere m holds, refl)
  fold (op ∷ ops) m old holds =
      by_rest op ops m old (since_from m (op ∷ ops) p old) holds (fold ops (step m op).state (dated (at m p) (at (step m op).state p) old op.id) holds)

  by_end : (m : State) (ops : List Operation) (old new : ℕ) → (Holds m → ⊥) → IsDated m ops old new → IsSince Holds m ops new
  by_end m ops old new never (inl (stays, e)) = absurd (never (stays [] ops refl))
  by_end m ops old new never (inr it) = it

  pub since_holds : (m : State) (ops : List Operation) (old : ℕ) → Holds (end_from m ops) → (Holds m → ⊥) → IsSince Holds m ops (since_from m ops p old)
  since_holds m ops old holds never = by_end m ops old (since_from m ops p old) never (fold ops m old holds)
