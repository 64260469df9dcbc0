-- The holders of an object are the fields that name it by a strong slot.
use Rattle.std.proofs.Common.{◌≡◌, ℕ, zero, suc, ◌+◌, ◌<◌, List, [], ◌∷◌, ◌++◌, refl, ap, ◌∙◌, sym, arith, Bool, true, false}
use Rattle.std.specs.Prelude.{◌==◌, ◌&&◌, ◌||◌, Option, Some, None, slice_get, is_some, if◌then◌else◌}
use Rattle.std.proofs.lemmas.Bool.Decides.{nat_tests}
use Rattle.std.specs.FinMap.{get, keys, contains_key-keys}
use Rattle.trace_types.specs.declared.slots.Slot.{Slot}
use Rattle.trace_types.specs.declared.slots.Slot.TheVariants.{Nothing, Strong, Weak, Dangling}
use Rattle.trace_types.specs.declared.slots.Entry.{Entry}
use Rattle.trace_types.specs.declared.slots.Entry.TheVariants.{Alive, Husk}
use Rattle.ownership_model.specs.State.{State}
use Rattle.ownership_model.specs.declared.leaks.Holder.{Holder}
use Rattle.ownership_model.specs.Reach.{has}
use Rattle.ownership_model.specs.Leaks.{holds, fields_holding, entry_holding, holders_in}
use Rattle.ownership_model.proofs.Searching.{has_as_any}
use Rattle.ownership_model.proofs.LeakLemmas.{and_right}
use Rattle.ownership_model.specs.ReachLaws.{has_holder, HoldsAt, HoldersHold}

-- whether the slot at i holds o
abbrev pub holds_at : ℕ → List Slot → ℕ → Bool
holds_at o [] i = false
holds_at o (s ∷ ss) zero = holds o s
holds_at o (s ∷ ss) (suc i) = holds_at o ss i

abbrev pub entry_holds : ℕ → ℕ → Option Entry → Bool
entry_holds o i None = false
entry_holds o i (Some Husk) = false
entry_holds o i (Some (Alive fields)) = holds_at o fields i

with_first : (o p n q i : ℕ) (s : Slot) (ss : List Slot) → has_holder q i (fields_holding o p n (s ∷ ss)) ≡ ((holds o s && (p == q && n == i)) || has_holder q i (fields_holding o p (n + 1) ss))
with_first o p n q i s ss =
    elim (holds o s) as (λ b. has_holder q i (if b then record { object = p; field = n } ∷ fields_holding o p (n + 1) ss else fields_holding o p (n + 1) ss) ≡ ((b && (p == q && n == i)) || has_holder q i (fields_holding o p (n + 1) ss))) [
      | true ↦ refl
      | false ↦ refl
    ]

-- no field before the first is told
none_before : (o p n q i : ℕ) (ss : List Slot) → i < n → has_holder q i (fields_holding o p n ss) ≡ false
none_before o p n q i [] h = refl
none_before o p n q i (s ∷ ss) h = let e : has_holder q i (fields_holding o p n (s ∷ ss)) ≡ ((holds o s && (p == q && n == i)) || has_holder q i (fields_holding o p (n + 1) ss)) = with_first o p n q i s ss in e ∙ grind (arith, nat_tests, none_before o p (n + 1) q i ss (omega arith))

told_field : (o p n q i j : ℕ) (ss : List Slot) → i ≡ n + j → has_holder q i (fields_holding o p n ss) ≡ ((p == q) && holds_at o ss j)
told_field o p n q i j [] e = grind (arith, nat_tests)
told_field o p n q i zero (s ∷ ss) e = with_first o p n q i s ss ∙ grind (arith, nat_tests, none_before o p (n + 1) q i ss (omega arith))
told_field o p n q i (suc j) (s ∷ ss) e = with_first o p n q i s ss ∙ grind (arith, nat_tests, told_field o p (n + 1) q i j ss (omega arith))

told_entry : (o p q i : ℕ) (e : Option Entry) → has_holder q i (entry_holding o p e) ≡ ((p == q) && entry_holds o i e)
told_entry o p q i None = grind (arith, nat_tests)
told_entry o p q i (Some Husk) = grind (arith, nat_tests)
told_entry o p q i (Some (Alive fields)) = told_field o p 0 q i i fields (omega arith)

has_holder-append : (q i : ℕ) (xs ys : List Holder) → has_holder q i (xs ++ ys) ≡ (has_holder q i xs || has_holder q i ys)
has_holder-append q i [] ys = refl
has_holder-append q i (x ∷ xs) ys = grind (arith, nat_tests, has_holder-append q i xs ys)

here : (m : State) (o p q i : ℕ) → p ≡ q → has_holder q i (entry_holding o p (get m.objects p)) ≡ entry_holds o i (get m.objects q)
here m o p q i e =
    let t : (p == q) ≡ true = grind (arith, nat_tests, e) in
    told_entry o p q i (get m.objects p) ∙ ap (λ b. b && entry_holds o i (get m.objects p)) t ∙ ap (λ x. entry_holds o i (get m.objects x)) e

either_one : (x y t k h : Bool) → t ≡ true → x ≡ h → y ≡ (k && h) → (x || y) ≡ ((t || k) && h)
either_one x y true true true e f g = grind (arith, f, g)
either_one x y true true false e f g = grind (arith, f, g)
either_one x y true false true e f g = grind (arith, f, g)
either_one x y true false false e f g = grind (arith, f, g)
either_one x y false k h e f g = absurd cc

other_one : (x y t k h : Bool) → t ≡ false → x ≡ false → y ≡ (k && h) → (x || y) ≡ ((t || k) && h)
other_one x y true k h e f g = absurd cc
other_one x y false k h e f g = ap (λ b. b || y) f ∙ g

told_any : (m : State) (o q i : ℕ) (ps : List ℕ) → has_holder q i (holders_in m ps o) ≡ (has q ps && entry_holds o i (get m.objects q))
told_any m o q i [] = refl
told_any m o q i (p ∷ ps) =
    has_holder-append q i (entry_holding o p (get m.objects p)) (holders_in m ps o)
    ∙ elim (p == q) as (λ b. (p == q) ≡ b → (has_holder q i (entry_holding o p (get m.objects p)) || has_holder q i (holders_in m ps o)) ≡ (has q (p ∷ ps) && entry_holds o i (get m.objects q))) [
      | true ↦ λ t. either_one (has_holder q i (entry_holding o p (get m.objects p))) (has_holder q i (holders_in m ps o)) (p == q) (has q ps) (entry_holds o i (get m.objects q)) t (here m o p q i (grind (arith, nat_tests, t))) (told_any m o q i ps)
      | false ↦ λ t. other_one (has_holder q i (entry_holding o p (get m.objects p))) (has_holder q i (holders_in m ps o)) (p == q) (has q ps) (entry_holds o i (get m.objects q)) t (told_entry o p q i (get m.objects p) ∙ ap (λ b. b && entry_holds o i (get m.objects p)) t) (told_any m o q i ps)
    ] refl

fields_hold : (o i : ℕ) (ss : List Slot) → holds_at o ss i ≡ true → slice_get ss i ≡ Some (Strong o)
fields_hold o i [] h = absurd cc
fields_hold o zero (Strong p ∷ ss) h = grind (arith, nat_tests, h)
fields_hold o zero (Weak p ∷ ss) h = absurd cc
fields_hold o zero (Nothing ∷ ss) h = absurd cc
fields_hold o zero (Dangling ∷ ss) h = absurd cc
fields_hold o (suc i) (s ∷ ss) h = fields_hold o i ss h

held_fields : (o i : ℕ) (ss : List Slot) → slice_get ss i ≡ Some (Strong o) → holds_at o ss i ≡ true
held_fields o i [] h = absurd cc
held_fields o zero (Strong p ∷ ss) h = grind (arith, nat_tests, h)
held_fields o zero (Weak p ∷ ss) h = absurd cc
held_fields o zero (Nothing ∷ ss) h = absurd cc
held_fields o zero (Dangling ∷ ss) h = absurd cc
held_fields o (suc i) (s ∷ ss) h = held_fields o i ss h

holds_there : (m : State) (o p i : ℕ) (e : Option Entry) → get m.objects p ≡ e → entry_holds o i e ≡ true → HoldsAt m o p i
holds_there m o p i None is h = absurd cc
holds_there m o p i (Some Husk) is h = absurd cc
holds_there m o p i (Some (Alive fields)) is h = record { fields = fields; alive = is; held = fields_hold o i fields h }

pub hold : HoldersHold
hold m o p i = (
  λ h. holds_there m o p i (get m.objects p) refl (and_right (has p (keys m.objects)) (entry_holds o i (get m.objects p)) (sym (told_any m o p i (keys m.objects)) ∙ h)),
  λ h.
      let there : has p (keys m.objects) ≡ true = sym (has_as_any p (keys m.objects)) ∙ sym (contains_key-keys m.objects p) ∙ ap is_some h.alive in
      let held : entry_holds o i (get m.objects p) ≡ true = ap (entry_holds o i) h.alive ∙ held_fields o i h.fields h.held in
      told_any m o p i (keys m.objects) ∙ grind (arith, there, held),
)
