-- A cascade over plain lists, item by item; a plan carried out; a handle that is named twice.
use Rattle.std.proofs.Common.{◌≡◌, ℕ, ◌+◌, ◌<◌, List, [], ◌∷◌, ◌++◌, length, ap, ◌∙◌, sym, subst, arith, append_assoc, slice_index_or, get_or, drop, true, false}
use Rattle.std.specs.Prelude.{Option, Some, Result, Ok, Err, OnOk, IfOk, ◌==◌, if◌then◌else◌}
use Rattle.std.specs.List.{remove, list_any}
use Rattle.std.proofs.lemmas.List.{append-nil, drop_more}
use Rattle.trace_types.specs.Operation.{Operation}
use Rattle.trace_types.specs.declared.slots.Item.{Item}
use Rattle.trace_types.specs.declared.slots.Change.{Change}
use Rattle.trace_types.specs.declared.outcomes.Answer.{Answer}
use Rattle.trace_types.specs.declared.outcomes.Event.{Event}
use Rattle.ownership_model.specs.State.{State}
use Rattle.ownership_model.specs.Bounds.{IsBounded, PlanFits}
use Rattle.ownership_model.specs.Carry.{IsCarriable}
use Rattle.ownership_model.specs.Changes.{changed}
use Rattle.ownership_model.specs.Release.{drop_first, Released, after, release, work, Becomes}
use Rattle.ownership_model.specs.View.{view_of, repeated_in}
use Rattle.ownership_model.specs.Table.{row}
use Rattle.ownership_model.specs.Step.{step, carried_out}
use Rattle.ownership_model.specs.declared.plan.Plan.{Plan}
use Rattle.ownership_model.specs.declared.plan.Plan.TheVariants.{Act}
use Rattle.ownership_model.proofs.ReleaseLemmas.{release-nil, release-cons, work_drops}
use Rattle.ownership_model.proofs.LimitLemmas.{drop_bounded, changed_bounded}

after-after : (before told : List Event) (r : Released) → after (before ++ told) r ≡ after before (after told r)
after-after before told r = λ i. record { state = r.state; events = append_assoc before told r.events i }

-- the first of a list, and the rest
pub first_and_rest : {A : Type 0} (xs : List A) (x : A) (rest : List A) → 0 < length xs → x ≡ slice_index_or xs 0 x → rest ≡ remove xs 0 → xs ≡ x ∷ rest
first_and_rest [] x rest some first others = absurd (omega arith)
first_and_rest (y ∷ xs) x rest some first others = λ i. sym first i ∷ sym others i

-- one item of a release
module _ (old new : State) (x : Item) (rest whole left : List Item) (before told : List Event) (first : whole ≡ x ∷ rest) (dropped : Becomes new left before told (drop_first old x rest)) where
  pub bounded_next : IsBounded old → IsBounded new
  bounded_next bounded = subst (λ (m : State). IsBounded m) (sym dropped.state) (drop_bounded old x rest bounded)

  pub work_next : work new left < work old whole
  work_next =
      let smaller : work new left ≡ work (drop_first old x rest).state (drop_first old x rest).pending = λ i. work (dropped.state i) (dropped.pending i) in
      let larger : work old whole ≡ work old (x ∷ rest) = ap (λ (p : List Item). work old p) first in
      omega (arith, smaller, larger, work_drops old x rest)

  pub release_next : after told (release new left) ≡ after before (release old whole)
  release_next =
      let d = drop_first old x rest in
      (λ i. after (dropped.events i) (release (dropped.state i) (dropped.pending i)))
      ∙ after-after before d.events (release d.state d.pending)
      ∙ ap (λ (r : Released). after before r) (sym (release-cons old x rest) ∙ ap (λ (p : List Item). release old p) (sym first))

-- nothing is left
pub release_end : (m : State) (told : List Event) (left : List Item) (r : Released) → after told (release m left) ≡ r → left ≡ [] → (m ≡ r.state) × (told ≡ r.events)
release_end m told left r is none =
    let same : after told (record { state = m; events = [] }) ≡ r = ap (λ (q : Released). after told q) (sym (release-nil m)) ∙ ap (λ (p : List Item). after told (release m p)) (sym none) ∙ is in
    (ap (λ (q : Released). q.state) same, sym (append-nil told) ∙ ap (λ (q : Released). q.events) same)

-- a plan that is the row of the table, carried out, is the step
pub carried_out-step : (m : State) (op : Operation) (id : ℕ) (p : Plan) → id ≡ op.id → p ≡ row op (view_of m op.thread op.kind) → carried_out m id p ≡ step m op
unfolding step
carried_out-step m op id p e f = λ i. carried_out m (e i) (f i)

-- what a call that succeeded gives
pub on_ok : {T E : Type 0} (r : Result T E) {P Q : Type 0} → OnOk r P → (P → Q) → OnOk r Q
on_ok (Ok x) p f = f p
on_ok (Err e) p f = tt

pub if_ok : {T E : Type 0} (r : Result T E) {P Q : T → Type 0} → IfOk r P → ((x : T) → P x → Q x) → IfOk r Q
if_ok (Ok x) p f = f x p
if_ok (Err e) p f = tt

-- the changes of a plan that can be carried out keep the limits
pub changes_bounded : (m n : State) (plan : Plan) (answer : Answer) (changes : List Change) (event : Option Event) (pending : List Item) (object : Option ℕ)
    → plan ≡ Act answer changes event pending object → IsCarriable m plan → PlanFits plan → n ≡ changed m changes → IsBounded m → IsBounded n
changes_bounded m n plan answer changes event pending object is carriable fits made bounded =
    subst (λ (x : State). IsBounded x) (sym made)
    (changed_bounded changes m bounded (subst (λ (p : Plan). PlanFits p) is fits) (subst (λ (p : Plan). IsCarriable m p) is carriable).0)

-- the first handle that repeats one before
pub repeated_in-found : (before hs : List ℕ) (i d : ℕ) → i < length hs → list_any (λ b. b == get_or hs i d) before ≡ true → repeated_in before (drop i hs) ≡ Some (get_or hs i d)
repeated_in-found before hs i d within e =
    ap (repeated_in before) (drop_more hs i d within) ∙ ap (λ b. if b then Some (get_or hs i d) else repeated_in (get_or hs i d ∷ before) (drop (i + 1) hs)) e

pub repeated_in-passed : (before hs : List ℕ) (i d : ℕ) → i < length hs → list_any (λ b. b == get_or hs i d) before ≡ false
    → repeated_in before (drop i hs) ≡ repeated_in (get_or hs i d ∷ before) (drop (i + 1) hs)
repeated_in-passed before hs i d within e =
    ap (repeated_in before) (drop_more hs i d within) ∙ ap (λ b. if b then Some (get_or hs i d) else repeated_in (get_or hs i d ∷ before) (drop (i + 1) hs)) e
