-- The dates of a state after an operation, where only some places were looked at.
use Rattle.std.proofs.Common.{◌≡◌, ℕ, List, [], ◌++◌, refl, ap, ap₂, ◌∙◌, sym, subst}
use Rattle.std.specs.Prelude.{Option, Some, None, Bool, true, false, option_map, if◌then◌else◌, IsSortedBy}
use Rattle.trace_types.specs.declared.slots.Slot.{Slot}
use Rattle.trace_types.specs.declared.outcomes.Event.{Event}
use Rattle.trace_types.specs.Operation.{Operation}
use Rattle.ownership_model.specs.declared.plan.Plan.{Plan}
use Rattle.ownership_model.specs.State.{State, nothing_held}
use Rattle.ownership_model.specs.View.{view_of}
use Rattle.ownership_model.specs.Table.{row}
use Rattle.ownership_model.specs.Step.{step}
use Rattle.retention_model.specs.declared.place.Place.{Place}
use Rattle.retention_model.specs.declared.mark.Moved.{Moved}
use Rattle.retention_model.specs.Places.{at, stands_before}
use Rattle.retention_model.specs.Since.{is_same_slot, dated}
use Rattle.retention_model.specs.Looked.{is_looked_at}
use Rattle.retention_model.specs.Turns.{or_nothing, slot_at, moved_if, at_place, AreMoves}
use Rattle.retention_model.proofs.SinceLemmas.{slot_same, same_slot}
use Rattle.retention_model.proofs.LawsHold.{nothing, others}
use Rattle.retention.specs.declared.dates.Dates.{Dates}
use Rattle.retention.specs.declared.dated.Dated.{Dated}
use Rattle.retention.specs.Dates.{dated_at, redated, redated_if, after_look, slot_in, Tell, Looks}
use Rattle.retention.specs.Stories.{MovesTo}

-- After an operation the dates tell of each place what it holds then, and since when.

same_date : (r s : Slot) (t id : ℕ) (b : Bool) → is_same_slot r s ≡ b
    → ◌≡◌ {A = Dated} (if b then record { slot = r; since = t } else record { slot = s; since = id }) (record { slot = s; since = if b then t else id })
same_date r s t id true e = ap (λ (x : Slot). let it : Dated = record { slot = x; since = t } in it) (slot_same r s e)
same_date r s t id false e = refl

next_date : (before : Option Slot) (t : ℕ) (id : ℕ) (s : Slot) → redated (option_map (λ r. record { slot = r; since = t }) before) id s ≡ record { slot = s; since = dated before (Some s) t id }
next_date None t id s = refl
next_date (Some r) t id s = same_date r s t id (is_same_slot r s) refl

looked_date : (before now : Option Slot) (t id : ℕ)
    → redated_if (option_map (λ r. record { slot = r; since = t }) before) id now ≡ option_map (λ r. record { slot = r; since = dated before now t id }) now
looked_date before None t id = refl
looked_date before (Some s) t id = ap Some (next_date before t id s)

kept_date : (s : Option Slot) (t id : ℕ) → option_map {U = Dated} (λ r. record { slot = r; since = t }) s ≡ option_map {U = Dated} (λ r. record { slot = r; since = dated s s t id }) s
kept_date None t id = refl
kept_date (Some s) t id = ap (λ (b : Bool). let it : Dated = record { slot = s; since = if b then t else id } in Some it) (sym (same_slot s))

by_look : (looked : Bool) (d : Option Dated) (before now : Option Slot) (t id : ℕ) → d ≡ option_map (λ r. record { slot = r; since = t }) before
    → (looked ≡ false → now ≡ before) → after_look looked d id now ≡ option_map (λ r. record { slot = r; since = dated before now t id }) now
by_look true d before now t id e other = ap (λ x. redated_if x id now) e ∙ looked_date before now t id
by_look false d before now t id e other =
    e ∙ subst (λ (x : Option Slot). option_map {U = Dated} (λ r. record { slot = r; since = t }) before ≡ option_map {U = Dated} (λ r. record { slot = r; since = dated before x t id }) x) (sym (other refl)) (kept_date before t id)

pub told_next : (d n : Dates) (m m' : State) (since : Place → ℕ) (id : ℕ) (looked : Place → Bool) → Tell d m since
    → ((p : Place) → dated_at n p ≡ after_look (looked p) (dated_at d p) id (at m' p)) → ((p : Place) → looked p ≡ false → at m' p ≡ at m p)
    → Tell n m' (λ p. dated (at m p) (at m' p) (since p) id)
told_next d n m m' since id looked tells looks others p = looks p ∙ by_look (looked p) (dated_at d p) (at m p) (at m' p) (since p) id (tells p) (others p)

-- whether a step looks at the place
abbrev pub step_looks : State → Operation → Place → Bool
step_looks m op p = is_looked_at p (row op (view_of m op.thread op.kind)) (step m op).outcome.events

step_others : (m : State) (op : Operation) (p : Place) → step_looks m op p ≡ false → at (step m op).state p ≡ at m p
unfolding step
step_others m op p unseen = others m op.id (row op (view_of m op.thread op.kind)) p unseen

slot_told : (x : Option Slot) (t : ℕ) → slot_in (option_map (λ s. record { slot = s; since = t }) x) ≡ or_nothing x
slot_told None t = refl
slot_told (Some s) t = refl

slot_tells : (d : Dates) (m : State) (since : Place → ℕ) (p : Place) → Tell d m since → slot_in (dated_at d p) ≡ slot_at m p
slot_tells d m since p tells = ap slot_in (tells p) ∙ slot_told (at m p) (since p)

-- A step, where the dates followed it and what moved was noted and sorted.
module _ (m : State) (op : Operation) (d e : Dates) (xs ys zs : List Moved) (empty : xs ≡ [])
    (looks : Looks (step_looks m op) (step m op).state op.id d e xs ys) (each : (p : Place) → at_place p zs ≡ at_place p ys)
    (in_order : IsSortedBy (λ x y. stands_before x.place y.place) zs) where
  dates_told : (since : Place → ℕ) → Tell d m since → Tell e (step m op).state (λ p. dated (at m p) (at (step m op).state p) (since p) op.id)
  dates_told since tells = told_next d e m (step m op).state since op.id (step_looks m op) tells looks.dates (step_others m op)

  moves_told : (since : Place → ℕ) → Tell d m since → AreMoves m (step m op).state zs
  moves_told since tells = record {
    each = λ p.
        each p ∙ looks.moves p ∙ ap (λ l. at_place p l ++ moved_if p (slot_in (dated_at d p)) (slot_in (dated_at e p))) empty
        ∙ ap₂ (moved_if p) (slot_tells d m since p tells)
        (slot_tells e (step m op).state (λ q. dated (at m q) (at (step m op).state q) (since q) op.id) p (dates_told since tells));
    in_order = in_order;
  }

  step_moves : MovesTo op m d (step m op).state e zs
  step_moves = record { state = refl; dates = dates_told; moves = moves_told }

-- the same as the code knows it
pub steps_to : (m n : State) (op : Operation) (plan : Plan) (events : List Event) (id : ℕ) (d e : Dates) (xs ys zs : List Moved)
    → plan ≡ row op (view_of m op.thread op.kind) → events ≡ (step m op).outcome.events → n ≡ (step m op).state → id ≡ op.id → xs ≡ []
    → Looks (λ p. is_looked_at p plan events) n id d e xs ys → ((p : Place) → at_place p zs ≡ at_place p ys)
    → IsSortedBy (λ x y. stands_before x.place y.place) zs → MovesTo op m d n e zs
steps_to m n op plan events id d e xs ys zs planned happened state number empty looks each in_order =
    let told : Looks (step_looks m op) (step m op).state op.id d e xs ys = record {
      dates = λ p. looks.dates p
          ∙ ap₂ (λ pl ev. after_look (is_looked_at p pl ev) (dated_at d p) id (at n p)) planned happened
          ∙ ap₂ (λ i k. after_look (step_looks m op p) (dated_at d p) i (at k p)) number state;
      moves = looks.moves;
    } in
    subst (λ (k : State). MovesTo op m d k e zs) (sym state) (step_moves m op d e xs ys zs empty told each in_order)

-- the start
pub nothing_told : (d : Dates) → ((p : Place) → dated_at d p ≡ None) → Tell d nothing_held (λ p. 0)
nothing_told d none p = none p ∙ sym (ap (λ (x : Option Slot). option_map (λ (s : Slot). let it : Dated = record { slot = s; since = 0 } in it) x) (nothing p))
