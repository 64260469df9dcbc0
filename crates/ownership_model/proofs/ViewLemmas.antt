-- Two states that differ in remains alone show an operation the same, and nothing of the remains.
use Rattle.std.proofs.Common.{◌≡◌, ℕ, List, [], ◌∷◌, refl, ap, ◌∙◌, Bool, false}
use Rattle.std.specs.Prelude.{Option, Some, None}
use Rattle.std.specs.FinMap.{get}
use Rattle.trace_types.specs.declared.slots.Slot.TheVariants.{Nothing, Strong, Weak, Dangling}
use Rattle.trace_types.specs.declared.slots.Holding.{Holding}
use Rattle.trace_types.specs.declared.slots.Holding.TheVariants as holding
use Rattle.trace_types.specs.declared.kinds.Field.{Field}
use Rattle.trace_types.specs.declared.kinds.Field.TheVariants as field
use Rattle.trace_types.specs.declared.kinds.Kind.{Kind}
use Rattle.ownership_model.specs.State.{State}
use Rattle.ownership_model.specs.Scopes.{scope_of}
use Rattle.ownership_model.specs.View.{Members, members, Read, Null, Me, held_by, cell_of, elements_of, named_in, seen, view_at, view_of}
use Rattle.ownership_model.proofs.Twins.{AvoidsSlot, AvoidsHolding, AvoidsEntry, IfThere, AvoidElements, AvoidsView, Twins}
use Rattle.ownership_model.proofs.TwinLemmas.{same_weight}

module _ (r : ℕ → Bool) (n o : State) (t : Twins r n o) where
  same_held : (h : Option ℕ) → held_by n h ≡ held_by o h
  same_held None = refl
  same_held (Some h) = ap (λ m. get m h) t.handles

  same_cell : (c : Option ℕ) → cell_of n c ≡ cell_of o c
  same_cell None = refl
  same_cell (Some c) = ap (λ m. get m c) t.cells

  same_elements : (fs : List Field) → elements_of n fs ≡ elements_of o fs
  same_elements [] = refl
  same_elements (field.Held h ∷ fs) = λ i. Read h (get (t.handles i) h) ∷ same_elements fs i
  same_elements (field.Null ∷ fs) = ap (λ es. Null ∷ es) (same_elements fs)
  same_elements (field.Me ∷ fs) = ap (λ es. Me ∷ es) (same_elements fs)

  Outside : ℕ → Type 0
  Outside k = r k ≡ false

  named_outside : (x : Option Holding) → IfThere (AvoidsHolding r) x → IfThere Outside (named_in x)
  unfolding Outside
  named_outside None c = tt
  named_outside (Some (holding.Slot Nothing)) c = tt
  named_outside (Some (holding.Slot (Strong k))) c = c
  named_outside (Some (holding.Slot (Weak k))) c = c
  named_outside (Some (holding.Slot Dangling)) c = tt
  named_outside (Some (holding.Bare fields)) c = tt

  same_seen : (k : Option ℕ) → IfThere Outside k → seen n k ≡ seen o k
  unfolding Outside
  same_seen None c = refl
  same_seen (Some k) c = λ i. record { entry = t.core k c i; strong = same_weight r n o (Strong k) [] t c i; weak = same_weight r n o (Weak k) [] t c i }

  seen_avoids : (k : Option ℕ) → IfThere Outside k → IfThere (AvoidsEntry r) (seen n k).entry
  unfolding Outside
  seen_avoids None c = tt
  seen_avoids (Some k) c = t.closed k c

  held_avoids : (h : Option ℕ) → IfThere (AvoidsHolding r) (held_by n h)
  held_avoids None = tt
  held_avoids (Some h) = t.roots h

  cell_avoids : (c : Option ℕ) → IfThere (AvoidsSlot r) (cell_of n c)
  cell_avoids None = tt
  cell_avoids (Some c) = t.cell_roots c

  elements_avoid : (fs : List Field) → AvoidElements r (elements_of n fs)
  elements_avoid [] = tt
  elements_avoid (field.Held h ∷ fs) = (t.roots h, elements_avoid fs)
  elements_avoid (field.Null ∷ fs) = (tt, elements_avoid fs)
  elements_avoid (field.Me ∷ fs) = (tt, elements_avoid fs)

  view_alike : (a : Members) → view_at n a ≡ view_at o a
  view_alike a =
      let object : seen n (named_in (held_by n a.first)) ≡ seen o (named_in (held_by o a.first)) =
      same_seen (named_in (held_by n a.first)) (named_outside (held_by n a.first) (held_avoids a.first)) ∙ ap (λ x. seen o (named_in x)) (same_held a.first) in
      λ i. record { first = same_held a.first i; second = same_held a.second i; cell = same_cell a.cell i; elements = same_elements a.fields i; object = object i }

  view_avoids : (a : Members) → AvoidsView r (view_at n a)
  view_avoids a = record {
    first = held_avoids a.first;
    second = held_avoids a.second;
    cell = cell_avoids a.cell;
    elements = elements_avoid a.fields;
    object = seen_avoids (named_in (held_by n a.first)) (named_outside (held_by n a.first) (held_avoids a.first));
  }

pub same_view : (r : ℕ → Bool) (n o : State) (label : ℕ) (k : Kind) → Twins r n o → view_of n label k ≡ view_of o label k
same_view r n o label k t = view_alike r n o t (members (scope_of label n.scopes) k) ∙ ap (λ ss. view_at o (members (scope_of label ss) k)) t.scopes

pub avoids_view : (r : ℕ → Bool) (n o : State) (label : ℕ) (k : Kind) → Twins r n o → AvoidsView r (view_of n label k)
avoids_view r n o label k t = view_avoids r n o t (members (scope_of label n.scopes) k)
