-- Two states that differ in remains alone agree on what is reached; so what agrees stays so.
use Rattle.std.proofs.Common.{◌≡◌, ℕ, List, [], ◌∷◌, refl, ap, Bool, true, false}
use Rattle.std.specs.Prelude.{not, Option, Some, None}
use Rattle.std.specs.FinMap.{get, keys}
use Rattle.trace_types.specs.declared.slots.Slot.{Slot}
use Rattle.trace_types.specs.declared.slots.Slot.TheVariants.{Nothing, Strong, Weak, Dangling}
use Rattle.trace_types.specs.declared.slots.Holding.{Holding}
use Rattle.trace_types.specs.declared.slots.Holding.TheVariants as holding
use Rattle.trace_types.specs.declared.slots.Entry.{Entry}
use Rattle.trace_types.specs.declared.slots.Entry.TheVariants.{Alive, Husk}
use Rattle.ownership_model.specs.State.{State}
use Rattle.ownership_model.specs.Step.{end_from}
use Rattle.ownership_model.specs.declared.link.Link.TheVariants.{StrongOrWeak}
use Rattle.ownership_model.specs.Reach.{IsClosed, IsReach, Reaches, Reaches.by_root, Reaches.by_field, is_reached, named, slots_names, holding_names, cell_names, entry_names, handle_names, all_cell_names}
use Rattle.ownership_model.specs.Agrees.{Agrees, is_remaining}
use Rattle.ownership_model.specs.Laws.{AgreementStays}
use Rattle.ownership_model.proofs.Twins.{AvoidsSlot, AvoidSlots, AvoidsHolding, AvoidsEntry, IfThere, outside, Twins}
use Rattle.ownership_model.proofs.TwinLemmas.{same_weight}
use Rattle.ownership_model.proofs.NameLemmas.{HasAll, all_joined, all_of_each, only_one}
use Rattle.ownership_model.proofs.ReachedLemmas.{reached}
use Rattle.ownership_model.proofs.EnclosingLemmas.{encloses}
use Rattle.ownership_model.proofs.AgreeLemmas.{law}

not_false : (b : Bool) → not b ≡ true → b ≡ false
not_false true h = absurd cc
not_false false h = refl

-- a closed set has what is reached
reached_in : (m : State) (k : ℕ → Bool) → IsClosed StrongOrWeak m k → (o : ℕ) → Reaches StrongOrWeak m o → k o ≡ true
reached_in m k c _ (by_root o h) = c.roots o h
reached_in m k c _ (by_field p o q h) = c.fields p o (reached_in m k c p q) h

module _ (r : ℕ → Bool) where
  -- what avoids the set names what is outside it
  no_names : HasAll (outside r) []
  no_names o is = absurd cc

  slot_outside : (s : Slot) → AvoidsSlot r s → HasAll (outside r) (named StrongOrWeak s)
  slot_outside Nothing c = no_names
  slot_outside (Strong o) c = only_one (outside r) o (ap not c)
  slot_outside (Weak o) c = only_one (outside r) o (ap not c)
  slot_outside Dangling c = no_names

  slots_outside : (ss : List Slot) → AvoidSlots r ss → HasAll (outside r) (slots_names StrongOrWeak ss)
  slots_outside [] c = no_names
  slots_outside (s ∷ ss) c = all_joined (outside r) (named StrongOrWeak s) (slots_names StrongOrWeak ss) (slot_outside s c.0) (slots_outside ss c.1)

  holding_outside : (x : Option Holding) → IfThere (AvoidsHolding r) x → HasAll (outside r) (holding_names StrongOrWeak x)
  holding_outside None c = no_names
  holding_outside (Some (holding.Slot s)) c = slot_outside s c
  holding_outside (Some (holding.Bare fields)) c = slots_outside fields c

  cell_outside : (x : Option Slot) → IfThere (AvoidsSlot r) x → HasAll (outside r) (cell_names StrongOrWeak x)
  cell_outside None c = no_names
  cell_outside (Some s) c = slot_outside s c

  entry_outside : (x : Option Entry) → IfThere (AvoidsEntry r) x → HasAll (outside r) (entry_names StrongOrWeak x)
  entry_outside None c = no_names
  entry_outside (Some (Alive fields)) c = slots_outside fields c
  entry_outside (Some Husk) c = no_names

  module _ (n o : State) (t : Twins r n o) where
    closed_outside : IsClosed StrongOrWeak n (outside r)
    closed_outside = record {
      roots = all_joined (outside r) (handle_names StrongOrWeak n (keys n.handles)) (all_cell_names StrongOrWeak n (keys n.cells))
          (all_of_each (outside r) (λ h. holding_names StrongOrWeak (get n.handles h)) (keys n.handles) (λ h. holding_outside (get n.handles h) (t.roots h)))
          (all_of_each (outside r) (λ c. cell_names StrongOrWeak (get n.cells c)) (keys n.cells) (λ c. cell_outside (get n.cells c) (t.cell_roots c)));
      fields = λ p q in' is. entry_outside (get n.objects p) (t.closed p (not_false (r p) in')) q is;
    }

    -- so no member is reached
    reached_outside : (x : ℕ) → is_reached StrongOrWeak n x ≡ true → r x ≡ false
    reached_outside x h = not_false (r x) (reached_in n (outside r) closed_outside x ((reached StrongOrWeak n).reached x h))

    twins_agree : Agrees (λ x. is_reached StrongOrWeak n x) n o
    twins_agree = record {
      handles = t.handles;
      cells = t.cells;
      scopes = t.scopes;
      entries = λ x h. t.core x (reached_outside x h);
      strongs = λ x h. same_weight r n o (Strong x) [] t (reached_outside x h);
      weaks = λ x h. same_weight r n o (Weak x) [] t (reached_outside x h);
    }

pub still_agree : AgreementStays
still_agree n o sound sound_too agrees ops distinct a b =
    let k : ℕ → Bool = λ x. is_reached StrongOrWeak n x in
    let reach : IsReach StrongOrWeak n k = reached StrongOrWeak n in
    twins_agree (is_remaining k n o) (end_from n ops) (end_from o ops)
    (law k n o sound.counts sound_too.counts (encloses n k (record { roots = reach.roots; fields = reach.fields })) agrees ops a b).1.1.0
