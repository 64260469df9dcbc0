-- The dates of leaked objects are the operations since which they have been leaked.
use Rattle.std.proofs.Common.{◌≡◌, ℕ, ◌<◌, List, [], ◌∷◌, refl, sym, ap, ◌∙◌, subst, Bool, true, inl, inr}
use Rattle.std.specs.Prelude.{Option, Some, None, ◌↔◌, is_some, unwrap_or}
use Rattle.std.specs.FinMap.{get, keys, contains_key-keys}
use Rattle.trace_types.specs.declared.slots.Slot.TheVariants.{Strong}
use Rattle.trace_types.specs.declared.slots.Entry.{Entry}
use Rattle.trace_types.specs.Operation.{Operation}
use Rattle.ownership_model.specs.State.{State, nothing_held, is_alive}
use Rattle.ownership_model.specs.Step.{end_from, AreNew}
use Rattle.ownership_model.specs.Leaks.{IsLeaked}
use Rattle.ownership_model.specs.Reach.{has}
use Rattle.ownership_model.proofs.Searching.{has_as_any}
use Rattle.retention_model.specs.declared.place.Place.{Place}
use Rattle.retention_model.specs.Places.{at, IsFieldOf}
use Rattle.retention_model.specs.Ways as ways
use Rattle.retention_model.specs.LeakedSince.{IsLeakedSince}
use Rattle.retention_model.specs.Losses.{Backs}
use Rattle.retention_model.proofs.LawsHold as law
use Rattle.retention_model.proofs.LossLemmas.{backs_alive, backs_unreached}
use Rattle.retention.specs.declared.graph.Graph.{Graph}
use Rattle.retention.specs.declared.moves.Loss.{Loss}
use Rattle.retention.specs.Graph.{size, object_at, IsFieldAt, IsGraphOf}
use Rattle.retention.specs.Losses.{AreLosses}
use Rattle.retention.specs.Dating.{is_marked, date_at, LeadsOn, LeadsOn.here, LeadsOn.on, LeadsTo, IsDatedBy, AreDated}
use Rattle.retention.proofs.LossDates.{lose_none, last_loss, dated_alike, as_last}
use Rattle.retention.proofs.GraphPaths.{held_place, field_object}
use Rattle.retention.proofs.GraphLaws.{place_at, strong_at, place_index, object_index}

alive_there : (e : Option Entry) → is_alive e ≡ true → is_some e ≡ true
alive_there None h = absurd cc
alive_there (Some e) h = refl

pub alive_key : (m : State) (o : ℕ) → is_alive (get m.objects o) ≡ true → has o (keys m.objects) ≡ true
alive_key m o h = sym (has_as_any o (keys m.objects)) ∙ sym (contains_key-keys m.objects o) ∙ alive_there (get m.objects o) h

-- what holds one that leads to o leads to o
backs_by : (m : State) (o a b : ℕ) (q : Place) → Backs m o a → at m q ≡ Some (Strong a) → IsFieldOf b q → Backs m o b
backs_by m o a b q (inl same) names owns = inr (q ∷ [], (owns, subst (λ k. at m q ≡ Some (Strong k)) same names))
backs_by m o a b q (inr way) names owns = inr (q ∷ way.0, (owns, more way.0 way.1.0 way.1.1))
  where
    more : (ps : List Place) → ways.BeginsIn (IsFieldOf a) ps → ways.LeadsTo m o ps → ways.LeadsTo m o (q ∷ ps)
    more [] begins leads = absurd begins
    more (r ∷ ps) begins leads = ((a, names, begins), leads)

module _ (m : State) (since : Place → ℕ) (g : Graph) (is : IsGraphOf m since g) (marks : List Bool) (leaked : (i : ℕ) → i < size g → (is_marked marks i ≡ true) ↔ IsLeaked m (object_at g i)) where
  leads_back : (j i : ℕ) → LeadsOn g marks j i → Backs m (object_at g i) (object_at g j)
  leads_back j i (here _ _ marked same) = inl (ap (object_at g) same)
  leads_back j i (on _ p k _ marked field hold rest) =
      backs_by m (object_at g i) (object_at g k) (object_at g j) (place_at g p) (leads_back k i rest) (strong_at m since g is p k hold)
      ((is.fields j p (field_object g j p field) (held_place g p k hold)).0 field)

  module _ (i : ℕ) (within : i < size g) (it : IsLeaked m (object_at g i)) where
    -- an object that leads to i has a number, and is marked
    numbered : (a : ℕ) → Backs m (object_at g i) a → (j : ℕ) × (j < size g) × (object_at g j ≡ a) × (is_marked marks j ≡ true)
    numbered a backs =
        let alive : is_alive (get m.objects a) ≡ true = backs_alive m (object_at g i) it a backs in
        let at_j = object_index m since g is a (alive_key m a alive) in
        let gone : IsLeaked m a = record { alive = alive; unreached = backs_unreached m (object_at g i) it a backs } in
        (at_j.0, at_j.1, at_j.2, (leaked at_j.0 at_j.1).1 (subst (λ k. IsLeaked m k) (sym at_j.2) gone))

    step_to : (a : ℕ) (q : Place) (k : ℕ) → Backs m (object_at g i) a → IsFieldOf a q → k < size g → at m q ≡ Some (Strong (object_at g k)) → LeadsOn g marks k i → LeadsTo g marks i a
    step_to a q k backs owns there names rest =
        let from = numbered a backs in
        let p = place_index m since g is q k there names in
        let field : IsFieldAt g from.0 p.0 = (is.fields from.0 p.0 from.1 p.1).1 (subst (λ x. IsFieldOf (object_at g from.0) x) (sym p.2) (subst (λ x. IsFieldOf x q) (sym from.2) owns)) in
        (from.0, from.1, from.2, on from.0 p.0 k i from.3 field p.3 rest)

    by_way : (way : List Place) (a : ℕ) (q : Place) → IsFieldOf a q → ways.LeadsTo m (object_at g i) (q ∷ way) → LeadsTo g marks i a
    by_way [] a q owns leads = step_to a q i (inr (q ∷ [], (owns, leads))) owns within leads (here i i ((leaked i within).1 it) refl)
    by_way (r ∷ way) a q owns leads =
        let next = by_way way leads.0.0 r leads.0.2 leads.1 in
        step_to a q next.0 (inr (q ∷ r ∷ way, (owns, leads))) owns next.1 (leads.0.1 ∙ ap (λ k. Some (Strong k)) (sym next.2)) next.3

    from_backs : (a : ℕ) → Backs m (object_at g i) a → LeadsTo g marks i a
    from_backs a (inl same) = (i, within, sym same, here i i ((leaked i within).1 it) refl)
    from_backs a (inr way) = by_whole way.0 way.1.0 way.1.1
      where
        by_whole : (ps : List Place) → ways.BeginsIn (IsFieldOf a) ps → ways.LeadsTo m (object_at g i) ps → LeadsTo g marks i a
        by_whole [] begins leads = absurd begins
        by_whole (q ∷ ps) begins leads = by_way ps a q begins leads

    to_backs : (a : ℕ) → LeadsTo g marks i a → Backs m (object_at g i) a
    to_backs a leads = subst (λ k. Backs m (object_at g i) k) leads.2 (leads_back leads.0 i leads.3)

    pub dated_backs : (losses : List Loss) (d : Option ℕ) → IsDatedBy (LeadsTo g marks i) losses d → IsDatedBy (Backs m (object_at g i)) losses d
    dated_backs losses d dated = dated_alike (LeadsTo g marks i) (Backs m (object_at g i)) to_backs from_backs losses d dated

-- Of a whole trace: the date is the operation since which the object has been leaked.
pub since_told : (ops : List Operation) (new : AreNew nothing_held ops) (since : Place → ℕ) (g : Graph) → IsGraphOf (end_from nothing_held ops) since g → (marks : List Bool)
    → ((i : ℕ) → i < size g → (is_marked marks i ≡ true) ↔ IsLeaked (end_from nothing_held ops) (object_at g i)) → (losses : List Loss) → AreLosses nothing_held ops losses
    → (dates : List (Option ℕ)) → AreDated g marks losses dates → (i : ℕ) → i < size g → is_marked marks i ≡ true → IsLeakedSince ops (object_at g i) (unwrap_or (date_at dates i) 0)
since_told ops new since g is marks leaked losses lost dates dated i within marked =
    by_date (date_at dates i) (dated_backs (end_from nothing_held ops) since g is marks leaked i within ((leaked i within).0 marked) losses (date_at dates i) (dated i within marked))
  where
    by_date : (d : Option ℕ) → IsDatedBy (Backs (end_from nothing_held ops) (object_at g i)) losses d → IsLeakedSince ops (object_at g i) (unwrap_or d 0)
    by_date None it =
        absurd (law.some_loss ops new (object_at g i) ((leaked i within).0 marked) (lose_none (Backs (end_from nothing_held ops) (object_at g i)) ops nothing_held losses lost it))
    by_date (Some id) it =
        law.last_loss ops new (object_at g i) id ((leaked i within).0 marked)
        (as_last nothing_held ops (object_at g i) id (last_loss (Backs (end_from nothing_held ops) (object_at g i)) ops nothing_held losses id lost it))
