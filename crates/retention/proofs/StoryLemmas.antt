-- What is noted over the operations of a trace, one after another.
use Rattle.std.proofs.Common.{◌≡◌, ℕ, ◌+◌, List, [], ◌∷◌, ◌++◌, refl, ap, ap₂, ◌∙◌, sym, subst, subst₂, append_assoc, append-nil, filter, flat_map, inl, inr}
use Rattle.std.specs.Prelude.{Option, Some, None, Bool, true, false, ◌⊎◌, option_map, if◌then◌else◌}
use Rattle.std.specs.List.{AllByRecursion}
use Rattle.trace_types.specs.declared.slots.Slot.{Slot}
use Rattle.trace_types.specs.declared.slots.Slot.TheVariants.{Nothing, Strong, Weak, Dangling}
use Rattle.trace_types.specs.declared.outcomes.Outcome.{Outcome}
use Rattle.trace_types.specs.Operation.{Operation}
use Rattle.ownership_model.specs.State.{State, nothing_held}
use Rattle.ownership_model.specs.Step.{step, AreNew, outcomes_from, end_from}
use Rattle.retention_model.specs.declared.place.Place.{Place}
use Rattle.retention_model.specs.declared.mark.Moved.{Moved}
use Rattle.retention_model.specs.declared.mark.Marked.{Marked}
use Rattle.retention_model.specs.Places.{at, is_same_place}
use Rattle.retention_model.specs.Since.{is_same_slot, is_same, dated, since_from}
use Rattle.retention_model.specs.Losses.{Loses}
use Rattle.retention_model.specs.Turns.{or_nothing, slot_at, AreMoves, marks_by, AreMarkedFrom, AreMarked}
use Rattle.retention.specs.declared.dated.Dated.{Dated}
use Rattle.retention.specs.declared.dates.Dates.{Dates}
use Rattle.retention.specs.declared.moves.Loss.{Loss}
use Rattle.retention.specs.declared.story.Story.{Story}
use Rattle.leak_report.specs.Lives.{making, made_in, numbered, events_of}
use Rattle.retention.specs.Dates.{Tell, dated_at}
use Rattle.retention.specs.Lists.{loss_if, loss_of}
use Rattle.retention.specs.Losses.{IsLostIn, AreLostBy, AreLosses}
use Rattle.retention.specs.Stories.{MovesTo, IsNoted, GoesOn, IsUnderWay}
use Rattle.retention.proofs.PlaceLemmas.{place_same}
use Rattle.retention.proofs.TellLemmas.{nothing_told}

-- What a list has.

abbrev Has : Moved → List Moved → Type 0
Has x [] = ⊥
Has x (y ∷ ys) = (y ≡ x) ⊎ Has x ys

-- of what passes a test
module _ (q : Moved → Bool) where
  kept : (x y : Moved) (ys : List Moved) (b : Bool) → q y ≡ b → q x ≡ true → (y ≡ x) ⊎ Has x (filter q ys) → Has x (if b then y ∷ filter q ys else filter q ys)
  kept x y ys true e passes has = has
  kept x y ys false e passes (inl same) = let told : q y ≡ true = ap q same ∙ passes in absurd cc
  kept x y ys false e passes (inr has) = has

  in_filter : (x : Moved) (xs : List Moved) → q x ≡ true → Has x xs → Has x (filter q xs)
  in_filter x [] passes has = has
  in_filter x (y ∷ ys) passes (inl same) = kept x y ys (q y) refl passes (inl same)
  in_filter x (y ∷ ys) passes (inr has) = kept x y ys (q y) refl passes (inr (in_filter x ys passes has))

  was_kept : (x y : Moved) (ys : List Moved) (b : Bool) → Has x (if b then y ∷ filter q ys else filter q ys) → (y ≡ x) ⊎ Has x (filter q ys)
  was_kept x y ys true has = has
  was_kept x y ys false has = inr has

  later_kept : (x y : Moved) (ys : List Moved) → (Has x (filter q ys) → Has x ys) → (y ≡ x) ⊎ Has x (filter q ys) → (y ≡ x) ⊎ Has x ys
  later_kept x y ys later (inl same) = inl same
  later_kept x y ys later (inr has) = inr (later has)

  from_filter : (x : Moved) (xs : List Moved) → Has x (filter q xs) → Has x xs
  from_filter x [] has = has
  from_filter x (y ∷ ys) has = later_kept x y ys (from_filter x ys) (was_kept x y ys (q y) has)

-- Strong slots that were lost.

by_same : (p : Place) (s t : Slot) (x : Moved) (b : Bool) → is_same_slot s t ≡ b → Has x (if b then [] else record { place = p; before = s; after = t } ∷ [])
    → (s ≡ x.before) × (is_same_slot s t ≡ false)
by_same p s t x true e has = absurd has
by_same p s t x false e (inl is) = (ap (λ (y : Moved). y.before) is, e)
by_same p s t x false e (inr has) = absurd has

strong_there : (x : Option Slot) (o : ℕ) → or_nothing x ≡ Strong o → x ≡ Some (Strong o)
strong_there None o e = absurd cc
strong_there (Some s) o e = ap Some e

differs : (o : ℕ) (x y : Option Slot) → x ≡ Some (Strong o) → is_same_slot (Strong o) (or_nothing y) ≡ false → is_same x y ≡ false
differs o x None is apart = ap (λ z. is_same z None) is
differs o x (Some t) is apart = ap (λ z. is_same z (Some t)) is ∙ apart

differs_back : (o : ℕ) (x y : Option Slot) → x ≡ Some (Strong o) → is_same x y ≡ false → is_same_slot (or_nothing x) (or_nothing y) ≡ false
differs_back o x None is apart = ap (λ z. is_same_slot (or_nothing z) Nothing) is
differs_back o x (Some t) is apart = ap (λ z. is_same_slot (or_nothing z) t) is ∙ sym (ap (λ z. is_same z (Some t)) is) ∙ apart

-- all that moved by one operation
module _ (m : State) (op : Operation) (xs : List Moved) (moves : AreMoves m (step m op).state xs) where
  -- what stands in the list moved there
  fact : (x : Moved) → Has x xs → (slot_at m x.place ≡ x.before) × (is_same_slot (slot_at m x.place) (slot_at (step m op).state x.place) ≡ false)
  fact x has =
      by_same x.place (slot_at m x.place) (slot_at (step m op).state x.place) x (is_same_slot (slot_at m x.place) (slot_at (step m op).state x.place)) refl
      (subst (Has x) (moves.each x.place) (in_filter (λ (y : Moved). is_same_place y.place x.place) x xs (place_same x.place) has))

  lost_if : (x : Moved) (s : Slot) → x.before ≡ s → Has x xs → (o : ℕ) → s ≡ Strong o → Loses m op o
  lost_if x s e has o strong =
      let it = fact x has in
      let stood : at m x.place ≡ Some (Strong o) = strong_there (at m x.place) o (it.0 ∙ e ∙ strong) in (
        x.place,
        stood,
        differs o (at m x.place) (at (step m op).state x.place) stood
            (subst (λ s. is_same_slot s (slot_at (step m op).state x.place) ≡ false) (it.0 ∙ e ∙ strong) it.1),
      )

  abbrev IsLoss : Loss → Type 0
  IsLoss l = (l.id ≡ op.id) × Loses m op l.object

  all_with : (x : Moved) (s : Slot) (ls : List Loss) → x.before ≡ s → Has x xs → AllByRecursion IsLoss ls → AllByRecursion IsLoss (loss_if op.id s ++ ls)
  all_with x Nothing ls e has rest = rest
  all_with x (Strong o) ls e has rest = ((refl, lost_if x (Strong o) e has o refl), rest)
  all_with x (Weak o) ls e has rest = rest
  all_with x Dangling ls e has rest = rest

  all_lost : (zs : List Moved) → ((x : Moved) → Has x zs → Has x xs) → AllByRecursion IsLoss (flat_map (loss_of op.id) zs)
  all_lost [] within = tt
  all_lost (z ∷ zs) within = all_with z z.before (flat_map (loss_of op.id) zs) refl (within z (inl refl)) (all_lost zs (λ x has. within x (inr has)))

  lost_later : (o : ℕ) (s : Slot) (ls : List Loss) → IsLostIn o ls → IsLostIn o (loss_if op.id s ++ ls)
  lost_later o Nothing ls lost = lost
  lost_later o (Strong p) ls lost = inr lost
  lost_later o (Weak p) ls lost = lost
  lost_later o Dangling ls lost = lost

  lost_here : (o : ℕ) (s : Slot) (ls : List Loss) → s ≡ Strong o → IsLostIn o (loss_if op.id s ++ ls)
  lost_here o Nothing ls e = absurd cc
  lost_here o (Strong p) ls e = inl cc
  lost_here o (Weak p) ls e = absurd cc
  lost_here o Dangling ls e = absurd cc

  is_lost : (o : ℕ) (x : Moved) (zs : List Moved) → x.before ≡ Strong o → Has x zs → IsLostIn o (flat_map (loss_of op.id) zs)
  is_lost o x [] e has = has
  is_lost o x (z ∷ zs) e (inl same) = lost_here o z.before (flat_map (loss_of op.id) zs) (ap (λ (y : Moved). y.before) same ∙ e)
  is_lost o x (z ∷ zs) e (inr has) = lost_later o z.before (flat_map (loss_of op.id) zs) (is_lost o x zs e has)

  found : (o : ℕ) (p : Place) → at m p ≡ Some (Strong o) → is_same (at m p) (at (step m op).state p) ≡ false → Has (record { place = p; before = slot_at m p; after = slot_at (step m op).state p }) xs
  found o p stood apart =
      from_filter (λ (y : Moved). is_same_place y.place p) (record { place = p; before = slot_at m p; after = slot_at (step m op).state p }) xs
      (subst (Has (record { place = p; before = slot_at m p; after = slot_at (step m op).state p }))
      (sym (moves.each p ∙ ap (λ (b : Bool). if b then [] else record { place = p; before = slot_at m p; after = slot_at (step m op).state p } ∷ [])
      (differs_back o (at m p) (at (step m op).state p) stood apart)))
      (inl refl))

  lost_all : (o : ℕ) → Loses m op o → IsLostIn o (flat_map (loss_of op.id) xs)
  lost_all o (p, stood, apart) =
      is_lost o (record { place = p; before = slot_at m p; after = slot_at (step m op).state p }) xs (ap or_nothing stood) (found o p stood apart)

  pub are_lost : AreLostBy m op (flat_map (loss_of op.id) xs)
  are_lost = record { each = all_lost xs (λ x has. has); all = lost_all }

-- an operation that was carried out, and then noted
pub goes : (op : Operation) (id position : ℕ) (with_marks : Bool) (x : Outcome) (xs : List Moved) (s u t : Story) → id ≡ op.id → x ≡ (step s.end op).outcome
    → MovesTo op s.end s.dates u.end u.dates xs → u.made.items ≡ s.made.items → u.events.items ≡ s.events.items → u.losses.items ≡ s.losses.items → u.marked.items ≡ s.marked.items
    → IsNoted id position x with_marks xs u t → GoesOn op position with_marks s t
goes op id position with_marks x xs s u t number was moves made events losses marked noted = record {
  made = noted.made ∙ ap₂ (λ l (y : Outcome). l ++ making y) made was;
  events = noted.events ∙ ap₂ (λ l (y : Outcome). l ++ numbered y.id y.events) events was;
  state = noted.end ∙ moves.state;
  dates = λ since tells. subst₂ (λ (d : Dates) (m : State). Tell d m (λ p. dated (at s.end p) (at m p) (since p) op.id)) (sym noted.dates) (sym noted.end) (moves.dates since tells);
  moves = λ since tells. (
    xs,
    subst (λ (m : State). AreMoves s.end m xs) (sym noted.end) (moves.moves since tells),
    noted.losses ∙ ap₂ (λ l i. l ++ flat_map (loss_of i) xs) losses number,
    λ wanted. noted.marked wanted ∙ ap (λ l. l ++ marks_by position u.end xs x.events) marked
        ∙ ap₂ (λ m y. s.marked.items ++ marks_by position m xs y) (sym noted.end) (ap (λ (y : Outcome). y.events) was),
  );
}

-- A story under way.

pub begun : (ops : List Operation) (with_marks : Bool) (s : Story) → AreNew nothing_held ops → s.made.items ≡ [] → s.events.items ≡ [] → s.end ≡ nothing_held
    → ((p : Place) → dated_at s.dates p ≡ None) → s.losses.items ≡ [] → s.marked.items ≡ [] → IsUnderWay ops ops 0 with_marks s
begun ops with_marks s new made events end dates losses marked = record {
  are_new = subst (λ (m : State). AreNew m ops) (sym end) new;
  made = ap₂ (λ x m. x ++ made_in (outcomes_from m ops)) made end;
  events = ap₂ (λ x m. x ++ events_of (outcomes_from m ops)) events end;
  rest = ap (λ m. end_from m ops) end;
  since = λ p. 0;
  dates = subst (λ (m : State). Tell s.dates m (λ p. 0)) (sym end) (nothing_told s.dates dates);
  dated = λ p. ap (λ m. since_from m ops p 0) end;
  losses = λ more are. subst (λ (l : List Loss). AreLosses nothing_held ops (l ++ more)) (sym losses) (subst (λ (m : State). AreLosses m ops more) end are);
  marked = λ wanted more are. subst (λ (l : List Marked). AreMarkedFrom 0 nothing_held ops (l ++ more)) (sym marked) (subst (λ (m : State). AreMarkedFrom 0 m ops more) end are);
}

-- an operation more
module _ (ops : List Operation) (op : Operation) (rest : List Operation) (k : ℕ) (with_marks : Bool) (s t : Story)
    (way : IsUnderWay ops (op ∷ rest) k with_marks s) (goes : GoesOn op k with_marks s t) where
  abbrev out : Outcome
  out = (step s.end op).outcome

  at_state : (P : State → Type 0) → P (step s.end op).state → P t.end
  at_state P = subst P (sym goes.state)

  abbrev new_since : Place → ℕ
  new_since p = dated (at s.end p) (at t.end p) (way.since p) op.id

  abbrev moved : List Moved
  moved = (goes.moves way.since way.dates).0

  moved_so : AreMoves s.end (step s.end op).state moved
  moved_so = subst (λ (m : State). AreMoves s.end m moved) goes.state (goes.moves way.since way.dates).1

  new_losses : (more : List Loss) → AreLosses t.end rest more → AreLosses nothing_held ops (t.losses.items ++ more)
  new_losses more are =
      let here = flat_map (loss_of op.id) moved in
      let all : AreLosses s.end (op ∷ rest) (here ++ more) =
      (here, more, refl, are_lost s.end op moved moved_so, subst (λ (m : State). AreLosses m rest more) goes.state are) in
      let listed : s.losses.items ++ (here ++ more) ≡ t.losses.items ++ more =
      sym (ap (λ l. l ++ more) (goes.moves way.since way.dates).2 ∙ append_assoc s.losses.items here more) in
      subst (λ (l : List Loss). AreLosses nothing_held ops l) listed (way.losses (here ++ more) all)

  new_marked : with_marks ≡ true → (more : List Marked) → AreMarkedFrom (k + 1) t.end rest more → AreMarkedFrom 0 nothing_held ops (t.marked.items ++ more)
  new_marked wanted more are =
      let here = marks_by k (step s.end op).state moved (step s.end op).outcome.events in
      let all : AreMarkedFrom k s.end (op ∷ rest) (here ++ more) =
      (moved, more, moved_so, subst (λ (m : State). AreMarkedFrom (k + 1) m rest more) goes.state are, refl) in
      let noted : t.marked.items ≡ s.marked.items ++ here =
      (goes.moves way.since way.dates).3 wanted
      ∙ ap (λ m. s.marked.items ++ marks_by k m moved (step s.end op).outcome.events) goes.state in
      let listed : s.marked.items ++ (here ++ more) ≡ t.marked.items ++ more =
      sym (ap (λ l. l ++ more) noted ∙ append_assoc s.marked.items here more) in
      subst (λ (l : List Marked). AreMarkedFrom 0 nothing_held ops l) listed (way.marked wanted (here ++ more) all)

  pub went_on : IsUnderWay ops rest (k + 1) with_marks t
  went_on = record {
    are_new = at_state (λ m. AreNew m rest) way.are_new.1;
    made = ap₂ (λ x m. x ++ made_in (outcomes_from m rest)) goes.made goes.state
        ∙ append_assoc s.made.items (making out) (made_in (outcomes_from (step s.end op).state rest)) ∙ way.made;
    events = ap₂ (λ x m. x ++ events_of (outcomes_from m rest)) goes.events goes.state
        ∙ append_assoc s.events.items (numbered out.id out.events) (events_of (outcomes_from (step s.end op).state rest)) ∙ way.events;
    rest = ap (λ m. end_from m rest) goes.state ∙ way.rest;
    since = new_since;
    dates = goes.dates way.since way.dates;
    dated = λ p. ap (λ m. since_from m rest p (dated (at s.end p) (at m p) (way.since p) op.id)) goes.state ∙ way.dated p;
    losses = new_losses;
    marked = new_marked;
  }

-- at the end
module _ (ops : List Operation) (k : ℕ) (with_marks : Bool) (s : Story) (way : IsUnderWay ops [] k with_marks s) where
  pub all_made : s.made.items ≡ made_in (outcomes_from nothing_held ops)
  all_made = sym (append-nil s.made.items) ∙ way.made

  pub all_events : s.events.items ≡ events_of (outcomes_from nothing_held ops)
  all_events = sym (append-nil s.events.items) ∙ way.events

  pub all_dates : Tell s.dates s.end (λ p. since_from nothing_held ops p 0)
  all_dates p = way.dates p ∙ ap (λ t. option_map (λ (r : Slot). let it : Dated = record { slot = r; since = t } in it) (at s.end p)) (way.dated p)

  pub all_losses : AreLosses nothing_held ops s.losses.items
  all_losses = subst (λ (l : List Loss). AreLosses nothing_held ops l) (append-nil s.losses.items) (way.losses [] refl)

  pub all_marked : with_marks ≡ true → AreMarked nothing_held ops s.marked.items
  all_marked wanted = subst (λ (l : List Marked). AreMarkedFrom 0 nothing_held ops l) (append-nil s.marked.items) (way.marked wanted [] refl)
