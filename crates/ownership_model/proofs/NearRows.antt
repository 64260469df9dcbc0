-- A row of the table gives one plan at two objects that are near, where its outcome tells that it reads neither a count nor a loose field.
use Rattle.std.proofs.Common.{◌≡◌, ℕ, suc, zero, List, [], ◌∷◌, refl, ap, ◌∙◌, sym, Bool, true, false}
use Rattle.std.specs.Prelude.{Option, Some, None, ◌==◌, if◌then◌else◌, slice_get}
use Rattle.trace_types.specs.declared.slots.Slot.{Slot}
use Rattle.trace_types.specs.declared.slots.Slot.TheVariants.{Nothing, Strong, Weak, Dangling}
use Rattle.trace_types.specs.declared.slots.Holding.{Holding}
use Rattle.trace_types.specs.declared.slots.Holding.TheVariants as holding
use Rattle.trace_types.specs.declared.slots.Entry.{Entry}
use Rattle.trace_types.specs.declared.slots.Entry.TheVariants.{Alive, Husk}
use Rattle.trace_types.specs.declared.slots.Item.TheVariants as item
use Rattle.trace_types.specs.declared.slots.Change.{Change}
use Rattle.trace_types.specs.declared.slots.Change.TheVariants.{SetHandle, EndHandle, SetCell, EndCell, SetField, Make, TurnHusk}
use Rattle.trace_types.specs.declared.kinds.Kind.{Kind}
use Rattle.trace_types.specs.declared.kinds.Kind.TheVariants as kind
use Rattle.trace_types.specs.declared.outcomes.Answer.TheVariants as answer
use Rattle.trace_types.specs.declared.outcomes.Verdict.TheVariants.{Did}
use Rattle.trace_types.specs.declared.outcomes.Reason.TheVariants.{AlreadyHeld}
use Rattle.trace_types.specs.Operation.{Operation}
use Rattle.ownership_model.specs.declared.plan.Plan.{Plan}
use Rattle.ownership_model.specs.declared.plan.Plan.TheVariants.{Skip, Act}
use Rattle.ownership_model.specs.State.{is_alive}
use Rattle.ownership_model.specs.View.{Element, Read, Null, Me, Seen, View, named_in, repeated}
use Rattle.ownership_model.specs.Table.{row, row_of, new_row, upgraded, unwrapped, made_unique, dropped, swapped, exchanged, write_field, set_field, take_field, copy_field, fields_of, made_fields, ending, first_unheld, first_bare, same_pointer, make, act, field_at, unheld, unless_repeated}
use Rattle.ownership_model.specs.Touched.{event_object}
use Rattle.ownership_model.specs.Near.{AreFieldsNear, AreEntriesNear, asks_counts, copies_fields, field_index}
use Rattle.ownership_model.proofs.Twins.{IfThere}
use Rattle.ownership_model.proofs.WalkLemmas as walk
use Rattle.ownership_model.proofs.NearLemmas.{alive_near, field_same}

-- a field is there in both, or in neither
abbrev BothThere : Option Slot → Option Slot → Type 0
BothThere None None = Unit {0}
BothThere None (Some t) = ⊥
BothThere (Some s) None = ⊥
BothThere (Some s) (Some t) = Unit {0}

-- there are as many fields in both
both_fields : (loose : ℕ → Bool) (fs gs : List Slot) (i : ℕ) → AreFieldsNear loose fs gs → BothThere (slice_get fs i) (slice_get gs i)
both_fields loose [] [] i c = tt
both_fields loose [] (g ∷ gs) i c = absurd c
both_fields loose (f ∷ fs) [] i c = absurd c
both_fields loose (f ∷ fs) (g ∷ gs) zero c = tt
both_fields loose (f ∷ fs) (g ∷ gs) (suc i) c = both_fields (λ j. loose (suc j)) fs gs i c.1

both_there : (loose : ℕ → Bool) (e d : Option Entry) (i : ℕ) → AreEntriesNear loose e d → BothThere (slice_get (fields_of e) i) (slice_get (fields_of d) i)
both_there loose (Some (Alive fs)) (Some (Alive gs)) i c = both_fields loose fs gs i c
both_there loose (Some (Alive fs)) (Some Husk) i c = absurd c
both_there loose (Some (Alive fs)) None i c = absurd c
both_there loose (Some Husk) d i c = absurd c
both_there loose None d i c = absurd c

some_same : (s t : Slot) → Some s ≡ Some t → s ≡ t
some_same s t e = cc

true_false : true ≡ false → ⊥
true_false e = cc

module _ (a : ℕ → Bool) (loose : ℕ → ℕ → Bool) where
  -- a change makes or empties no object that is near, and sets no loose field
  abbrev pub IsFirm : Change → Type 0
  IsFirm (SetHandle t h held) = Unit {0}
  IsFirm (EndHandle h) = Unit {0}
  IsFirm (SetCell c s) = Unit {0}
  IsFirm (EndCell c) = Unit {0}
  IsFirm (SetField o i s) = a o ≡ true → loose o i ≡ false
  IsFirm (Make o fields) = a o ≡ false
  IsFirm (TurnHusk o) = a o ≡ false

  abbrev pub AllFirm : List Change → Type 0
  AllFirm [] = Unit {0}
  AllFirm (c ∷ cs) = IsFirm c × AllFirm cs

  -- what the outcome tells of a plan's own event, answer and object
  abbrev pub IsBlindPlan : Kind → Plan → Type 0
  IsBlindPlan kd (Skip why) = Unit {0}
  IsBlindPlan kd (Act said changes event pending object) =
      IfThere (λ e. a (event_object e) ≡ false) event × (copies_fields kd ≡ true → Did said ≡ Did answer.Cloned → ⊥)
      × IfThere (λ o. a o ≡ true → (asks_counts kd ≡ false) × ((i : ℕ) → field_index kd ≡ Some i → loose o i ≡ false)) object

  abbrev pub IsFirmPlan : Plan → Type 0
  IsFirmPlan (Skip why) = Unit {0}
  IsFirmPlan (Act answer changes event pending object) = AllFirm changes

  -- ---- one plan at both objects
  module _ (label id : ℕ) where
    -- what is known of the object that is named
    abbrev pub IsNamedNear : Option Holding → Seen → Seen → Type 0
    IsNamedNear f x y = IfThere (λ o. (a o ≡ true) × AreEntriesNear (loose o) x.entry y.entry) (named_in f)

    abbrev view : Option Holding → Option Holding → Option Slot → List Element → Seen → View
    view f s c es x = record { first = f; second = s; cell = c; elements = es; object = x }

    -- a row that reads a field gives one plan, where it does so behind the field
    at_same : (kd : Kind) (i : ℕ) (p q : Option Slot) (g : Slot → Plan) → BothThere p q → ((s t : Slot) → p ≡ Some s → q ≡ Some t → IsBlindPlan kd (g s) → g s ≡ g t)
        → IsBlindPlan kd (field_at i p g) → field_at i p g ≡ field_at i q g
    at_same kd i None None g c f b = refl
    at_same kd i None (Some t) g c f b = absurd c
    at_same kd i (Some s) None g c f b = absurd c
    at_same kd i (Some s) (Some t) g c f b = f s t refl refl b

    -- so it does where it tells the object's counts
    field_near : (kd : Kind) (o i : ℕ) (e d : Option Entry) (g : Slot → Plan) → a o ≡ true → AreEntriesNear (loose o) e d → ((s : Slot) → IsBlindPlan kd (g s) → loose o i ≡ false)
        → IsBlindPlan kd (field_at i (slice_get (fields_of e) i) g) → field_at i (slice_get (fields_of e) i) g ≡ field_at i (slice_get (fields_of d) i) g
    field_near kd o i e d g c near firm b =
        at_same kd i (slice_get (fields_of e) i) (slice_get (fields_of d) i) g (both_there (loose o) e d i near)
        (λ s t is was here. ap g (some_same s t (sym is ∙ field_same (loose o) e d i near (firm s here) ∙ was))) b

    -- neither plan of a test is blind
    neither : (kd : Kind) (b : Bool) (p q : Plan) → (IsBlindPlan kd p → ⊥) → (IsBlindPlan kd q → ⊥) → IsBlindPlan kd (if b then p else q) → ⊥
    neither kd true p q f g h = f h
    neither kd false p q f g h = g h

    -- Weak::upgrade asks only whether the object is alive
    upgrade_near : (from to : ℕ) (f s : Option Holding) (c : Option Slot) (es : List Element) (x y : Seen) → IsNamedNear f x y
        → row_of label id (kind.Upgrade from to) (view f s c es x) ≡ row_of label id (kind.Upgrade from to) (view f s c es y)
    upgrade_near from to (Some (holding.Slot (Weak o))) s c es x y near =
        ap (λ b. unheld to s (if b then act answer.Yes (SetHandle label to (holding.Slot (Strong o)) ∷ []) [] (Some o) else act answer.No (SetHandle label to (holding.Slot Nothing) ∷ []) [] (Some o)))
        (alive_near (loose o) x.entry y.entry near.1)
    upgrade_near from to (Some (holding.Slot (Strong o))) s c es x y near = refl
    upgrade_near from to (Some (holding.Slot Nothing)) s c es x y near = refl
    upgrade_near from to (Some (holding.Slot Dangling)) s c es x y near = refl
    upgrade_near from to (Some (holding.Bare fields)) s c es x y near = refl
    upgrade_near from to None s c es x y near = refl

    -- the methods that decide by counts are not blind at an object that is near: they tell its counts, or its event, or copy its fields
    try_near : (h : ℕ) (f s : Option Holding) (c : Option Slot) (es : List Element) (x y : Seen) → IsNamedNear f x y → IsBlindPlan (kind.TryUnwrap h) (row_of label id (kind.TryUnwrap h) (view f s c es x))
        → row_of label id (kind.TryUnwrap h) (view f s c es x) ≡ row_of label id (kind.TryUnwrap h) (view f s c es y)
    try_near h (Some (holding.Slot (Strong o))) s c es x y near b =
        absurd (neither (kind.TryUnwrap h) (x.strong == 1) (unwrapped label h o (fields_of x.entry)) (act answer.No [] [] (Some o)) (λ p. true_false (p.2 near.0).0) (λ p. true_false (p.2 near.0).0) b)
    try_near h (Some (holding.Slot (Weak o))) s c es x y near b = refl
    try_near h (Some (holding.Slot Nothing)) s c es x y near b = refl
    try_near h (Some (holding.Slot Dangling)) s c es x y near b = refl
    try_near h (Some (holding.Bare fields)) s c es x y near b = refl
    try_near h None s c es x y near b = refl

    into_near : (h : ℕ) (f s : Option Holding) (c : Option Slot) (es : List Element) (x y : Seen) → IsNamedNear f x y → IsBlindPlan (kind.IntoInner h) (row_of label id (kind.IntoInner h) (view f s c es x))
        → row_of label id (kind.IntoInner h) (view f s c es x) ≡ row_of label id (kind.IntoInner h) (view f s c es y)
    into_near h (Some (holding.Slot (Strong o))) s c es x y near b =
        absurd (neither (kind.IntoInner h) (x.strong == 1) (unwrapped label h o (fields_of x.entry)) (act answer.No (SetHandle label h (holding.Slot Nothing) ∷ []) (item.Slot (Strong o) ∷ []) (Some o))
        (λ p. true_false (p.2 near.0).0) (λ p. true_false (p.2 near.0).0) b)
    into_near h (Some (holding.Slot (Weak o))) s c es x y near b = refl
    into_near h (Some (holding.Slot Nothing)) s c es x y near b = refl
    into_near h (Some (holding.Slot Dangling)) s c es x y near b = refl
    into_near h (Some (holding.Bare fields)) s c es x y near b = refl
    into_near h None s c es x y near b = refl

    get_mut_near : (h : ℕ) (f s : Option Holding) (c : Option Slot) (es : List Element) (x y : Seen) → IsNamedNear f x y → IsBlindPlan (kind.GetMut h) (row_of label id (kind.GetMut h) (view f s c es x))
        → row_of label id (kind.GetMut h) (view f s c es x) ≡ row_of label id (kind.GetMut h) (view f s c es y)
    get_mut_near h (Some (holding.Slot (Strong o))) s c es x y near b = absurd (true_false (b.2 near.0).0)
    get_mut_near h (Some (holding.Slot (Weak o))) s c es x y near b = refl
    get_mut_near h (Some (holding.Slot Nothing)) s c es x y near b = refl
    get_mut_near h (Some (holding.Slot Dangling)) s c es x y near b = refl
    get_mut_near h (Some (holding.Bare fields)) s c es x y near b = refl
    get_mut_near h None s c es x y near b = refl

    make_mut_near : (h : ℕ) (f s : Option Holding) (c : Option Slot) (es : List Element) (x y : Seen) → IsNamedNear f x y → IsBlindPlan (kind.MakeMut h) (row_of label id (kind.MakeMut h) (view f s c es x))
        → row_of label id (kind.MakeMut h) (view f s c es x) ≡ row_of label id (kind.MakeMut h) (view f s c es y)
    make_mut_near h (Some (holding.Slot (Strong o))) s c es x y near b =
        absurd (neither (kind.MakeMut h) (x.strong == 1) _ _
        (neither (kind.MakeMut h) (x.weak == 0) _ _ (λ p. true_false (p.2 near.0).0) (λ p. let moved : a o ≡ false = p.0 in let close : a o ≡ true = near.0 in cc))
        (λ p. p.1 refl refl) b)
    make_mut_near h (Some (holding.Slot (Weak o))) s c es x y near b = refl
    make_mut_near h (Some (holding.Slot Nothing)) s c es x y near b = refl
    make_mut_near h (Some (holding.Slot Dangling)) s c es x y near b = refl
    make_mut_near h (Some (holding.Bare fields)) s c es x y near b = refl
    make_mut_near h None s c es x y near b = refl

    -- the methods of fields read one that is not loose, as they tell the object's counts; else they end with one reason
    write_near : (h i from : ℕ) (f s : Option Holding) (c : Option Slot) (es : List Element) (x y : Seen) → IsNamedNear f x y → IsBlindPlan (kind.Set h i from) (row_of label id (kind.Set h i from) (view f s c es x))
        → row_of label id (kind.Set h i from) (view f s c es x) ≡ row_of label id (kind.Set h i from) (view f s c es y)
    write_near h i from (Some (holding.Slot (Strong o))) (Some (holding.Slot s)) c es x y near b =
        field_near (kind.Set h i from) o i x.entry y.entry (λ old. act answer.Done (EndHandle from ∷ SetField o i s ∷ []) (item.Slot old ∷ []) (Some o)) near.0 near.1 (λ t p. (p.2 near.0).1 i refl) b
    write_near h i from (Some (holding.Slot (Strong o))) (Some (holding.Bare fields)) c es x y near b = refl
    write_near h i from (Some (holding.Slot (Strong o))) None c es x y near b = refl
    write_near h i from (Some (holding.Slot (Weak o))) s c es x y near b = refl
    write_near h i from (Some (holding.Slot Nothing)) s c es x y near b = refl
    write_near h i from (Some (holding.Slot Dangling)) s c es x y near b = refl
    write_near h i from (Some (holding.Bare fields)) s c es x y near b = refl
    write_near h i from None s c es x y near b = refl

    take_near : (h i to : ℕ) (f s : Option Holding) (c : Option Slot) (es : List Element) (x y : Seen) → IsNamedNear f x y → IsBlindPlan (kind.Take h i to) (row_of label id (kind.Take h i to) (view f s c es x))
        → row_of label id (kind.Take h i to) (view f s c es x) ≡ row_of label id (kind.Take h i to) (view f s c es y)
    take_near h i to (Some (holding.Slot (Strong o))) None c es x y near b =
        field_near (kind.Take h i to) o i x.entry y.entry (λ s. act answer.Done (SetHandle label to (holding.Slot s) ∷ SetField o i Nothing ∷ []) [] (Some o)) near.0 near.1 (λ t p. (p.2 near.0).1 i refl) b
    take_near h i to (Some (holding.Slot (Strong o))) (Some z) c es x y near b =
        at_same (kind.Take h i to) i _ _ (λ s. Skip (AlreadyHeld to)) (both_there (loose o) x.entry y.entry i near.1) (λ s t is was p. refl) b
    take_near h i to (Some (holding.Slot (Weak o))) s c es x y near b = refl
    take_near h i to (Some (holding.Slot Nothing)) s c es x y near b = refl
    take_near h i to (Some (holding.Slot Dangling)) s c es x y near b = refl
    take_near h i to (Some (holding.Bare fields)) s c es x y near b = refl
    take_near h i to None s c es x y near b = refl

    read_near : (h i to : ℕ) (f s : Option Holding) (c : Option Slot) (es : List Element) (x y : Seen) → IsNamedNear f x y → IsBlindPlan (kind.Get h i to) (row_of label id (kind.Get h i to) (view f s c es x))
        → row_of label id (kind.Get h i to) (view f s c es x) ≡ row_of label id (kind.Get h i to) (view f s c es y)
    read_near h i to (Some (holding.Slot (Strong o))) None c es x y near b =
        field_near (kind.Get h i to) o i x.entry y.entry (λ s. act answer.Done (SetHandle label to (holding.Slot s) ∷ []) [] (Some o)) near.0 near.1 (λ t p. (p.2 near.0).1 i refl) b
    read_near h i to (Some (holding.Slot (Strong o))) (Some z) c es x y near b =
        at_same (kind.Get h i to) i _ _ (λ s. Skip (AlreadyHeld to)) (both_there (loose o) x.entry y.entry i near.1) (λ s t is was p. refl) b
    read_near h i to (Some (holding.Slot (Weak o))) s c es x y near b = refl
    read_near h i to (Some (holding.Slot Nothing)) s c es x y near b = refl
    read_near h i to (Some (holding.Slot Dangling)) s c es x y near b = refl
    read_near h i to (Some (holding.Bare fields)) s c es x y near b = refl
    read_near h i to None s c es x y near b = refl

    -- all other rows don't read the object
    row_of_near : (kd : Kind) (f s : Option Holding) (c : Option Slot) (es : List Element) (x y : Seen) → IsNamedNear f x y → IsBlindPlan kd (row_of label id kd (view f s c es x))
        → row_of label id kd (view f s c es x) ≡ row_of label id kd (view f s c es y)
    row_of_near (kind.Upgrade from to) f s c es x y near b = upgrade_near from to f s c es x y near
    row_of_near (kind.TryUnwrap h) f s c es x y near b = try_near h f s c es x y near b
    row_of_near (kind.IntoInner h) f s c es x y near b = into_near h f s c es x y near b
    row_of_near (kind.GetMut h) f s c es x y near b = get_mut_near h f s c es x y near b
    row_of_near (kind.MakeMut h) f s c es x y near b = make_mut_near h f s c es x y near b
    row_of_near (kind.Set h i from) f s c es x y near b = write_near h i from f s c es x y near b
    row_of_near (kind.Take h i to) f s c es x y near b = take_near h i to f s c es x y near b
    row_of_near (kind.Get h i to) f s c es x y near b = read_near h i to f s c es x y near b
    row_of_near kd f s c es x y near b = refl

  -- a handle that is named twice is the reason in both
  repeated_near : (kd : Kind) (h : Option ℕ) (p q : Plan) → (IsBlindPlan kd p → p ≡ q) → IsBlindPlan kd (unless_repeated h p) → unless_repeated h p ≡ unless_repeated h q
  repeated_near kd None p q f b = f b
  repeated_near kd (Some h) p q f b = refl

  -- the whole row
  pub row_near : (op : Operation) (v : View) (y : Seen) → IfThere (λ o. (a o ≡ true) × AreEntriesNear (loose o) v.object.entry y.entry) (named_in v.first) → IsBlindPlan op.kind (row op v)
      → row op v ≡ row op (record v { object = y })
  row_near op v y near b = repeated_near op.kind (repeated op.kind) _ _ (row_of_near op.thread op.id op.kind v.first v.second v.cell v.elements v.object y near) b

  -- ---- its changes
  module _ (label id : ℕ) (new : a id ≡ false) (kd : Kind) where
    -- where the outcome tells so, no change makes or empties an object that is near, or sets a loose field
    abbrev Firm : Plan → Type 0
    Firm p = IsBlindPlan kd p → IsFirmPlan p

    -- handles that end set no object
    ending_firm : (es : List Element) (cs : List Change) → AllFirm cs → AllFirm (ending es cs)
    ending_firm [] cs s = s
    ending_firm (Read h x ∷ es) cs s = (tt, ending_firm es cs s)
    ending_firm (Null ∷ es) cs s = ending_firm es cs s
    ending_firm (Me ∷ es) cs s = ending_firm es cs s

    -- the field that is set is the one that the method names
    write_firm : (h : ℕ) (owner : Option ℕ) (fields : List Slot) (i : ℕ) (s : Slot) → field_index kd ≡ Some i
        → IfThere (λ o. a o ≡ true → (asks_counts kd ≡ false) × ((i : ℕ) → field_index kd ≡ Some i → loose o i ≡ false)) owner → IsFirm (write_field label h owner fields i s)
    write_firm h None fields i s at b = tt
    write_firm h (Some o) fields i s at b = λ c. (b c).1 i at

    new_firm : (to : ℕ) (es : List Element) (it : Option Holding) → Firm (new_row label id to es it)
    new_firm to es it =
        walk.at_all_held Firm (λ _ _. tt) (first_unheld es) _ (λ _. walk.at_all_slots Firm (λ _ _. tt) (first_bare es) _ (λ _. walk.at_unheld Firm (λ _ _. tt) to it _
        (λ _ b. ending_firm es (make label id (made_fields id es) to) (new, (tt, tt)))))

    -- what takes more than a line
    upgraded_firm : (to : ℕ) (e : Option Entry) (o : Option ℕ) → Firm (upgraded label to e o)
    upgraded_firm to e None = λ b. (tt, tt)
    upgraded_firm to e (Some o) = walk.at_test Firm (λ _ _. tt) (is_alive e) _ _ (λ _ b. (tt, tt)) (λ _ b. (tt, tt))

    unique_firm : (h o : ℕ) (it : Seen) → Firm (made_unique label id h o it)
    unique_firm h o it =
        walk.at_test Firm (λ _ _. tt) (it.strong == 1) _ _
        (λ _. walk.at_test Firm (λ _ _. tt) (it.weak == 0) _ _ (λ _ b. tt) (λ _ b. (b.0, (new, (tt, tt)))))
        (λ _ b. (new, (tt, tt)))

    dropped_firm : (h : ℕ) (x : Holding) → Firm (dropped h x)
    dropped_firm h (holding.Slot s) = λ b. (tt, tt)
    dropped_firm h (holding.Bare fields) = λ b. (tt, tt)

    swapped_firm : (c from : ℕ) (to : Option ℕ) (it : Option Holding) (old s : Slot) → Firm (swapped label c from to it old s)
    swapped_firm c from None it old s = λ b. (tt, (tt, tt))
    swapped_firm c from (Some to) it old s = walk.at_unheld Firm (λ _ _. tt) to it _ (λ _ b. (tt, (tt, (tt, tt))))

    exchanged_firm : (c expected desired : ℕ) (old e d : Slot) → Firm (exchanged label c expected desired old e d)
    exchanged_firm c expected desired old e d = walk.at_test Firm (λ _ _. tt) (same_pointer old e) _ _ (λ _ b. (tt, (tt, tt))) (λ _ b. (tt, (tt, tt)))

    set_firm : (h i from : ℕ) (y : Holding) (owner : Option ℕ) (fields : List Slot) → field_index kd ≡ Some i → Firm (set_field label h i from y owner fields)
    set_firm h i from y owner fields at =
        walk.at_slot Firm (λ _ _. tt) from y _ (λ s was. walk.at_field Firm (λ _ _. tt) i (slice_get fields i) _ (λ old got b. (tt, (write_firm h owner fields i s at b.2, tt))))

    take_firm : (h i to : ℕ) (it : Option Holding) (owner : Option ℕ) (fields : List Slot) → field_index kd ≡ Some i → Firm (take_field label h i to it owner fields)
    take_firm h i to it owner fields at =
        walk.at_field Firm (λ _ _. tt) i (slice_get fields i) _ (λ s got. walk.at_unheld Firm (λ _ _. tt) to it _ (λ _ b. (tt, (write_firm h owner fields i Nothing at b.2, tt))))

    copy_firm : (i to : ℕ) (it : Option Holding) (owner : Option ℕ) (fields : List Slot) → Firm (copy_field label i to it owner fields)
    copy_firm i to it owner fields = walk.at_field Firm (λ _ _. tt) i (slice_get fields i) _ (λ s got. walk.at_unheld Firm (λ _ _. tt) to it _ (λ _ b. (tt, tt)))

    row_of_firm : (k : Kind) → kd ≡ k → (v : View) → Firm (row_of label id k v)
    row_of_firm (kind.New to fields) same v = new_firm to v.elements v.first
    row_of_firm (kind.NewCyclic to fields) same v = new_firm to v.elements v.first
    row_of_firm (kind.NewFrom from to) same v =
        walk.at_held Firm (λ _ _. tt) from v.first _ (λ x is. walk.at_bare Firm (λ _ _. tt) from x _ (λ fields was. walk.at_unheld Firm (λ _ _. tt) to v.second _ (λ _ b. (tt, (new, (tt, tt))))))
    row_of_firm (kind.WeakNew to) same v = walk.at_unheld Firm (λ _ _. tt) to v.first _ (λ _ b. (tt, tt))
    row_of_firm (kind.Null to) same v = walk.at_unheld Firm (λ _ _. tt) to v.first _ (λ _ b. (tt, tt))
    row_of_firm (kind.Clone from to) same v =
        walk.at_held Firm (λ _ _. tt) from v.first _ (λ x is. walk.at_slot Firm (λ _ _. tt) from x _ (λ s was. walk.at_unheld Firm (λ _ _. tt) to v.second _ (λ _ b. (tt, tt))))
    row_of_firm (kind.Drop h) same v = walk.at_held Firm (λ _ _. tt) h v.first _ (λ x is. dropped_firm h x)
    row_of_firm (kind.Downgrade from to) same v =
        walk.at_held Firm (λ _ _. tt) from v.first _ (λ x is. walk.at_strong Firm (λ _ _. tt) from x _ (λ o was. walk.at_unheld Firm (λ _ _. tt) to v.second _ (λ _ b. (tt, tt))))
    row_of_firm (kind.Upgrade from to) same v =
        walk.at_held Firm (λ _ _. tt) from v.first _ (λ x is. walk.at_weak Firm (λ _ _. tt) from x _
        (λ o was. walk.at_unheld Firm (λ _ _. tt) to v.second _ (λ _. upgraded_firm to v.object.entry (Some o)))
        (walk.at_unheld Firm (λ _ _. tt) to v.second _ (λ _. upgraded_firm to v.object.entry None)))
    row_of_firm (kind.TryUnwrap h) same v =
        walk.at_held Firm (λ _ _. tt) h v.first _ (λ x is. walk.at_strong Firm (λ _ _. tt) h x _ (λ o was.
        walk.at_test Firm (λ _ _. tt) (v.object.strong == 1) _ _ (λ _ b. (b.0, (tt, tt))) (λ _ b. tt)))
    row_of_firm (kind.IntoInner h) same v =
        walk.at_held Firm (λ _ _. tt) h v.first _ (λ x is. walk.at_strong Firm (λ _ _. tt) h x _ (λ o was.
        walk.at_test Firm (λ _ _. tt) (v.object.strong == 1) _ _ (λ _ b. (b.0, (tt, tt))) (λ _ b. (tt, tt))))
    row_of_firm (kind.GetMut h) same v = walk.at_held Firm (λ _ _. tt) h v.first _ (λ x is. walk.at_strong Firm (λ _ _. tt) h x _ (λ o was b. tt))
    row_of_firm (kind.MakeMut h) same v = walk.at_held Firm (λ _ _. tt) h v.first _ (λ x is. walk.at_strong Firm (λ _ _. tt) h x _ (λ o was. unique_firm h o v.object))
    row_of_firm (kind.Counts h) same v =
        walk.at_held Firm (λ _ _. tt) h v.first _ (λ x is. walk.at_counted Firm (λ _ _. tt) h x _ (λ o was b. tt) (λ o was b. tt) (λ b. tt))
    row_of_firm (kind.PtrEq e d) same v =
        walk.at_held Firm (λ _ _. tt) e v.first _ (λ x is. walk.at_held Firm (λ _ _. tt) d v.second _ (λ y is_too.
        walk.at_strong Firm (λ _ _. tt) e x _ (λ o was. walk.at_strong Firm (λ _ _. tt) d y _ (λ p _ b. tt))))
    row_of_firm (kind.Set h i from) same v =
        walk.at_held Firm (λ _ _. tt) h v.first _ (λ x is. walk.at_held Firm (λ _ _. tt) from v.second _ (λ y is_too. walk.at_fields Firm (λ _ _. tt) h x v.object.entry _
        (λ o was. set_firm h i from y (Some o) (fields_of v.object.entry) (ap field_index same)) (λ fields was. set_firm h i from y None fields (ap field_index same))))
    row_of_firm (kind.Take h i to) same v =
        walk.at_held Firm (λ _ _. tt) h v.first _ (λ x is. walk.at_fields Firm (λ _ _. tt) h x v.object.entry _
        (λ o was. take_firm h i to v.second (Some o) (fields_of v.object.entry) (ap field_index same)) (λ fields was. take_firm h i to v.second None fields (ap field_index same)))
    row_of_firm (kind.Get h i to) same v =
        walk.at_held Firm (λ _ _. tt) h v.first _ (λ x is. walk.at_fields Firm (λ _ _. tt) h x v.object.entry _
        (λ o was. copy_firm i to v.second (Some o) (fields_of v.object.entry)) (λ fields was. copy_firm i to v.second None fields))
    row_of_firm (kind.CellNew c from) same v =
        walk.at_held Firm (λ _ _. tt) from v.first _ (λ x is. walk.at_pointer Firm (λ _ _. tt) from x _ (λ s was _. walk.at_absent_cell Firm (λ _ _. tt) c v.cell _ (λ _ b. (tt, (tt, tt)))))
    row_of_firm (kind.CellLoad c to) same v = walk.at_cell Firm (λ _ _. tt) c v.cell _ (λ s is. walk.at_unheld Firm (λ _ _. tt) to v.first _ (λ _ b. (tt, tt)))
    row_of_firm (kind.CellSwap c from to) same v =
        walk.at_cell Firm (λ _ _. tt) c v.cell _ (λ old had. walk.at_held Firm (λ _ _. tt) from v.first _ (λ x is. walk.at_pointer Firm (λ _ _. tt) from x _ (λ s was _. swapped_firm c from to v.second old s)))
    row_of_firm (kind.CellCas c expected desired) same v =
        walk.at_cell Firm (λ _ _. tt) c v.cell _ (λ old had. walk.at_held Firm (λ _ _. tt) expected v.first _ (λ x is. walk.at_held Firm (λ _ _. tt) desired v.second _ (λ y is_too.
        walk.at_pointer Firm (λ _ _. tt) expected x _ (λ e was _. walk.at_pointer Firm (λ _ _. tt) desired y _ (λ d was_too _. exchanged_firm c expected desired old e d)))))
    row_of_firm (kind.CellDrop c) same v = walk.at_cell Firm (λ _ _. tt) c v.cell _ (λ s is b. (tt, tt))
    row_of_firm kind.ScopeEnd same v = λ b. ending_firm v.elements [] tt

  -- the changes of the whole row
  pub row_firm : (op : Operation) (v : View) → a op.id ≡ false → IsBlindPlan op.kind (row op v) → IsFirmPlan (row op v)
  row_firm op v new =
      walk.at_repeated (λ p. IsBlindPlan op.kind p → IsFirmPlan p) (λ _ _. tt) (repeated op.kind) _ (λ _. row_of_firm op.thread op.id new op.kind op.kind refl v)
