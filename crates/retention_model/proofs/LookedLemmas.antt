-- What an operation doesn't look at stays: no change of its row sets it, and no event of its release tells of the object that has it.
use Rattle.std.proofs.Common.{◌≡◌, ℕ, zero, suc, List, [], ◌∷◌, ◌++◌, refl, ap, ◌∙◌, sym, Bool, true, false}
use Rattle.std.specs.Prelude.{Option, Some, None, option_to_list, ◌==◌, ◌||◌}
use Rattle.std.specs.List.{list_any}
use Rattle.std.proofs.lemmas.List.Folds.{list_any-append}
use Rattle.std.specs.FinMap.{get}
use Rattle.trace_types.specs.declared.slots.Slot.{Slot}
use Rattle.trace_types.specs.declared.slots.Entry.TheVariants.{Alive, Husk}
use Rattle.trace_types.specs.declared.slots.Item.{Item}
use Rattle.trace_types.specs.declared.slots.Change.{Change}
use Rattle.trace_types.specs.declared.slots.Change.TheVariants.{SetHandle, EndHandle, SetCell, EndCell, SetField, Make, TurnHusk}
use Rattle.trace_types.specs.declared.outcomes.Event.{Event}
use Rattle.ownership_model.specs.declared.plan.Plan.{Plan}
use Rattle.ownership_model.specs.declared.plan.Plan.TheVariants.{Skip, Act}
use Rattle.ownership_model.specs.State.{State}
use Rattle.ownership_model.specs.Changes.{changed, changed_by, with_field}
use Rattle.ownership_model.specs.Release.{Fate, Stays, Falls, Goes, fate, left_by, drop_first, release, release_within, work}
use Rattle.ownership_model.specs.Step.{carried_out}
use Rattle.ownership_model.proofs.CountLemmas.{get_set_other, get_cut_other}
use Rattle.ownership_model.proofs.LeastLemmas.{kept_roots}
use Rattle.retention_model.specs.declared.place.Place.{Place}
use Rattle.retention_model.specs.declared.place.Place.TheVariants.{Handle, Cell, Field}
use Rattle.retention_model.specs.Places.{at, held_at, field_at}
use Rattle.retention_model.specs.Looked.{sets, tells, is_set, is_looked_at}

neither : (a b : Bool) → (a || b) ≡ false → (a ≡ false) × (b ≡ false)
neither true b h = absurd cc
neither false b h = (refl, h)

-- a change that doesn't set a place
change_stays : (m : State) (c : Change) (p : Place) → sets p c ≡ false → at (changed_by m c) p ≡ at m p
change_stays m (SetHandle t g held) (Handle h i) apart = ap (λ x. held_at x i) (get_set_other m.handles g held h apart)
change_stays m (SetHandle t g held) (Cell c) apart = refl
change_stays m (SetHandle t g held) (Field o i) apart = refl
change_stays m (EndHandle g) (Handle h i) apart = ap (λ x. held_at x i) (get_cut_other m.handles g h apart)
change_stays m (EndHandle g) (Cell c) apart = refl
change_stays m (EndHandle g) (Field o i) apart = refl
change_stays m (SetCell d s) (Handle h i) apart = refl
change_stays m (SetCell d s) (Cell c) apart = get_set_other m.cells d s c apart
change_stays m (SetCell d s) (Field o i) apart = refl
change_stays m (EndCell d) (Handle h i) apart = refl
change_stays m (EndCell d) (Cell c) apart = get_cut_other m.cells d c apart
change_stays m (EndCell d) (Field o i) apart = refl
change_stays m (SetField q j s) (Handle h i) apart = refl
change_stays m (SetField q j s) (Cell c) apart = refl
change_stays m (SetField q j s) (Field o i) apart = ap (λ x. field_at x i) (get_set_other m.objects q (with_field (get m.objects q) j s) o apart)
change_stays m (Make q fields) (Handle h i) apart = refl
change_stays m (Make q fields) (Cell c) apart = refl
change_stays m (Make q fields) (Field o i) apart = ap (λ x. field_at x i) (get_set_other m.objects q (Alive fields) o apart)
change_stays m (TurnHusk q) (Handle h i) apart = refl
change_stays m (TurnHusk q) (Cell c) apart = refl
change_stays m (TurnHusk q) (Field o i) apart = ap (λ x. field_at x i) (get_set_other m.objects q Husk o apart)

-- of a place p
module _ (p : Place) where
  changes_stay : (m : State) (cs : List Change) → list_any (sets p) cs ≡ false → at (changed m cs) p ≡ at m p
  changes_stay m [] apart = refl
  changes_stay m (c ∷ cs) apart =
      let each = neither (sets p c) (list_any (sets p) cs) apart in
      changes_stay (changed_by m c) cs each.1 ∙ change_stays m c p each.0

-- what the drop of one item leaves of an object of which its event doesn't tell
left_stays : (m : State) (rest : List Item) (f : Fate) (o i : ℕ) → list_any (tells (Field o i)) (left_by m rest f).events ≡ false
    → get (left_by m rest f).state.objects o ≡ get m.objects o
left_stays m rest Stays o i apart = refl
left_stays m rest (Falls q fields) o i apart = get_set_other m.objects q Husk o (neither (q == o) false apart).0
left_stays m rest (Goes q) o i apart = get_cut_other m.objects q o (neither (q == o) false apart).0

within_stays : (n : ℕ) (m : State) (pending : List Item) (o i : ℕ) → list_any (tells (Field o i)) (release_within n m pending).events ≡ false
    → get (release_within n m pending).state.objects o ≡ get m.objects o
within_stays n m [] o i apart = refl
within_stays zero m (x ∷ xs) o i apart = refl
within_stays (suc n) m (x ∷ xs) o i apart =
    let d = drop_first m x xs in
    let each = neither (list_any (tells (Field o i)) d.events) (list_any (tells (Field o i)) (release_within n d.state d.pending).events)
    (sym (list_any-append (tells (Field o i)) d.events (release_within n d.state d.pending).events) ∙ apart) in
    within_stays n d.state d.pending o i each.1 ∙ left_stays m xs (fate m x xs) o i each.0

-- what a release leaves
release_stays : (m : State) (pending : List Item) (p : Place) → list_any (tells p) (release m pending).events ≡ false → at (release m pending).state p ≡ at m p
unfolding release
release_stays m pending (Handle h i) apart = ap (λ hs. held_at (get hs h) i) (kept_roots m pending).0
release_stays m pending (Cell c) apart = ap (λ cs. get cs c) (kept_roots m pending).1
release_stays m pending (Field o i) apart = ap (λ x. field_at x i) (within_stays (work m pending) m pending o i apart)

-- the events of a release are among those of the operation
told_release : (p : Place) (e : Option Event) (es : List Event) → list_any (tells p) (option_to_list e ++ es) ≡ false → list_any (tells p) es ≡ false
told_release p None es apart = apart
told_release p (Some e) es apart = (neither (tells p e) (list_any (tells p) es) apart).1

pub carried_stays : (p : Place) (m : State) (id : ℕ) (plan : Plan) → is_looked_at p plan (carried_out m id plan).outcome.events ≡ false
    → at (carried_out m id plan).state p ≡ at m p
carried_stays p m id (Skip reason) apart = refl
carried_stays p m id (Act answer changes event pending object) apart =
    let events = (release (changed m changes) pending).events in
    let each = neither (list_any (sets p) changes) (list_any (tells p) (option_to_list event ++ events)) apart in
    release_stays (changed m changes) pending p (told_release p event events each.1) ∙ changes_stay p m changes each.0
