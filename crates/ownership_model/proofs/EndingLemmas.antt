-- The handles that `fields` names end one after another, and what they held moves into the new object.
use Rattle.std.proofs.Common.{◌≡◌, ℕ, ◌+◌, List, [], ◌∷◌, refl, ap, ◌∙◌, sym, subst, arith, Bool, true, false}
use Rattle.std.specs.Prelude.{Option, Some, None, ◌==◌, ◌||◌, if◌then◌else◌, IsSome}
use Rattle.std.specs.List.{list_any}
use Rattle.std.specs.FinMap.{get, insert}
use Rattle.trace_types.specs.declared.slots.Slot.{Slot}
use Rattle.trace_types.specs.declared.slots.Slot.TheVariants.{Nothing, Strong, Weak, Dangling}
use Rattle.trace_types.specs.declared.slots.Holding.{Holding}
use Rattle.trace_types.specs.declared.slots.Holding.TheVariants as holding
use Rattle.trace_types.specs.declared.slots.Entry.{Entry}
use Rattle.trace_types.specs.declared.slots.Entry.TheVariants.{Alive}
use Rattle.trace_types.specs.declared.slots.Change.{Change}
use Rattle.trace_types.specs.declared.slots.Change.TheVariants.{EndHandle}
use Rattle.trace_types.specs.declared.kinds.Field.{Field}
use Rattle.trace_types.specs.declared.kinds.Field.TheVariants as field
use Rattle.ownership_model.specs.State.{State, weight, holding_weight, entry_weight, slots_weight, names_alike, AreCountsSound}
use Rattle.ownership_model.specs.Changes.{changed, changed_by, CanChange}
use Rattle.ownership_model.specs.declared.plan.Plan.{Plan}
use Rattle.ownership_model.specs.declared.plan.Plan.TheVariants.{Skip, Act}
use Rattle.ownership_model.specs.View.{Element, Read, Null, Me, elements_of, held_fields, repeated_in}
use Rattle.ownership_model.specs.Table.{new_row, made_fields, ending, first_unheld, first_bare, make}
use Rattle.ownership_model.proofs.WalkLemmas as walk
use Rattle.ownership_model.proofs.MapLemmas.{get_inserted}
use Rattle.ownership_model.proofs.CountLemmas.{total-set, total-cut, get_cut_none, get_cut_other, shape, other_weak}
use Rattle.ownership_model.proofs.GroupLemmas.{makes_sound}

-- the changes of a plan can be made, and leave sound counts
abbrev pub CountsCarriable : State → Plan → Type 0
CountsCarriable m (Skip reason) = Unit {0}
CountsCarriable m (Act answer changes event pending object) = CanChange m changes × AreCountsSound (changed m changes) pending

-- each element's handle holds a slot when its turn comes
abbrev Ready : State → List Element → Type 0
Ready n [] = Unit {0}
Ready n (Read h None ∷ es) = ⊥
Ready n (Read h (Some (holding.Slot s)) ∷ es) = (get n.handles h ≡ Some (holding.Slot s)) × Ready (changed_by n (EndHandle h)) es
Ready n (Read h (Some (holding.Bare fields)) ∷ es) = ⊥
Ready n (Null ∷ es) = Ready n es
Ready n (Me ∷ es) = Ready n es

abbrev ended : State → List Element → State
ended n [] = n
ended n (Read h x ∷ es) = ended (changed_by n (EndHandle h)) es
ended n (Null ∷ es) = ended n es
ended n (Me ∷ es) = ended n es

changed-ending : (n : State) (es : List Element) (cs : List Change) → changed n (ending es cs) ≡ changed (ended n es) cs
changed-ending n [] cs = refl
changed-ending n (Read h x ∷ es) cs = changed-ending (changed_by n (EndHandle h)) es cs
changed-ending n (Null ∷ es) cs = changed-ending n es cs
changed-ending n (Me ∷ es) cs = changed-ending n es cs

can_end : (n : State) (es : List Element) (cs : List Change) → Ready n es → CanChange (ended n es) cs → CanChange n (ending es cs)
can_end n [] cs r c = c
can_end n (Read h None ∷ es) cs r c = absurd r
can_end n (Read h (Some (holding.Slot s)) ∷ es) cs r c = (subst (λ z. IsSome z) (sym r.0) refl, can_end (changed_by n (EndHandle h)) es cs r.1 c)
can_end n (Read h (Some (holding.Bare fields)) ∷ es) cs r c = absurd r
can_end n (Null ∷ es) cs r c = can_end n es cs r c
can_end n (Me ∷ es) cs r c = can_end n es cs r c

same_objects : (n : State) (es : List Element) → (ended n es).objects ≡ n.objects
same_objects n [] = refl
same_objects n (Read h x ∷ es) = same_objects (changed_by n (EndHandle h)) es
same_objects n (Null ∷ es) = same_objects n es
same_objects n (Me ∷ es) = same_objects n es

still_free : (n : State) (es : List Element) (to : ℕ) → get n.handles to ≡ None → get (ended n es).handles to ≡ None
still_free n [] to free = free
still_free n (Read h x ∷ es) to free = still_free (changed_by n (EndHandle h)) es to (get_cut_none n.handles h to free)
still_free n (Null ∷ es) to free = still_free n es to free
still_free n (Me ∷ es) to free = still_free n es to free

-- the weak slots that `me` makes
abbrev me_weight : (Slot → ℕ) → ℕ → List Element → ℕ
me_weight w id [] = 0
me_weight w id (Read h x ∷ es) = me_weight w id es
me_weight w id (Null ∷ es) = me_weight w id es
me_weight w id (Me ∷ es) = w (Weak id) + me_weight w id es

weight-ended : (w : Slot → ℕ) (n : State) (id : ℕ) (es : List Element) → w Nothing ≡ 0 → Ready n es → weight w (ended n es) [] + slots_weight w (made_fields id es) ≡ me_weight w id es + weight w n []
weight-ended w n id [] none r = omega arith
weight-ended w n id (Read h None ∷ es) none r = absurd r
weight-ended w n id (Read h (Some (holding.Slot s)) ∷ es) none r = omega (arith, total-cut (holding_weight w) n.handles h (Some (holding.Slot s)) r.0, weight-ended w (changed_by n (EndHandle h)) id es none r.1)
weight-ended w n id (Read h (Some (holding.Bare fields)) ∷ es) none r = absurd r
weight-ended w n id (Null ∷ es) none r = omega (arith, none, weight-ended w n id es none r)
weight-ended w n id (Me ∷ es) none r = omega (arith, weight-ended w n id es none r)

not_both : (a b : Bool) → (a || b) ≡ false → (a ≡ false) × (b ≡ false)
not_both true b e = absurd cc
not_both false b e = (refl, e)

not_repeated : (b : Bool) (h : ℕ) (x : Option ℕ) → (if b then Some h else x) ≡ None → (b ≡ false) × (x ≡ None)
not_repeated true h x e = absurd cc
not_repeated false h x e = (refl, e)

ready : (m n : State) (fs : List Field) (before : List ℕ) → ((q : ℕ) → list_any (λ b. b == q) before ≡ false → get n.handles q ≡ get m.handles q)
    → repeated_in before (held_fields fs) ≡ None → first_unheld (elements_of m fs) ≡ None → first_bare (elements_of m fs) ≡ None → Ready n (elements_of m fs)
ready m n [] before same apart held slots = tt
ready m n (field.Null ∷ fs) before same apart held slots = ready m n fs before same apart held slots
ready m n (field.Me ∷ fs) before same apart held slots = ready m n fs before same apart held slots
ready m n (field.Held h ∷ fs) before same apart held slots =
    let parts : (list_any (λ b. b == h) before ≡ false) × (repeated_in (h ∷ before) (held_fields fs) ≡ None) = not_repeated (list_any (λ b. b == h) before) h (repeated_in (h ∷ before) (held_fields fs)) apart in
    at (get m.handles h) refl held slots (same h parts.0)
    (λ p q. ready m (changed_by n (EndHandle h)) fs (h ∷ before)
    (λ k e. let two : ((h == k) ≡ false) × (list_any (λ b. b == k) before ≡ false) = not_both (h == k) (list_any (λ b. b == k) before) e in get_cut_other n.handles h k two.0 ∙ same k two.1)
    parts.1 p q)
  where
    at : (x : Option Holding) → get m.handles h ≡ x → first_unheld (Read h x ∷ elements_of m fs) ≡ None → first_bare (Read h x ∷ elements_of m fs) ≡ None → get n.handles h ≡ x
        → (first_unheld (elements_of m fs) ≡ None → first_bare (elements_of m fs) ≡ None → Ready (changed_by n (EndHandle h)) (elements_of m fs)) → Ready n (Read h x ∷ elements_of m fs)
    at None is p q e r = absurd cc
    at (Some (holding.Slot s)) is p q e r = (e, r p q)
    at (Some (holding.Bare fields)) is p q e r = absurd cc

me_strong : (q id : ℕ) (es : List Element) → me_weight (names_alike (Strong q)) id es ≡ 0
me_strong q id [] = refl
me_strong q id (Read h x ∷ es) = me_strong q id es
me_strong q id (Null ∷ es) = me_strong q id es
me_strong q id (Me ∷ es) = omega (arith, me_strong q id es)

me_other : (q id : ℕ) (es : List Element) → (id == q) ≡ false → me_weight (names_alike (Weak q)) id es ≡ 0
me_other q id [] apart = refl
me_other q id (Read h x ∷ es) apart = me_other q id es apart
me_other q id (Null ∷ es) apart = me_other q id es apart
me_other q id (Me ∷ es) apart = omega (arith, other_weak q id apart, me_other q id es apart)

nothing_hits : (t : Slot) → names_alike t Nothing ≡ 0
nothing_hits Nothing = refl
nothing_hits (Strong o) = refl
nothing_hits (Weak o) = refl
nothing_hits Dangling = refl

made_shape : (fields : List Slot) (x : Option Entry) (b : Bool) → shape (if b then Some (Alive fields) else x) ≡ (if b then 1 else shape x)
made_shape fields x true = refl
made_shape fields x false = refl

pub new_carriable : (m : State) (label id to : ℕ) (fs : List Field) → AreCountsSound m [] → get m.objects id ≡ None → repeated_in (to ∷ []) (held_fields fs) ≡ None → CountsCarriable m (new_row label id to (elements_of m fs) (get m.handles to))
new_carriable m label id to fs sound new apart =
    walk.at_all_held (CountsCarriable m) (λ _. tt) (first_unheld (elements_of m fs)) _ (λ held. walk.at_all_slots (CountsCarriable m) (λ _. tt) (first_bare (elements_of m fs)) _ (λ slots. walk.at_unheld (CountsCarriable m) (λ _. tt) to (get m.handles to) _ (λ free.
    let es : List Element = elements_of m fs in
    let fields : List Slot = made_fields id es in
    let n : State = ended m es in
    let r : Ready m es = ready m m fs (to ∷ []) (λ q _. refl) apart held slots in
    let absent : get n.objects id ≡ None = ap (λ x. get x id) (same_objects m es) ∙ new in
    let none : get n.handles to ≡ None = still_free m es to free in
    let made : AreCountsSound (changed n (make label id fields to)) [] = makes_sound m (changed n (make label id fields to)) [] sound id (λ t. me_weight (names_alike t) id es)
    (λ t. omega (arith, total-set (entry_weight (names_alike t)) n.objects id (Alive fields) None absent, total-set (holding_weight (names_alike t)) n.handles to (holding.Slot (Strong id)) None none, weight-ended (names_alike t) m id es (nothing_hits t) r))
    (λ q _ p. absurd (omega (arith, p, me_strong q id es))) (λ q other p. absurd (omega (arith, p, me_other q id es other))) (λ q. refl)
    (λ q. ap (λ x. shape (get (insert x id (Alive fields)) q)) (same_objects m es) ∙ ap shape (get_inserted m.objects id (Alive fields) q) ∙ made_shape fields (get m.objects q) (id == q)) in
    (can_end m es (make label id fields to) r (absent, (tt, tt)), subst (λ (x : State). AreCountsSound x []) (sym (changed-ending m es (make label id fields to))) made))))
