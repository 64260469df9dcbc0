-- The end of a scope: its handles are held, each once, so they can end one after another, and what they held is to be dropped.
use Rattle.std.proofs.Common.{◌≡◌, ℕ, ◌+◌, ◌<◌, ◌≤◌, List, [], ◌∷◌, refl, ap, ◌∙◌, sym, subst, arith, Bool, true, false}
use Rattle.std.specs.Prelude.{Option, Some, None, ◌==◌, if◌then◌else◌, IsSome, map}
use Rattle.std.proofs.lemmas.Bool.Decides.{nat_tests}
use Rattle.std.specs.FinMap.{get, remove}
use Rattle.trace_types.specs.declared.slots.Slot.{Slot}
use Rattle.trace_types.specs.declared.slots.Holding.{Holding}
use Rattle.trace_types.specs.declared.slots.Holding.TheVariants as holding
use Rattle.trace_types.specs.declared.slots.Item.{Item}
use Rattle.trace_types.specs.declared.slots.Change.TheVariants.{EndHandle}
use Rattle.trace_types.specs.declared.kinds.Field.TheVariants as field
use Rattle.ownership_model.specs.State.{State, weight, holding_weight, items_weight, names_alike, ends, AreCountsSound, IsScoped}
use Rattle.ownership_model.specs.Scopes.{scope_of, times_held}
use Rattle.ownership_model.specs.Changes.{changed, changed_by, CanChange}
use Rattle.ownership_model.specs.View.{Element, Read, Null, Me, elements_of}
use Rattle.ownership_model.specs.Table.{ending, holding_drops, held_drops}
use Rattle.ownership_model.proofs.CountLemmas.{total-cut, get_cut_other, items_weight-drops, ends-drops, same_number, shape}
use Rattle.ownership_model.proofs.GroupLemmas.{moves_sound}
use Rattle.ownership_model.proofs.MapLemmas.{get_removed}
use Rattle.ownership_model.proofs.ScopeLemmas.{one_if, hit_is, times_among, times_of_scope}

-- each element's handle is held when its turn comes
abbrev Stand : State → List Element → Type 0
Stand n [] = Unit {0}
Stand n (Read h None ∷ es) = ⊥
Stand n (Read h (Some x) ∷ es) = (get n.handles h ≡ Some x) × Stand (changed_by n (EndHandle h)) es
Stand n (Null ∷ es) = Stand n es
Stand n (Me ∷ es) = Stand n es

can_end : (n : State) (es : List Element) → Stand n es → CanChange n (ending es [])
can_end n [] s = tt
can_end n (Read h None ∷ es) s = absurd s
can_end n (Read h (Some x) ∷ es) s = (subst (λ z. IsSome z) (sym s.0) refl, can_end (changed_by n (EndHandle h)) es s.1)
can_end n (Null ∷ es) s = can_end n es s
can_end n (Me ∷ es) s = can_end n es s

same_objects : (n : State) (es : List Element) → (changed n (ending es [])).objects ≡ n.objects
same_objects n [] = refl
same_objects n (Read h x ∷ es) = same_objects (changed_by n (EndHandle h)) es
same_objects n (Null ∷ es) = same_objects n es
same_objects n (Me ∷ es) = same_objects n es

holding-drops : (w : Slot → ℕ) (x : Holding) (rest : List Item) → items_weight w (holding_drops (Some x) rest) ≡ holding_weight w x + items_weight w rest
holding-drops w (holding.Slot s) rest = refl
holding-drops w (holding.Bare fields) rest = items_weight-drops w fields rest

-- what the handles held is pending
weight-ended : (w : Slot → ℕ) (n : State) (es : List Element) → Stand n es → weight w (changed n (ending es [])) (held_drops es) ≡ weight w n []
weight-ended w n [] s = refl
weight-ended w n (Read h None ∷ es) s = absurd s
weight-ended w n (Read h (Some x) ∷ es) s = omega (arith, holding-drops w x (held_drops es), total-cut (holding_weight w) n.handles h (Some x) s.0, weight-ended w (changed_by n (EndHandle h)) es s.1)
weight-ended w n (Null ∷ es) s = weight-ended w n es s
weight-ended w n (Me ∷ es) s = weight-ended w n es s

no_ends : (q : ℕ) (es : List Element) → ends q (held_drops es) ≡ 0
no_ends q [] = refl
no_ends q (Read h None ∷ es) = no_ends q es
no_ends q (Read h (Some (holding.Slot s)) ∷ es) = no_ends q es
no_ends q (Read h (Some (holding.Bare fields)) ∷ es) = ends-drops q fields (held_drops es) ∙ no_ends q es
no_ends q (Null ∷ es) = no_ends q es
no_ends q (Me ∷ es) = no_ends q es

at_most_one : (x : Option Holding) → times_held x ≤ 1
at_most_one None = omega arith
at_most_one (Some x) = omega arith

self_time : (h : ℕ) → one_if (h == h) ≡ one_if true
self_time h = hit_is h h true (grind (arith, nat_tests))

fewer : (h q a : ℕ) (x : Option Holding) (b : Bool) → (h == q) ≡ b → one_if (h == q) + a ≤ times_held x → a ≤ times_held (if b then None else x)
fewer h q a x true e few = omega (arith, few, hit_is h q true e, at_most_one x)
fewer h q a x false e few = omega (arith, few)

alone : (h a : ℕ) (x : Option Holding) → one_if (h == h) + a ≤ times_held x → 0 < a → ⊥
alone h a x few some = omega (arith, few, some, self_time h, at_most_one x)

-- each handle is held as often as it still stands there, and as before
record IsReady (m n : State) (hs : List ℕ) : Type 0 where
  few : (q : ℕ) → times_among q hs ≤ times_held (get n.handles q)
  same : (q : ℕ) → 0 < times_among q hs → get n.handles q ≡ get m.handles q

other : (m n : State) (h : ℕ) (hs : List ℕ) → IsReady m n (h ∷ hs) → (q : ℕ) → 0 < times_among q hs → (b : Bool) → (h == q) ≡ b → get (remove n.handles h) q ≡ get m.handles q
other m n h hs r q some true e = absurd (alone h (times_among h hs) (get n.handles h) (r.few h) (subst (λ k. 0 < times_among k hs) (sym (same_number h q e)) some))
other m n h hs r q some false e = get_cut_other n.handles h q e ∙ r.same q (omega (arith, some))

next : (m n : State) (h : ℕ) (hs : List ℕ) → IsReady m n (h ∷ hs) → IsReady m (changed_by n (EndHandle h)) hs
next m n h hs r = record {
  few = λ q. subst (λ x. times_among q hs ≤ times_held x) (sym (get_removed n.handles h q)) (fewer h q (times_among q hs) (get n.handles q) (h == q) refl (r.few q));
  same = λ q some. other m n h hs r q some (h == q) refl;
}

found : (m n : State) (h : ℕ) (hs : List ℕ) → IsReady m n (h ∷ hs) → (x : Option Holding) → get m.handles h ≡ x → Stand (changed_by n (EndHandle h)) (elements_of m (map field.Held hs)) → Stand n (Read h x ∷ elements_of m (map field.Held hs))
found m n h hs r None is rest =
    let none : times_held (get n.handles h) ≡ 0 = ap times_held (r.same h (omega (arith, self_time h)) ∙ is) in
    absurd (omega (arith, r.few h, none, self_time h))
found m n h hs r (Some x) is rest = (r.same h (omega (arith, self_time h)) ∙ is, rest)

-- handles of which each stands once among these, and is held
stand : (m n : State) (hs : List ℕ) → IsReady m n hs → Stand n (elements_of m (map field.Held hs))
stand m n [] r = tt
stand m n (h ∷ hs) r = found m n h hs r (get m.handles h) refl (stand m (changed_by n (EndHandle h)) hs (next m n h hs r))

module _ (m : State) (t : ℕ) (sound : AreCountsSound m []) (scoped : IsScoped m.handles m.scopes) where
  es : List Element
  es = elements_of m (map field.Held (scope_of t m.scopes))

  all_stand : Stand m es
  unfolding es
  all_stand = stand m m (scope_of t m.scopes) (record { few = λ q. omega (arith, times_of_scope t q m.scopes, scoped.once q); same = λ q some. refl })

  pub scope_end_carriable : CanChange m (ending (elements_of m (map field.Held (scope_of t m.scopes))) []) × AreCountsSound (changed m (ending (elements_of m (map field.Held (scope_of t m.scopes))) [])) (held_drops (elements_of m (map field.Held (scope_of t m.scopes))))
  unfolding es
  scope_end_carriable = (
    can_end m es all_stand,
    moves_sound m (changed m (ending es [])) (held_drops es) sound (λ s. weight-ended (names_alike s) m es all_stand) (λ q. no_ends q es) (λ q. ap (λ x. shape (get x q)) (same_objects m es)),
  )
