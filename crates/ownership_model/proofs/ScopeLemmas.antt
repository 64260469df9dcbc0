-- Each held handle stands in one scope, once, whatever is changed.
use Rattle.std.proofs.Common.{◌≡◌, ℕ, ◌+◌, ◌≤◌, List, [], ◌∷◌, refl, ap, ◌∙◌, sym, subst, arith, Bool, true, false}
use Rattle.std.specs.Prelude.{Option, Some, None, ◌==◌, if◌then◌else◌, nat_le, not}
use Rattle.std.proofs.lemmas.Bool.Decides.{nat_tests}
use Rattle.std.specs.FinMap.{FinMap, get, get-empty}
use Rattle.std.specs.Ordering.{nat_cmp}
use Rattle.trace_types.specs.declared.slots.Scoped.{Scoped}
use Rattle.trace_types.specs.declared.slots.Holding.{Holding}
use Rattle.trace_types.specs.declared.slots.Change.{Change}
use Rattle.trace_types.specs.declared.slots.Change.TheVariants.{SetHandle, EndHandle, SetCell, EndCell, SetField, Make, TurnHusk}
use Rattle.ownership_model.specs.State.{State, nothing_held, IsScoped}
use Rattle.ownership_model.specs.Scopes.{scope_of, entered, kept_or_entered, left, times_in, AreFrom, times_held}
use Rattle.ownership_model.specs.Changes.{changed, changed_by}
use Rattle.ownership_model.proofs.MapLemmas.{get_inserted, get_removed}
use Rattle.ownership_model.proofs.CountLemmas.{same_number}

below : (a b : ℕ) → nat_le a b ≡ true → a ≤ b
below a b h = grind (arith, nat_tests)

above : (a b : ℕ) → nat_le a b ≡ false → b ≤ a
above a b h = grind (arith, nat_tests)

-- one, where both are the same
abbrev pub one_if : Bool → ℕ
one_if b = if b then 1 else 0

pub hit_is : (h q : ℕ) (b : Bool) → (h == q) ≡ b → one_if (h == q) ≡ one_if b
hit_is h q b e = ap one_if e

pub itself : (h : ℕ) → (h == h) ≡ true
itself h = grind (arith, nat_tests)

-- ---- a list of scopes
pub times-entered : (t h q : ℕ) (ss : List Scoped) → times_in q (entered t h ss) ≡ (if h == q then 1 else 0) + times_in q ss
times-entered t h q [] = refl
times-entered t h q (s ∷ ss) =
    elim (nat_le t s.label) as (λ b. times_in q (if b then record { label = t; handle = h } ∷ s ∷ ss else s ∷ entered t h ss) ≡ (if h == q then 1 else 0) + times_in q (s ∷ ss)) [
      | true ↦ refl
      | false ↦ omega (arith, times-entered t h q ss)
    ]

pub times-left : (h q : ℕ) (ss : List Scoped) → times_in q (left h ss) ≡ (if h == q then 0 else times_in q ss)
times-left h q [] = grind (arith)
times-left h q (s ∷ ss) = grind (arith, nat_tests, times-left h q ss)

pub from_entered : (u t h : ℕ) (ss : List Scoped) → u ≤ t → AreFrom u ss → AreFrom u (entered t h ss)
from_entered u t h [] low from = (low, tt)
from_entered u t h (s ∷ ss) low from =
    elim (nat_le t s.label) as (λ b. nat_le t s.label ≡ b → AreFrom u (if b then record { label = t; handle = h } ∷ s ∷ ss else s ∷ entered t h ss)) [
      | true ↦ λ e. (low, (below t s.label e, from.1))
      | false ↦ λ e. (from.0, from_entered s.label t h ss (above t s.label e) from.1)
    ] refl

pub from_lower : (u v : ℕ) (ss : List Scoped) → u ≤ v → AreFrom v ss → AreFrom u ss
from_lower u v [] low from = tt
from_lower u v (s ∷ ss) low from = (omega (arith, low, from.0), from.1)

pub from_left : (u h : ℕ) (ss : List Scoped) → AreFrom u ss → AreFrom u (left h ss)
from_left u h [] from = tt
from_left u h (s ∷ ss) from =
    elim (s.handle == h) as (λ b. AreFrom u (if not b then s ∷ left h ss else left h ss)) [
      | true ↦ from_lower u s.label (left h ss) from.0 (from_left s.label h ss from.1)
      | false ↦ (from.0, from_left s.label h ss from.1)
    ]

from_set : (o : Option Holding) (u t h : ℕ) (ss : List Scoped) → u ≤ t → AreFrom u ss → AreFrom u (kept_or_entered o t h ss)
from_set None u t h ss low from = from_entered u t h ss low from
from_set (Some x) u t h ss low from = from

-- ---- changes
set_once : (handles : FinMap nat_cmp Holding) (t h q : ℕ) (x : Holding) (ss : List Scoped) (o : Option Holding) → get handles h ≡ o → ((p : ℕ) → times_in p ss ≡ times_held (get handles p))
    → (b : Bool) → (h == q) ≡ b → times_in q (kept_or_entered o t h ss) ≡ times_held (if b then Some x else get handles q)
set_once handles t h q x ss None is once true e =
    let none : times_in q ss ≡ 0 = subst (λ p. times_in p ss ≡ 0) (same_number h q e) (once h ∙ ap times_held is) in
    omega (arith, times-entered t h q ss, none, hit_is h q true e)
set_once handles t h q x ss None is once false e =
    omega (arith, times-entered t h q ss, once q, hit_is h q false e)
set_once handles t h q x ss (Some y) is once true e = subst (λ p. times_in p ss ≡ 1) (same_number h q e) (once h ∙ ap times_held is)
set_once handles t h q x ss (Some y) is once false e = once q

end_once : (handles : FinMap nat_cmp Holding) (h q : ℕ) (ss : List Scoped) → ((p : ℕ) → times_in p ss ≡ times_held (get handles p)) → (b : Bool)
    → (if b then 0 else times_in q ss) ≡ times_held (if b then None else get handles q)
end_once handles h q ss once true = refl
end_once handles h q ss once false = once q

change_scoped : (m : State) (c : Change) → IsScoped m.handles m.scopes → IsScoped (changed_by m c).handles (changed_by m c).scopes
change_scoped m (SetHandle t h x) s = record {
  once = λ q. set_once m.handles t h q x m.scopes (get m.handles h) refl s.once (h == q) refl ∙ ap times_held (sym (get_inserted m.handles h x q));
  in_order = from_set (get m.handles h) 0 t h m.scopes (omega arith) s.in_order;
}
change_scoped m (EndHandle h) s = record {
  once = λ q. times-left h q m.scopes ∙ end_once m.handles h q m.scopes s.once (h == q) ∙ ap times_held (sym (get_removed m.handles h q));
  in_order = from_left 0 h m.scopes s.in_order;
}
change_scoped m (SetCell c x) s = s
change_scoped m (EndCell c) s = s
change_scoped m (SetField o i x) s = s
change_scoped m (Make o fields) s = s
change_scoped m (TurnHusk o) s = s

-- changes of any kind keep it, whether they can be made or not
pub changed_scoped : (cs : List Change) (m : State) → IsScoped m.handles m.scopes → IsScoped (changed m cs).handles (changed m cs).scopes
changed_scoped [] m s = s
changed_scoped (c ∷ cs) m s = changed_scoped cs (changed_by m c) (change_scoped m c s)

pub nothing_scoped : IsScoped nothing_held.handles nothing_held.scopes
nothing_scoped = record { once = λ h. sym (ap times_held (get-empty nat_cmp h)); in_order = tt }

-- ---- the scope of a label
abbrev pub times_among : ℕ → List ℕ → ℕ
times_among q [] = 0
times_among q (h ∷ hs) = (if h == q then 1 else 0) + times_among q hs

pub times_of_scope : (t q : ℕ) (ss : List Scoped) → times_among q (scope_of t ss) ≤ times_in q ss
times_of_scope t q [] = omega arith
times_of_scope t q (s ∷ ss) =
    elim (s.label == t) as (λ b. times_among q (if b then s.handle ∷ scope_of t ss else scope_of t ss) ≤ times_in q (s ∷ ss)) [
      | true ↦ omega (arith, times_of_scope t q ss)
      | false ↦ omega (arith, times_of_scope t q ss)
    ]
