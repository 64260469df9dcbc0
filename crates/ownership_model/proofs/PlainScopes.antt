-- A handle enters scopes at a place of their list.
use Rattle.std.proofs.Common.{◌≡◌, ℕ, ◌+◌, ◌<◌, suc, zero, List, [], ◌∷◌, ◌++◌, length, refl, ap, ◌∙◌, sym, append_assoc, arith}
use Rattle.std.specs.Prelude.{Option, Some, None}
use Rattle.std.specs.List.{insert}
use Rattle.std.proofs.lemmas.Bool.Decides.{nat_tests}
use Rattle.trace_types.specs.declared.slots.Scoped.{Scoped}
use Rattle.trace_types.specs.declared.slots.Slot.{Slot}
use Rattle.trace_types.specs.declared.slots.Holding.{Holding}
use Rattle.trace_types.specs.declared.slots.Holding.TheVariants as holding
use Rattle.trace_types.specs.declared.slots.Item.{Item}
use Rattle.trace_types.specs.declared.slots.Item.TheVariants as item
use Rattle.ownership_model.specs.Release.{drops}
use Rattle.ownership_model.specs.View.{Element, Read, Null, Me}
use Rattle.ownership_model.specs.Table.{holding_drops, held_drops}
use Rattle.ownership_model.specs.Scopes.{entered}
use Rattle.ownership_model.specs.Places.{label_from}

pub entered_last : (t h n : ℕ) (ss : List Scoped) → label_from t n ss ≡ None → entered t h ss ≡ ss ++ record { label = t; handle = h } ∷ []
entered_last t h n [] e = refl
entered_last t h n (s ∷ ss) e = grind (arith, nat_tests, entered_last t h (n + 1) ss)

pub place_bound : (t n i : ℕ) (ss : List Scoped) → label_from t n ss ≡ Some i → (i < n + length ss) × (n < suc i)
place_bound t n i [] e = absurd cc
place_bound t n i (s ∷ ss) e = grind (arith, nat_tests, place_bound t (n + 1) i ss)

pub entered_at : (t h n at i : ℕ) (ss : List Scoped) → label_from t n ss ≡ Some at → at ≡ n + i → entered t h ss ≡ insert ss i (record { label = t; handle = h })
entered_at t h n at i [] e is = absurd cc
entered_at t h n at zero (s ∷ ss) e is = grind (arith, nat_tests, place_bound t (n + 1) at ss)
entered_at t h n at (suc i) (s ∷ ss) e is = grind (arith, nat_tests, place_bound t (n + 1) at ss, entered_at t h (n + 1) at i ss)

drops-first : (fields : List Slot) (rest : List Item) → drops fields rest ≡ drops fields [] ++ rest
drops-first [] rest = refl
drops-first (s ∷ fields) rest = ap (λ is. item.Slot s ∷ is) (drops-first fields rest)

-- what a handle holds is dropped before the rest
pub held_first : (x : Option Holding) (rest : List Item) → holding_drops x rest ≡ holding_drops x [] ++ rest
held_first None rest = refl
held_first (Some (holding.Slot s)) rest = refl
held_first (Some (holding.Bare fields)) rest = drops-first fields rest

pub held_next : (before : List Item) (e : Element) (es : List Element) → (before ++ held_drops (e ∷ [])) ++ held_drops es ≡ before ++ held_drops (e ∷ es)
held_next before (Read h x) es = append_assoc before (holding_drops x []) (held_drops es) ∙ ap (λ is. before ++ is) (sym (held_first x (held_drops es)))
held_next before Null es = append_assoc before [] (held_drops es)
held_next before Me es = append_assoc before [] (held_drops es)

pub ruleset entering = (entered_last, place_bound, entered_at)
