-- How the scopes of the new state are made out of the old ones: all handles that differ go, and those that the new state holds are put in,
-- one after another (profile of this project).
use Rattle.std.specs.Prelude.{ℕ, ◌≡◌, ◌==◌, ◌⊎◌, List, [], ◌∷◌, Option, Some, None, Bool, true, false, not, filter, flat_map, option_to_list, if◌then◌else◌, IsTrue}
use Rattle.std.specs.FinMap.{get}
use Rattle.trace_types.specs.Operation.{Operation}
use Rattle.trace_types.specs.Trace.{has_distinct_numbers}
use Rattle.ownership_model.specs.declared.key.Key.TheVariants.{Handle}
use Rattle.ownership_model.specs.State.{State, IsSound}
use Rattle.ownership_model.specs.Scopes.{scope_of}
use Rattle.ownership_model.specs.Step.{end_from, AreUnused}
use Rattle.ownership_model.specs.Reach.{has}
use Rattle.object_heap.specs.Links.{first_of, label_in, under, put_above}
use Rattle.heap_difference.specs.declared.key_set.KeySet.{KeySet}
use Rattle.object_heap.specs.declared.put.Put.{Put}
use Rattle.heap_difference.specs.KeySets.{is_among, meet}
use Rattle.heap_difference.specs.Differences.{IsDifference, AreScopesAlike, less}
use Rattle.heap_difference.specs.Laws.{HasTouched}
use Rattle.heap_difference.specs.Endings.{may_end_any}

-- the scope of a label, once these handles are put in
abbrev pub put_all : List Put → ℕ → List ℕ → List ℕ
put_all [] t xs = xs
put_all (p ∷ ps) t xs = put_all ps t (if p.label == t then put_above p.under p.handle xs else xs)

-- these are the handles of the set that the state holds, each with its scope, and with the first handle under it of those that are not in the
-- set, or come before it in the list
abbrev pub ArePuts : (ℕ → Bool) → State → List Put → Type 0
ArePuts k m [] = (h : ℕ) → k h ≡ true → get m.handles h ≡ None
ArePuts k m (p ∷ ps) =
    (k p.handle ≡ true) × (get m.handles p.handle ≡ Some p.holding) × (label_in p.handle m.scopes ≡ Some p.label)
    × (p.under ≡ first_of (filter (λ g. not (k g)) (under p.handle m.scopes))) × ArePuts (less k p.handle) m ps

-- Where the scopes of two sound states are alike on all handles outside a set, those of the new state are the old ones without the set, with
-- the puts of the new state put in
abbrev pub PutsMakeScopes : Type 0
PutsMakeScopes = (k : ℕ → Bool) (old new : State) (puts : List Put) → IsSound new [] → AreScopesAlike k old new → ArePuts k new puts
    → (t : ℕ) → scope_of t new.scopes ≡ put_all puts t (filter (λ g. not (k g)) (scope_of t old.scopes))

-- the handle under one that is put in, if there is one, is not touched
abbrev pub IsUnderApart : KeySet → Put → Type 0
IsUnderApart keys p = (b : ℕ) → p.under ≡ Some b → is_among keys (Handle b) ≡ false

-- no handle under one that is put in is touched
abbrev pub AreUndersApart : KeySet → List Put → Type 0
AreUndersApart keys [] = Unit {0}
AreUndersApart keys (p ∷ ps) = IsUnderApart keys p × AreUndersApart keys ps

-- the handles under those that are put in
abbrev pub unders : List Put → List ℕ
unders puts = flat_map (λ p. option_to_list p.under) puts

-- none of the handles under those that are put in is touched, or by what the operations name they may end none of them
abbrev pub DoUndersStay : KeySet → List Operation → List Put → Type 0
DoUndersStay keys ops puts = AreUndersApart keys puts ⊎ (may_end_any ops (unders puts) ≡ false)

-- Over operations that touch no key that differs, and under which the handles under those that are put in stay, the puts stay as they are
abbrev pub PutsStay : Type 0
PutsStay = (d keys : KeySet) (old new : State) (puts : List Put) (ops : List Operation) → IsDifference d old new → HasTouched keys old ops → meet d keys ≡ false → DoUndersStay keys ops puts
    → IsSound old [] → IsSound new [] → IsTrue (has_distinct_numbers ops) → AreUnused old ops → AreUnused new ops
    → ArePuts (λ h. has h d.handles) new puts → ArePuts (λ h. has h d.handles) (end_from new ops) puts

-- For private functions alone: the put of a handle of the set, if the state holds it
abbrev pub IsPutOf : (ℕ → Bool) → State → ℕ → Option Put → Type 0
IsPutOf k m h None = k h ≡ true → get m.handles h ≡ None
IsPutOf k m h (Some p) =
    (p.handle ≡ h) × (k h ≡ true) × (get m.handles h ≡ Some p.holding) × (label_in h m.scopes ≡ Some p.label)
    × (p.under ≡ first_of (filter (λ g. not (k g)) (under h m.scopes)))
