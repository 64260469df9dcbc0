-- A scope, walked from the handle made last to the one made first.
use Rattle.std.proofs.Common.{◌≡◌, ℕ, zero, suc, ◌+◌, ◌<◌, ◌≤◌, List, [], ◌∷◌, ◌++◌, length, drop, get_or, refl, ap, ◌∙◌, sym, append_assoc, length-append, arith, Bool, true, false}
use Rattle.std.specs.Prelude.{Option, Some, None, ◌==◌, if◌then◌else◌, map}
use Rattle.std.proofs.lemmas.Bool.Decides.{nat_tests}
use Rattle.std.proofs.lemmas.List.{drop_more}
use Rattle.std.specs.FinMap.{get}
use Rattle.trace_types.specs.declared.slots.Scoped.{Scoped}
use Rattle.trace_types.specs.declared.slots.Slot.{Slot}
use Rattle.trace_types.specs.declared.slots.Holding.{Holding}
use Rattle.trace_types.specs.declared.slots.Holding.TheVariants as holding
use Rattle.trace_types.specs.declared.slots.Item.{Item}
use Rattle.trace_types.specs.declared.slots.Item.TheVariants as item
use Rattle.trace_types.specs.declared.slots.Change.{Change}
use Rattle.trace_types.specs.declared.slots.Change.TheVariants.{EndHandle}
use Rattle.trace_types.specs.declared.kinds.Field.TheVariants as field
use Rattle.ownership_model.specs.State.{State, IsSound}
use Rattle.ownership_model.specs.Scopes.{scope_of, times_in, times_held}
use Rattle.ownership_model.specs.Release.{drops}
use Rattle.ownership_model.specs.View.{elements_of}
use Rattle.ownership_model.specs.Table.{ending, holding_drops, held_drops}
use Rattle.object_heap.specs.Links.{first_of, earlier_in}

-- a place at which a handle stands is within the scope
within : (n h : ℕ) (hs : List ℕ) → Some h ≡ first_of (drop n hs) → n < length hs
within zero h [] e = absurd cc
within (suc n) h [] e = absurd cc
within zero h (x ∷ hs) e = omega arith
within (suc n) h (x ∷ hs) e = omega (arith, within n h hs e)

-- what is left from there on is that handle, and the rest
pub left_from : (n h : ℕ) (hs : List ℕ) → Some h ≡ first_of (drop n hs) → drop n hs ≡ h ∷ drop (n + 1) hs
left_from n h hs e =
    let more : drop n hs ≡ get_or hs n 0 ∷ drop (n + 1) hs = drop_more hs n 0 (within n h hs e) in
    let same : Some h ≡ Some (get_or hs n 0) = e ∙ ap first_of more in
    cc

stands_at : (t h n : ℕ) (s : Scoped) (ss : List Scoped) (rest : List ℕ) (c : Bool) → ((k : ℕ) → drop k (scope_of t ss) ≡ h ∷ rest → 0 < times_in h ss)
    → drop n (if c then s.handle ∷ scope_of t ss else scope_of t ss) ≡ h ∷ rest → 0 < times_in h (s ∷ ss)
stands_at t h zero s ss rest true later e = let same : s.handle ≡ h = cc in grind (arith, nat_tests, same)
stands_at t h (suc n) s ss rest true later e = omega (arith, later n e)
stands_at t h n s ss rest false later e = omega (arith, later n e)

-- what stands in a scope stands in the scopes
stands : (t h n : ℕ) (ss : List Scoped) (rest : List ℕ) → drop n (scope_of t ss) ≡ h ∷ rest → 0 < times_in h ss
stands t h zero [] rest e = absurd cc
stands t h (suc n) [] rest e = absurd cc
stands t h n (s ∷ ss) rest e = stands_at t h n s ss rest (s.label == t) (λ k f. stands t h k ss rest f) e

twice : (h : ℕ) (s : Scoped) (ss : List Scoped) → (s.handle == h) ≡ true → times_in h (s ∷ ss) ≤ 1 → 0 < times_in h ss → ⊥
twice h s ss is few some = grind (arith, nat_tests, is, few, some)

earlier_at : (t h n : ℕ) (s : Scoped) (ss : List Scoped) (rest : List ℕ) (b c : Bool) → (s.handle == h) ≡ b → (s.label == t) ≡ c → times_in h (s ∷ ss) ≤ 1
    → ((k : ℕ) → drop k (scope_of t ss) ≡ h ∷ rest → earlier_in h ss ≡ first_of rest) → drop n (if c then s.handle ∷ scope_of t ss else scope_of t ss) ≡ h ∷ rest
    → (if b then first_of (scope_of s.label ss) else earlier_in h ss) ≡ first_of rest
earlier_at t h zero s ss rest true true p q few later e = let own : s.label ≡ t = grind (arith, nat_tests, q) in cc
earlier_at t h (suc n) s ss rest true true p q few later e = absurd (twice h s ss p few (stands t h n ss rest e))
earlier_at t h n s ss rest true false p q few later e = absurd (twice h s ss p few (stands t h n ss rest e))
earlier_at t h zero s ss rest false true p q few later e = let same : s.handle ≡ h = cc in absurd (grind (arith, nat_tests, p, same))
earlier_at t h (suc n) s ss rest false true p q few later e = later n e
earlier_at t h n s ss rest false false p q few later e = later n e

-- a handle stands once, so that the one made before it is the next of its scope
earlier_next : (t h n : ℕ) (ss : List Scoped) (rest : List ℕ) → times_in h ss ≤ 1 → drop n (scope_of t ss) ≡ h ∷ rest → earlier_in h ss ≡ first_of rest
earlier_next t h zero [] rest few e = absurd cc
earlier_next t h (suc n) [] rest few e = absurd cc
earlier_next t h n (s ∷ ss) rest few e =
    earlier_at t h n s ss rest (s.handle == h) (s.label == t) refl refl few (λ k f. earlier_next t h k ss rest (omega (arith, few)) f) e

at_most_one : (x : Option Holding) → times_held x ≤ 1
at_most_one None = omega arith
at_most_one (Some x) = omega arith

stands_once : (m : State) (h : ℕ) → IsSound m [] → times_in h m.scopes ≤ 1
stands_once m h sound = omega (arith, sound.scopes.once h, at_most_one (get m.handles h))

drops-first : (fields : List Slot) (rest : List Item) → drops fields rest ≡ drops fields [] ++ rest
drops-first [] rest = refl
drops-first (s ∷ fields) rest = ap (λ is. item.Slot s ∷ is) (drops-first fields rest)

-- what a handle holds is dropped before the rest
held_first : (x : Option Holding) (rest : List Item) → holding_drops x rest ≡ holding_drops x [] ++ rest
held_first None rest = refl
held_first (Some (holding.Slot s)) rest = refl
held_first (Some (holding.Bare fields)) rest = drops-first fields rest

-- ---- one turn, at a handle: it ends, what it holds is to be dropped, and the next is the one made before it
pub next_handle : (m : State) (t h n : ℕ) → IsSound m [] → Some h ≡ first_of (drop n (scope_of t m.scopes)) → earlier_in h m.scopes ≡ first_of (drop (n + 1) (scope_of t m.scopes))
next_handle m t h n sound here = earlier_next t h n m.scopes (drop (n + 1) (scope_of t m.scopes)) (stands_once m h sound) (left_from n h (scope_of t m.scopes) here)

pub rest_behind : (before after : List Change) (c : Change) (hs : List ℕ) → after ≡ before ++ c ∷ [] → drop (length after) hs ≡ drop (length before + 1) hs
rest_behind before after c hs e = ap (λ (cs : List Change). drop (length cs) hs) e ∙ ap (λ k. drop k hs) (length-append before (c ∷ []))

pub ended_next : (m : State) (before : List Change) (h : ℕ) (rest hs : List ℕ) → hs ≡ h ∷ rest
    → (before ++ EndHandle h ∷ []) ++ ending (elements_of m (map field.Held rest)) [] ≡ before ++ ending (elements_of m (map field.Held hs)) []
ended_next m before h rest hs e =
    append_assoc before (EndHandle h ∷ []) (ending (elements_of m (map field.Held rest)) [])
    ∙ ap (λ xs. before ++ ending (elements_of m (map field.Held xs)) []) (sym e)

pub dropped_next : (m : State) (before : List Item) (h : ℕ) (rest hs : List ℕ) → hs ≡ h ∷ rest
    → (before ++ holding_drops (get m.handles h) []) ++ held_drops (elements_of m (map field.Held rest)) ≡ before ++ held_drops (elements_of m (map field.Held hs))
dropped_next m before h rest hs e =
    append_assoc before (holding_drops (get m.handles h) []) (held_drops (elements_of m (map field.Held rest)))
    ∙ ap (λ is. before ++ is) (sym (held_first (get m.handles h) (held_drops (elements_of m (map field.Held rest)))))
    ∙ ap (λ xs. before ++ held_drops (elements_of m (map field.Held xs))) (sym e)
