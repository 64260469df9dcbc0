-- A replay of one list of operations after another, and a replay from the empty state.
use Rattle.std.proofs.Common.{◌≡◌, ℕ, List, [], ◌∷◌, ◌++◌, length, append_assoc, refl, sym, ◌∙◌, ap, arith}
use Rattle.std.specs.Prelude.{Option, Some, None, IsTrue, Bool, true, false, not, ◌&&◌, ◌||◌, ◌==◌}
use Rattle.std.proofs.lemmas.Bool.Decides.{nat_tests}
use Rattle.std.specs.Ordering.{nat_cmp}
use Rattle.std.specs.FinMap.{get, empty, get-empty}
use Rattle.trace_types.specs.declared.slots.Slot.{Slot}
use Rattle.trace_types.specs.declared.slots.Slot.TheVariants.{Strong, Weak}
use Rattle.trace_types.specs.declared.slots.Entry.{Entry}
use Rattle.trace_types.specs.Operation.{Operation}
use Rattle.trace_types.specs.Trace.{is_taken, has_distinct_numbers}
use Rattle.ownership_model.specs.Totals.{total}
use Rattle.ownership_model.specs.State.{State, nothing_held, weight, strong, weak, names_alike, holding_weight, entry_weight, IsSound, IsSoundAt}
use Rattle.ownership_model.specs.Step.{step, outcomes_from, end_from, AreNew, AreUnused}
use Rattle.ownership_model.specs.Footprint.{footprint, moved, footprints_from, moved_from}
use Rattle.ownership_model.specs.Laws.{AppendsHold}
use Rattle.ownership_model.proofs.TotalLemmas.{weight_at, total-zero}
use Rattle.ownership_model.proofs.CarryLemmas.{step_sound}
use Rattle.ownership_model.proofs.NewLemmas.{step_absent}
use Rattle.ownership_model.proofs.JoinedLemmas.{replays}
use Rattle.ownership_model.proofs.ScopeLemmas.{nothing_scoped}

pub outcomes_from-append : (ops more : List Operation) (m : State) → outcomes_from m (ops ++ more) ≡ outcomes_from m ops ++ outcomes_from (end_from m ops) more
outcomes_from-append [] more m = refl
outcomes_from-append (op ∷ ops) more m = ap (λ os. (step m op).outcome ∷ os) (outcomes_from-append ops more (step m op).state)

pub end_from-append : (ops more : List Operation) (m : State) → end_from m (ops ++ more) ≡ end_from (end_from m ops) more
end_from-append [] more m = refl
end_from-append (op ∷ ops) more m = end_from-append ops more (step m op).state

-- what the first list touches, and then what the second does from where the first ends
pub footprints_from-append : (ops more : List Operation) (m : State) → footprints_from m (ops ++ more) ≡ footprints_from m ops ++ footprints_from (end_from m ops) more
footprints_from-append [] more m = refl
footprints_from-append (op ∷ ops) more m =
    let s : State = (step m op).state in
    ap (λ ks. footprint m op ++ ks) (footprints_from-append ops more s) ∙ sym (append_assoc (footprint m op) (footprints_from s ops) (footprints_from (end_from s ops) more))

-- so with what they move
pub moved_from-append : (ops more : List Operation) (m : State) → moved_from m (ops ++ more) ≡ moved_from m ops ++ moved_from (end_from m ops) more
moved_from-append [] more m = refl
moved_from-append (op ∷ ops) more m =
    let s : State = (step m op).state in
    ap (λ ks. moved m op ++ ks) (moved_from-append ops more s) ∙ sym (append_assoc (moved m op) (moved_from s ops) (moved_from (end_from s ops) more))

pub length-outcomes_from : (ops : List Operation) (m : State) → length (outcomes_from m ops) ≡ length ops
length-outcomes_from [] m = refl
length-outcomes_from (op ∷ ops) m = omega (arith, length-outcomes_from ops (step m op).state)

pub new_front : (ops more : List Operation) (m : State) → AreNew m (ops ++ more) → AreNew m ops
new_front [] more m new = tt
new_front (op ∷ ops) more m new = (new.0, new_front ops more (step m op).state new.1)

pub new_rest : (ops more : List Operation) (m : State) → AreNew m (ops ++ more) → AreNew (end_from m ops) more
new_rest [] more m new = new
new_rest (op ∷ ops) more m new = new_rest ops more (step m op).state new.1

pub new_appended : (ops more : List Operation) (m : State) → AreNew m ops → AreNew (end_from m ops) more → AreNew m (ops ++ more)
new_appended [] more m new rest = rest
new_appended (op ∷ ops) more m new rest = (new.0, new_appended ops more (step m op).state new.1 rest)

neither : (a b : Bool) → (a || b) ≡ false → (a ≡ false) × (b ≡ false)
neither true b h = absurd cc
neither false b h = (refl, h)

untaken : (a b : Bool) → IsTrue (not a && b) → (a ≡ false) × IsTrue b
untaken true b h = absurd cc
untaken false b h = (refl, h)

both_true : (a b : Bool) → a ≡ false → IsTrue b → IsTrue (not a && b)
both_true true b none h = absurd cc
both_true false b none h = h

pub untaken_front : (q : ℕ) (ops more : List Operation) → is_taken q (ops ++ more) ≡ false → is_taken q ops ≡ false
untaken_front q [] more none = refl
untaken_front q (op ∷ ops) more none =
    let each : ((op.id == q) ≡ false) × (is_taken q (ops ++ more) ≡ false) = neither (op.id == q) (is_taken q (ops ++ more)) none in
    let rest : is_taken q ops ≡ false = untaken_front q ops more each.1 in
    cc

pub distinct_front : (ops more : List Operation) → IsTrue (has_distinct_numbers (ops ++ more)) → IsTrue (has_distinct_numbers ops)
distinct_front [] more distinct = refl
distinct_front (op ∷ ops) more distinct =
    let each : (is_taken op.id (ops ++ more) ≡ false) × IsTrue (has_distinct_numbers (ops ++ more)) = untaken (is_taken op.id (ops ++ more)) (has_distinct_numbers (ops ++ more)) distinct in
    both_true (is_taken op.id ops) (has_distinct_numbers ops) (untaken_front op.id ops more each.0) (distinct_front ops more each.1)

pub distinct_rest : (ops more : List Operation) → IsTrue (has_distinct_numbers (ops ++ more)) → IsTrue (has_distinct_numbers more)
distinct_rest [] more distinct = distinct
distinct_rest (op ∷ ops) more distinct = distinct_rest ops more (untaken (is_taken op.id (ops ++ more)) (has_distinct_numbers (ops ++ more)) distinct).1

pub unused_front : (ops more : List Operation) (m : State) → AreUnused m (ops ++ more) → AreUnused m ops
unused_front [] more m free = tt
unused_front (op ∷ ops) more m free = (free.0, unused_front ops more m free.1)

other_way : (a b : ℕ) → (a == b) ≡ false → (b == a) ≡ false
other_way a b apart = grind (arith, nat_tests)

-- a step makes no object but its own, so what is free for later operations stays so
step_free : (m : State) (op : Operation) (ops : List Operation) → IsSound m [] → is_taken op.id ops ≡ false → AreUnused m ops → AreUnused (step m op).state ops
step_free m op [] sound apart free = tt
step_free m op (x ∷ ops) sound apart free =
    let each : ((x.id == op.id) ≡ false) × (is_taken op.id ops ≡ false) = neither (x.id == op.id) (is_taken op.id ops) apart in
    (step_absent m op x.id sound free.0 (other_way x.id op.id each.0), step_free m op ops sound each.1 free.1)

pub unused_rest : (ops more : List Operation) (m : State) → IsSound m [] → IsTrue (has_distinct_numbers (ops ++ more)) → AreUnused m (ops ++ more) → AreUnused (end_from m ops) more
unused_rest [] more m sound distinct free = free
unused_rest (op ∷ ops) more m sound distinct free =
    let each : (is_taken op.id (ops ++ more) ≡ false) × IsTrue (has_distinct_numbers (ops ++ more)) = untaken (is_taken op.id (ops ++ more)) (has_distinct_numbers (ops ++ more)) distinct in
    unused_rest ops more (step m op).state (step_sound m op sound free.0) each.1 (step_free m op (ops ++ more) sound each.0 free.1)

pub appends_hold : AppendsHold
appends_hold = record {
  outcomes = λ m ops more. outcomes_from-append ops more m;
  end = λ m ops more. end_from-append ops more m;
  lengths = λ m ops. length-outcomes_from ops m;
  new_front = λ m ops more. new_front ops more m;
  new_rest = λ m ops more. new_rest ops more m;
  new_whole = λ m ops more. new_appended ops more m;
  distinct_front = distinct_front;
  distinct_rest = distinct_rest;
  unused_front = λ m ops more. unused_front ops more m;
  unused_rest = λ m ops more. unused_rest ops more m;
}

empty_total : {X : Type 0} (w : X → ℕ) → total w empty ≡ 0
empty_total w = total-zero w empty (λ q. ap (weight_at w) (get-empty nat_cmp q))

nothing_weighs : (w : Slot → ℕ) → weight w nothing_held [] ≡ 0
nothing_weighs w = omega (arith, empty_total (holding_weight w), empty_total w, empty_total (entry_weight w))

absent : (s w : ℕ) (it : Option Entry) → s ≡ 0 → w ≡ 0 → it ≡ None → IsSoundAt s w 0 it
absent s w None a b is = (a, b, refl)
absent s w (Some e) a b is = absurd cc

-- nothing is held, and nothing stands
pub nothing_sound : IsSound nothing_held []
nothing_sound = record {
  counts = λ o. absent (strong nothing_held [] o) (weak nothing_held [] o) (get nothing_held.objects o) (nothing_weighs (names_alike (Strong o))) (nothing_weighs (names_alike (Weak o))) (get-empty nat_cmp o);
  cells = λ c s is. absurd (let none : None ≡ Some s = sym (get-empty nat_cmp c) ∙ is in cc);
  scopes = nothing_scoped;
}

pub nothing_taken : (ops : List Operation) → AreUnused nothing_held ops
nothing_taken [] = tt
nothing_taken (op ∷ ops) = (get-empty nat_cmp op.id, nothing_taken ops)

-- operations with distinct numbers are new, one after another, from the empty state on
pub distinct_new : (ops : List Operation) → IsTrue (has_distinct_numbers ops) → AreNew nothing_held ops
distinct_new ops distinct = (replays nothing_held ops nothing_sound distinct (nothing_taken ops)).0
