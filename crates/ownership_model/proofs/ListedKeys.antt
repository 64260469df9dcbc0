-- Footprints over plain lists in place of finite maps: so the footprint of each operation of a trace is found by computation.
use Rattle.std.proofs.Common.{◌≡◌, ℕ, zero, suc, ◌+◌, List, [], ◌∷◌, ◌++◌, map, length, refl, ap, ◌∙◌, sym, arith}
use Rattle.std.specs.Prelude.{Some, flat_map, option_to_list, slice_get}
use Rattle.trace_types.specs.declared.slots.Item.{Item}
use Rattle.trace_types.specs.declared.slots.Change.{Change}
use Rattle.trace_types.specs.declared.slots.Change.TheVariants.{SetHandle, EndHandle, SetCell, EndCell, SetField, Make, TurnHusk}
use Rattle.trace_types.specs.Operation.{Operation}
use Rattle.ownership_model.specs.declared.key.Key.{Key}
use Rattle.ownership_model.specs.declared.key.Key.TheVariants.{Object}
use Rattle.ownership_model.specs.declared.plan.Plan.{Plan}
use Rattle.ownership_model.specs.declared.plan.Plan.TheVariants.{Skip, Act}
use Rattle.ownership_model.specs.Totals.{total_in}
use Rattle.ownership_model.specs.Scopes.{scope_of}
use Rattle.ownership_model.specs.State.{State, nothing_held}
use Rattle.ownership_model.specs.Release.{alive_size}
use Rattle.ownership_model.specs.Changes.{changed}
use Rattle.ownership_model.specs.View.{Members, members, View, view_at, named_in}
use Rattle.ownership_model.specs.Table.{row, fields_of}
use Rattle.ownership_model.specs.Step.{step}
use Rattle.ownership_model.specs.Footprint.{slot_keys, slots_keys, holding_keys, cell_keys, item_keys, taken_within, taken, change_key, moved_by, moved_by_changes, named_keys, member_keys, scope_keys, plan_keys, footprint, moved_by_plan, moved}
use Rattle.ownership_model.proofs.Listed.{Lists, look, fate_in, Left, meet_in, change_in, changes_in, look_if, view_in, step_in, nothing_listed}
use Rattle.ownership_model.proofs.ListedLemmas.{IsApart, shown, get-map_of, work-shown, change-shown, changes-shown, changes_apart, drop-shown, held-shown, view-shown, step-shown}
use Rattle.ownership_model.proofs.AlikeLemmas.{taken-enough}

-- the first items that a cascade drops, at most so many
abbrev pub taken_in : ℕ → Lists → List Item → List Item
taken_in n m [] = []
taken_in zero m (x ∷ xs) = []
taken_in (suc n) m (x ∷ xs) = x ∷ (let d = meet_in m xs (fate_in m x xs) in taken_in n d.state d.pending)

-- all of them
abbrev pub all_taken : Lists → List Item → List Item
all_taken m pending = taken_in (total_in alive_size m.objects + length pending) m pending

-- the objects that slots name that a change puts there, and those that stood there
abbrev pub moved_in : Lists → Change → List Key
moved_in m (SetHandle t h held) = holding_keys (Some held) ++ holding_keys (look h m.handles)
moved_in m (EndHandle h) = holding_keys (look h m.handles)
moved_in m (SetCell c s) = slot_keys s ++ cell_keys (look c m.cells)
moved_in m (EndCell c) = cell_keys (look c m.cells)
moved_in m (SetField o i s) = slot_keys s ++ cell_keys (slice_get (fields_of (look o m.objects)) i)
moved_in m (Make o fields) = slots_keys fields
moved_in m (TurnHusk o) = slots_keys (fields_of (look o m.objects))

-- those of all changes
abbrev pub all_moved : Lists → List Change → List Key
all_moved m [] = []
all_moved m (c ∷ cs) = moved_in m c ++ all_moved (change_in m c) cs

-- the handles and the cell that an operation names, and the object that its first handle names
abbrev pub read_keys : Lists → Members → List Key
read_keys m a = named_keys a ++ map Object (option_to_list (named_in (look_if a.first m.handles)))

-- what a plan sets, drops and tells the counts of
abbrev pub planned_keys : Lists → Plan → List Key
planned_keys m (Skip reason) = []
planned_keys m (Act answer changes event pending object) = map change_key changes ++ (flat_map item_keys (all_taken (changes_in m changes) pending) ++ map Object (option_to_list object))

-- what a plan moves or copies
abbrev pub planned_moves : Lists → Plan → List Key
planned_moves m (Skip reason) = []
planned_moves m (Act answer changes event pending object) = all_moved m changes

-- what one operation touches, and what it moves or copies beside
pub record Keys : Type 0 where
  pub touched : List Key
  pub moved : List Key

-- of one operation
abbrev pub keys_in : Lists → Operation → Keys
keys_in m op =
    let a = members (scope_of op.thread m.scopes) op.kind in
    let p = row op (view_in m a) in
    record { touched = scope_keys op.thread op.kind ++ (read_keys m a ++ planned_keys m p); moved = planned_moves m p }

-- of each of several operations, in order
abbrev pub each_in : Lists → List Operation → List Keys
each_in m [] = []
each_in m (op ∷ ops) = keys_in m op ∷ (let s = step_in m op in each_in s.state ops)

-- the same over states
abbrev pub keys_of : State → Operation → Keys
keys_of m op = record { touched = footprint m op; moved = moved m op }

abbrev pub each_from : State → List Operation → List Keys
each_from m [] = []
each_from m (op ∷ ops) = keys_of m op ∷ each_from (step m op).state ops

-- ---- both are the same
-- the items, with any fuel
taken-shown : (n : ℕ) (m : Lists) (pending : List Item) → IsApart m → taken_in n m pending ≡ taken_within n (shown m) pending
taken-shown n m [] a = refl
taken-shown zero m (x ∷ pending) a = refl
taken-shown (suc n) m (x ∷ pending) a =
    let d : Left = meet_in m pending (fate_in m x pending) in
    let one = drop-shown m x pending a in
    ap (λ ys. x ∷ ys) (taken-shown n d.state d.pending one.apart ∙ (λ i. taken_within n (one.state i) (one.pending i)))

-- all items of a cascade
all-shown : (m : Lists) (pending : List Item) → IsApart m → all_taken m pending ≡ taken (shown m) pending
all-shown m pending a =
    let n : ℕ = total_in alive_size m.objects + length pending in
    taken-shown n m pending a ∙ sym (taken-enough n (shown m) pending (omega (arith, work-shown m pending a)))

-- what one change moves
moved-shown : (m : Lists) (c : Change) → moved_in m c ≡ moved_by (shown m) c
moved-shown m (SetHandle t h x) = ap (λ y. holding_keys (Some x) ++ holding_keys y) (sym (get-map_of m.handles h))
moved-shown m (EndHandle h) = ap holding_keys (sym (get-map_of m.handles h))
moved-shown m (SetCell c s) = ap (λ y. slot_keys s ++ cell_keys y) (sym (get-map_of m.cells c))
moved-shown m (EndCell c) = ap cell_keys (sym (get-map_of m.cells c))
moved-shown m (SetField o i s) = ap (λ y. slot_keys s ++ cell_keys (slice_get (fields_of y) i)) (sym (get-map_of m.objects o))
moved-shown m (Make o fields) = refl
moved-shown m (TurnHusk o) = ap (λ y. slots_keys (fields_of y)) (sym (get-map_of m.objects o))

-- what all changes move
moves-shown : (changes : List Change) (m : Lists) → all_moved m changes ≡ moved_by_changes (shown m) changes
moves-shown [] m = refl
moves-shown (c ∷ changes) m = λ i. moved-shown m c i ++ (moves-shown changes (change_in m c) ∙ ap (λ s. moved_by_changes s changes) (change-shown m c)) i

-- what an operation names
read-shown : (m : Lists) (a : Members) → read_keys m a ≡ member_keys (shown m) a
read-shown m a = ap (λ y. named_keys a ++ map Object (option_to_list (named_in y))) (held-shown m a.first)

-- what a plan touches
plan-shown : (m : Lists) (p : Plan) → IsApart m → planned_keys m p ≡ plan_keys (shown m) p
plan-shown m (Skip why) a = refl
plan-shown m (Act answer changes event pending object) a =
    let n : Lists = changes_in m changes in
    let items : all_taken n pending ≡ taken (changed (shown m) changes) pending = all-shown n pending (changes_apart changes m a) ∙ ap (λ s. taken s pending) (changes-shown changes m) in
    ap (λ xs. map change_key changes ++ (flat_map item_keys xs ++ map Object (option_to_list object))) items

-- and what it moves
plan_moves-shown : (m : Lists) (p : Plan) → planned_moves m p ≡ moved_by_plan (shown m) p
plan_moves-shown m (Skip why) = refl
plan_moves-shown m (Act answer changes event pending object) = moves-shown changes m

-- one operation
keys-shown : (m : Lists) (op : Operation) → IsApart m → keys_in m op ≡ keys_of (shown m) op
unfolding footprint moved
keys-shown m op a =
    let x : Members = members (scope_of op.thread m.scopes) op.kind in
    let views : view_in m x ≡ view_at (shown m) x = view-shown m x a in
    let touched : planned_keys m (row op (view_in m x)) ≡ plan_keys (shown m) (row op (view_at (shown m) x)) = plan-shown m (row op (view_in m x)) a ∙ ap (λ (v : View). plan_keys (shown m) (row op v)) views in
    let moves : planned_moves m (row op (view_in m x)) ≡ moved_by_plan (shown m) (row op (view_at (shown m) x)) = plan_moves-shown m (row op (view_in m x)) ∙ ap (λ (v : View). moved_by_plan (shown m) (row op v)) views in
    λ i. record { touched = scope_keys op.thread op.kind ++ (read-shown m x i ++ touched i); moved = moves i }

-- all operations
each-shown : (ops : List Operation) (m : Lists) → IsApart m → each_in m ops ≡ each_from (shown m) ops
each-shown [] m a = refl
each-shown (op ∷ ops) m a =
    let s = step-shown m op a in
    λ i. keys-shown m op a i ∷ (each-shown ops (step_in m op).state s.apart ∙ ap (λ n. each_from n ops) s.state) i

-- so the keys of each operation of a trace are found by computation
pub keyed : (ops : List Operation) → each_from nothing_held ops ≡ each_in nothing_listed ops
keyed ops = sym (each-shown ops nothing_listed (record { handles = tt; cells = tt; objects = tt }))
