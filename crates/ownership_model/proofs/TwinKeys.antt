-- Two states that differ in remains alone are touched alike: operations read, set and move the same.
use Rattle.std.proofs.Common.{◌≡◌, ℕ, suc, zero, ◌+◌, List, [], ◌∷◌, ◌++◌, map, refl, ap, ◌∙◌, sym, arith, Bool, false}
use Rattle.std.specs.Prelude.{Some, flat_map, option_to_list, slice_get}
use Rattle.std.specs.FinMap.{get}
use Rattle.trace_types.specs.declared.slots.Item.{Item}
use Rattle.trace_types.specs.declared.slots.Change.{Change}
use Rattle.trace_types.specs.declared.slots.Change.TheVariants.{SetHandle, EndHandle, SetCell, EndCell, SetField, Make, TurnHusk}
use Rattle.trace_types.specs.declared.kinds.Kind.{Kind}
use Rattle.trace_types.specs.Operation.{Operation}
use Rattle.ownership_model.specs.declared.key.Key.TheVariants.{Object}
use Rattle.ownership_model.specs.declared.plan.Plan.{Plan}
use Rattle.ownership_model.specs.declared.plan.Plan.TheVariants.{Skip, Act}
use Rattle.ownership_model.specs.Scopes.{scope_of}
use Rattle.ownership_model.specs.State.{State}
use Rattle.ownership_model.specs.Release.{drop_first, work}
use Rattle.ownership_model.specs.Changes.{changed, changed_by}
use Rattle.ownership_model.specs.View.{members, named_in, view_of}
use Rattle.ownership_model.specs.Table.{row, fields_of}
use Rattle.ownership_model.specs.Step.{step}
use Rattle.ownership_model.specs.Footprint.{slot_keys, slots_keys, holding_keys, cell_keys, item_keys, taken_within, taken, change_key, moved_by, moved_by_changes, named_keys, member_keys, scope_keys, plan_keys, footprint, moved_by_plan, moved, footprints_from, moved_from}
use Rattle.ownership_model.proofs.Twins.{AvoidItems, AvoidsChange, AvoidChanges, AvoidsPlan, Twins, AvoidOperations}
use Rattle.ownership_model.proofs.TwinLemmas.{Met, change_twins, changed_twins, drop_twins}
use Rattle.ownership_model.proofs.ViewLemmas.{same_view, avoids_view}
use Rattle.ownership_model.proofs.RowLemmas.{avoids_row}
use Rattle.ownership_model.proofs.StepLemmas.{step_twins}
use Rattle.ownership_model.proofs.AlikeLemmas.{taken-enough}

module _ (r : ℕ → Bool) where
  -- ---- a cascade
  -- both drop the same items, with any fuel
  same_taken_within : (f : ℕ) (n o : State) (p : List Item) → AvoidItems r p → Twins r n o → taken_within f n p ≡ taken_within f o p
  same_taken_within f n o [] c t = refl
  same_taken_within zero n o (x ∷ p) c t = refl
  same_taken_within (suc f) n o (x ∷ p) c t =
      let m : Met r (drop_first n x p) (drop_first o x p) = drop_twins r n o x p c.0 c.1 t in
      let rest = same_taken_within f (drop_first n x p).state (drop_first o x p).state (drop_first n x p).pending m.avoid m.twins in
      ap (λ xs. x ∷ xs) (rest ∙ ap (taken_within f (drop_first o x p).state) m.pending)

  -- so they do with enough of it
  same_taken : (n o : State) (p : List Item) → AvoidItems r p → Twins r n o → taken n p ≡ taken o p
  same_taken n o p c t =
      let f : ℕ = work n p + work o p in
      taken-enough f n p (omega arith) ∙ same_taken_within f n o p c t ∙ sym (taken-enough f o p (omega arith))

  -- ---- a plan
  -- a change moves the same slots in both
  same_moved_by : (c : Change) (n o : State) → AvoidsChange r c → Twins r n o → moved_by n c ≡ moved_by o c
  same_moved_by (SetHandle l h x) n o c t = ap (λ hs. holding_keys (Some x) ++ holding_keys (get hs h)) t.handles
  same_moved_by (EndHandle h) n o c t = ap (λ hs. holding_keys (get hs h)) t.handles
  same_moved_by (SetCell e s) n o c t = ap (λ es. slot_keys s ++ cell_keys (get es e)) t.cells
  same_moved_by (EndCell e) n o c t = ap (λ es. cell_keys (get es e)) t.cells
  same_moved_by (SetField k i s) n o c t = ap (λ y. slot_keys s ++ cell_keys (slice_get (fields_of y) i)) (t.core k c.0)
  same_moved_by (Make k fields) n o c t = refl
  same_moved_by (TurnHusk k) n o c t = ap (λ y. slots_keys (fields_of y)) (t.core k c)

  -- so do all changes in order
  same_moved_by_changes : (cs : List Change) (n o : State) → AvoidChanges r cs → Twins r n o → moved_by_changes n cs ≡ moved_by_changes o cs
  same_moved_by_changes [] n o c t = refl
  same_moved_by_changes (d ∷ cs) n o c t =
      let rest = same_moved_by_changes cs (changed_by n d) (changed_by o d) c.1 (change_twins r d n o c.0 t) in
      λ i. same_moved_by d n o c.0 t i ++ rest i

  -- a plan moves the same slots in both
  same_plan_moves : (n o : State) (p : Plan) → AvoidsPlan r p → Twins r n o → moved_by_plan n p ≡ moved_by_plan o p
  same_plan_moves n o (Skip why) c t = refl
  same_plan_moves n o (Act answer changes event pending object) c t = same_moved_by_changes changes n o c.0 t

  -- and it sets and drops the same
  same_plan_keys : (n o : State) (p : Plan) → AvoidsPlan r p → Twins r n o → plan_keys n p ≡ plan_keys o p
  same_plan_keys n o (Skip why) c t = refl
  same_plan_keys n o (Act answer changes event pending object) c t =
      let e : taken (changed n changes) pending ≡ taken (changed o changes) pending = same_taken (changed n changes) (changed o changes) pending c.1.0 (changed_twins r changes n o c.0 t) in
      ap (λ xs. map change_key changes ++ (flat_map item_keys xs ++ map Object (option_to_list object))) e

  -- ---- an operation
  -- its plan avoids the remains
  avoids_plan : (n o : State) (op : Operation) → r op.id ≡ false → Twins r n o → AvoidsPlan r (row op (view_of n op.thread op.kind))
  avoids_plan n o op new t = avoids_row r op (view_of n op.thread op.kind) new (avoids_view r n o op.thread op.kind t)

  -- it names the same in both
  same_member_keys : (n o : State) (label : ℕ) (k : Kind) → Twins r n o → member_keys n (members (scope_of label n.scopes) k) ≡ member_keys o (members (scope_of label o.scopes) k)
  same_member_keys n o label k t =
      let views : view_of n label k ≡ view_of o label k = same_view r n o label k t in
      λ i. named_keys (members (scope_of label (t.scopes i)) k) ++ map Object (option_to_list (named_in (views i).first))

  -- it reads and sets the same
  same_footprint : (n o : State) (op : Operation) → r op.id ≡ false → Twins r n o → footprint n op ≡ footprint o op
  unfolding footprint
  same_footprint n o op new t =
      let keys : plan_keys n (row op (view_of n op.thread op.kind)) ≡ plan_keys o (row op (view_of o op.thread op.kind)) =
      same_plan_keys n o (row op (view_of n op.thread op.kind)) (avoids_plan n o op new t) t ∙ ap (λ v. plan_keys o (row op v)) (same_view r n o op.thread op.kind t) in
      λ i. scope_keys op.thread op.kind ++ (same_member_keys n o op.thread op.kind t i ++ keys i)

  -- it moves the same
  same_moves : (n o : State) (op : Operation) → r op.id ≡ false → Twins r n o → moved n op ≡ moved o op
  unfolding moved
  same_moves n o op new t =
      same_plan_moves n o (row op (view_of n op.thread op.kind)) (avoids_plan n o op new t) t ∙ ap (λ v. moved_by_plan o (row op v)) (same_view r n o op.thread op.kind t)

  -- ---- all operations
  -- both are touched alike, whatever follows
  pub same_footprints : (ops : List Operation) (n o : State) → AvoidOperations r ops → Twins r n o → footprints_from n ops ≡ footprints_from o ops
  same_footprints [] n o c t = refl
  same_footprints (op ∷ ops) n o c t =
      let rest = same_footprints ops (step n op).state (step o op).state c.1 (step_twins r n o op c.0 t).twins in
      λ i. same_footprint n o op c.0 t i ++ rest i

  -- and what follows moves the same in both
  pub same_moved : (ops : List Operation) (n o : State) → AvoidOperations r ops → Twins r n o → moved_from n ops ≡ moved_from o ops
  same_moved [] n o c t = refl
  same_moved (op ∷ ops) n o c t =
      let rest = same_moved ops (step n op).state (step o op).state c.1 (step_twins r n o op c.0 t).twins in
      λ i. same_moves n o op c.0 t i ++ rest i
