use Rattle.std.proofs.Common.{◌≡◌, ◌<◌, ◌≤◌, ◌+◌, ◌++◌, [], ◌∷◌, length, get_or, take, sym, ap, ◌∙◌, subst}
use Rattle.std.specs.Prelude.{flat_map}
use Rattle.std.proofs.lemmas.List.{take_all}
use Rattle.std.specs.FinMap.{get, keys}
use Rattle.retention_model.specs.declared.place.Place.TheVariants.{Cell}
use Rattle.retention_model.specs.Places.{handle_places}
use Rattle.retention.specs.HeldPlaces.{held_among}
use Rattle.retention.proofs.HeldLemmas.{held_append}
use Rattle.retention.proofs.MadeLemmas.{held_more}
use Rattle.retention.proofs.named.held_roots.Goals as goal

pub loop-handle-preserved : goal.loop-handle-preserved
loop-handle-preserved c = λ since tells.
    let all : c.deref-handle-items.result.now ≡ keys c.args.heap.now.handles = c.deref-handle-items.ensures.value ∙ c.in_ok-handles.ensures in
    held_more c.args.heap.now since (λ h. handle_places h (get c.args.heap.now.handles h)) (keys c.args.heap.now.handles) c.loop-handle.handle-index (get_or c.deref-handle-items.result.now c.loop-handle.handle-index 0) []
    c.loop-handle.held.items c.push_handle.new.held.items (subst (λ xs. c.loop-handle.handle-index < length xs) all c.loop-handle-test.true) (ap (λ xs. get_or xs c.loop-handle.handle-index 0) (sym all))
    (c.loop-handle.invariant since tells) (c.in_ok-push_handle.ensures c.args.heap.now since tells)

pub loop-cell-preserved : goal.loop-cell-preserved
loop-cell-preserved c = λ since tells.
    let all : c.deref-cell-items.result.now ≡ keys c.args.heap.now.cells = c.deref-cell-items.ensures.value ∙ c.in_ok-cells.ensures in
    held_more c.args.heap.now since (λ d. Cell d ∷ []) (keys c.args.heap.now.cells) c.loop-cell.cell-index (get_or c.deref-cell-items.result.now c.loop-cell.cell-index 0)
    (held_among c.args.heap.now since (flat_map (λ h. handle_places h (get c.args.heap.now.handles h)) (keys c.args.heap.now.handles)))
    c.loop-cell.held.items c.push_cell.new.held.items (subst (λ xs. c.loop-cell.cell-index < length xs) all c.loop-cell-test.true) (ap (λ xs. get_or xs c.loop-cell.cell-index 0) (sym all))
    (c.loop-cell.invariant since tells
    ∙ held_append c.args.heap.now since (flat_map (λ h. handle_places h (get c.args.heap.now.handles h)) (keys c.args.heap.now.handles)) (flat_map (λ d. Cell d ∷ []) (take c.loop-cell.cell-index (keys c.args.heap.now.cells))))
    (c.in_ok-push_cell.ensures c.args.heap.now since tells)
    ∙ sym (held_append c.args.heap.now since (flat_map (λ h. handle_places h (get c.args.heap.now.handles h)) (keys c.args.heap.now.handles)) (flat_map (λ d. Cell d ∷ []) (take (c.loop-cell.cell-index + 1) (keys c.args.heap.now.cells))))

pub returns : goal.returns
returns c = λ since tells.
    let all : c.deref-cell-items.result.now ≡ keys c.args.heap.now.cells = c.deref-cell-items.ensures.value ∙ c.in_ok-cells.ensures in
    c.loop-cell.invariant since tells
    ∙ ap (λ cs. held_among c.args.heap.now since (flat_map (λ h. handle_places h (get c.args.heap.now.handles h)) (keys c.args.heap.now.handles) ++ flat_map (λ d. Cell d ∷ []) cs))
    (take_all c.loop-cell.cell-index (keys c.args.heap.now.cells) (subst (λ xs. length xs ≤ c.loop-cell.cell-index) all c.loop-cell-test.false))
