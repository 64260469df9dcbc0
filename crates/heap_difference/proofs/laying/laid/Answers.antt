use Rattle.std.proofs.Common.{◌≡◌, ◌∙◌, ℕ, List}
use Rattle.std.proofs.lemmas.Result.{IfOk-weaker}
use Rattle.ownership_model.specs.State.{State}
use Rattle.object_heap.specs.Laid.{laid_over, with_fields}
use Rattle.heap_difference.specs.declared.shifts.Shift.{Shift}
use Rattle.heap_difference.specs.Laid.{IsLaid, IsWhole}
use Rattle.heap_difference.proofs.LaidLemmas.{made_can, made_set, made_is, made_sound, laid_fits}
use Rattle.heap_difference.proofs.laying.laid.Goals as goal

pub laid-requires-clause-can : goal.laid-requires-clause-can
laid-requires-clause-can c =
    made_can c.args.difference.now c.args.firm.now c.requires.shifts c.args.fields.now c.args.old c.args.new.now c.args.puts.now c.as_slice-handles.result.now c.as_slice-cells.result.now c.as_slice-objects.result.now
    c.as_slice-handles.ensures c.as_slice-cells.ensures c.as_slice-objects.ensures c.requires.whole c.show_sound.ensures.sound c.requires.state c.requires.is

pub laid-requires-clause-fits : goal.laid-requires-clause-fits
laid-requires-clause-fits c =
    laid_fits c.args.difference.now c.args.firm.now c.requires.shifts c.args.fields.now c.args.old c.args.new.now c.args.puts.now c.requires.state c.requires.whole c.show_sound.ensures.sound c.requires.is c.show_sound-2.ensures.bounded

pub laid-requires-clause-set : goal.laid-requires-clause-set
laid-requires-clause-set c =
    made_set c.args.difference.now c.args.firm.now c.requires.shifts c.args.fields.now c.args.old c.args.new.now c.args.puts.now c.as_slice-handles.result.now c.as_slice-cells.result.now c.as_slice-objects.result.now
    c.as_slice-handles.ensures c.as_slice-cells.ensures c.as_slice-objects.ensures c.requires.whole c.show_sound.ensures.sound c.requires.state c.requires.is

pub laid-requires-clause-sound : goal.laid-requires-clause-sound
laid-requires-clause-sound c =
    made_sound c.args.difference.now c.args.firm.now c.requires.shifts c.args.fields.now c.args.old c.args.new.now c.args.puts.now c.as_slice-handles.result.now c.as_slice-cells.result.now c.as_slice-objects.result.now
    c.as_slice-handles.ensures c.as_slice-cells.ensures c.as_slice-objects.ensures c.requires.whole c.show_sound.ensures.sound c.requires.state c.requires.is

pub returns : goal.returns
returns c =
    let d = c.args.difference.now in
    let hs : List ℕ = c.as_slice-handles.result.now in
    let cs : List ℕ = c.as_slice-cells.result.now in
    let os : List ℕ = c.as_slice-objects.result.now in
    IfOk-weaker c.laid.result (λ h. h ≡ with_fields c.args.fields.now (laid_over c.args.new.now hs cs os c.args.puts.now c.args.old))
    (λ h. (shifts : List Shift) (m : State) → IsWhole d c.args.firm.now shifts c.args.fields.now → IsLaid d shifts c.args.fields.now c.args.old c.args.new.now c.args.puts.now m → h ≡ m)
    (λ h e shifts m whole is. e ∙ made_is d c.args.firm.now shifts c.args.fields.now c.args.old c.args.new.now c.args.puts.now hs cs os c.as_slice-handles.ensures c.as_slice-cells.ensures c.as_slice-objects.ensures whole c.show_sound.ensures.sound m is)
    c.laid.ensures
