use Rattle.std.proofs.Common.{◌≡◌, ◌∙◌, sym, subst, List}
use Rattle.std.proofs.lemmas.Result.{IfOk-weaker}
use Rattle.ownership_model.specs.State.{State}
use Rattle.object_heap.specs.declared.put.Put.{Put}
use Rattle.object_heap.specs.declared.put.FieldPut.{FieldPut}
use Rattle.heap_difference.specs.declared.shifts.Shift.{Shift}
use Rattle.heap_difference.specs.Laid.{IsLaid, IsWhole}
use Rattle.heap_difference.specs.Layers.{LayerView, with_layer, IsLaidBy}
use Rattle.heap_difference.proofs.LayerLemmas.{layers_hold}
use Rattle.heap_difference.proofs.layer.Layer.laid.Goals as goal

pub laid-requires : goal.laid-requires
laid-requires c =
    let is : IsLaidBy (record { keys = c.self.inside.keys; firm = c.self.inside.firm.objects; from = c.self.inside.from; puts = c.self.inside.puts.items; shifts = c.self.inside.alikes.shifts.items; fields = c.self.inside.alikes.fields.items })
    c.args.old c.requires.state =
    subst (λ (l : LayerView). IsLaidBy l c.args.old c.requires.state) (sym c.self.view_is) c.requires.is in
    record {
      shifts = c.self.inside.alikes.shifts.items;
      state = c.requires.state;
      whole = subst (λ (fs : List FieldPut). IsWhole c.self.inside.keys c.self.inside.firm.objects c.self.inside.alikes.shifts.items fs) (sym c.as_slice-fields.ensures.value) is.layer;
      is = subst (λ (fs : List FieldPut). IsLaid c.self.inside.keys c.self.inside.alikes.shifts.items fs c.args.old c.self.inside.from c.deref.result.now c.requires.state) (sym c.as_slice-fields.ensures.value)
          (subst (λ (ps : List Put). IsLaid c.self.inside.keys c.self.inside.alikes.shifts.items c.self.inside.alikes.fields.items c.args.old c.self.inside.from ps c.requires.state) (sym c.deref.ensures.value) is.is);
    }

pub returns : goal.returns
returns c =
    let l : LayerView = c.args.self.now in
    let old : State = c.args.old in
    let made : State = c.requires.state in
    let d = c.self.inside.keys in
    let firm = c.self.inside.firm.objects in
    let shifts : List Shift = c.self.inside.alikes.shifts.items in
    let fields : List FieldPut = c.as_slice-fields.result.now in
    let puts : List Put = c.deref.result.now in
    let is : IsLaidBy (record { keys = d; firm = firm; from = c.self.inside.from; puts = c.self.inside.puts.items; shifts = shifts; fields = c.self.inside.alikes.fields.items }) old made =
    subst (λ (k : LayerView). IsLaidBy k old made) (sym c.self.view_is) c.requires.is in
    let whole : IsWhole d firm shifts fields = subst (λ (fs : List FieldPut). IsWhole d firm shifts fs) (sym c.as_slice-fields.ensures.value) is.layer in
    let laid : IsLaid d shifts fields old c.self.inside.from puts made =
    subst (λ (fs : List FieldPut). IsLaid d shifts fs old c.self.inside.from puts made) (sym c.as_slice-fields.ensures.value)
    (subst (λ (ps : List Put). IsLaid d shifts c.self.inside.alikes.fields.items old c.self.inside.from ps made) (sym c.deref.ensures.value) is.is) in
    IfOk-weaker c.laid.result (λ h. (ss : List Shift) (m : State) → IsWhole d firm ss fields → IsLaid d ss fields old c.self.inside.from puts m → h ≡ m) (λ h. h ≡ with_layer l old)
    (λ h e. e shifts made whole laid ∙ sym (layers_hold.made l old made c.requires.is c.show_sound.ensures.sound))
    c.laid.ensures
