use Rattle.std.proofs.Common.{◌≡◌, [], refl, ap, ◌∙◌, sym, subst, arith}
use Rattle.std.specs.Prelude.{Some}
use Rattle.std.specs.Ordering.{nat_cmp}
use Rattle.std.specs.FinMap.{FinMap, get}
use Rattle.trace_types.specs.declared.slots.Entry.{Entry}
use Rattle.trace_types.specs.declared.slots.Entry.TheVariants.{Alive}
use Rattle.trace_types.specs.declared.slots.Change.{Change}
use Rattle.trace_types.specs.declared.slots.Change.TheVariants.{SetField}
use Rattle.ownership_model.specs.Changes.{HasField, with_field}
use Rattle.trace_types.specs.declared.limits.TheConstants.{MAX_FIELDS}
use Rattle.object_heap.specs.declared.draft.Draft.{Draft}
use Rattle.object_heap.specs.Counted.{drafted}
use Rattle.object_heap.specs.Gains.{CountsMore}
use Rattle.object_heap.proofs.ChangeWeights.{lost}
use Rattle.object_heap.proofs.GainLemmas.{on_ok, still_more, put_entry, lost_in, changes, room, less_room, field_in, field_gone}
use Rattle.object_heap.proofs.draft.Draft.set_field.Goals as goal

pub hold-requires : goal.hold-requires
hold-requires c =
    let old = c.args.self.now in
    less_room old.objects.counts 1 MAX_FIELDS (omega arith) (room old.objects.counts (drafted old) [] c.requires.bounded c.requires.counted (omega arith))

pub let_go-requires : goal.let_go-requires
let_go-requires c =
    let old = c.args.self.now in
    let change : Change = SetField c.args.object c.args.index c.args.slot in
    let is : get old.objects.entries c.args.object ≡ Some (Alive c.in-Some-Alive.fields) = cc (c.in-Some-Alive.ensures, c.in-Some-Alive.field-0-is) in
    field_in (drafted old) c.args.object c.args.index c.args.slot c.in-Some-Alive.fields c.as_slice.result.now _ is c.requires.can c.as_slice.ensures c.hold.new.objects.counts
    (lost_in old.objects.counts c.hold.new.objects.counts (drafted old) change c.requires.can c.requires.counted c.in_ok-hold.ensures.counts)

pub returns : goal.returns
returns c =
    let old = c.args.self.now in
    let new : Draft = record { handles = old.handles; cells = old.cells; objects = c.set_field.new.self } in
    let change : Change = SetField c.args.object c.args.index c.args.slot in
    let is : get old.objects.entries c.args.object ≡ Some (Alive c.in-Some-Alive.fields) = cc (c.in-Some-Alive.ensures, c.in-Some-Alive.field-0-is) in
    let fewer : CountsMore c.let_go.new.objects.counts c.hold.new.objects.counts (lost (drafted old) change) = field_gone (drafted old) c.args.object c.args.index c.args.slot c.in-Some-Alive.fields c.as_slice.result.now _ is c.requires.can c.as_slice.ensures c.let_go.new.objects.counts c.hold.new.objects.counts c.in_ok-let_go.ensures.counts in
    let stay : c.let_go.new.objects.entries ≡ old.objects.entries = c.in_ok-let_go.ensures.entries ∙ c.in_ok-hold.ensures.entries in
    let set = ap (λ (es : FinMap nat_cmp Entry). with_field (get es c.args.object) c.args.index c.args.slot) stay in
    on_ok c.set_field.result c.set_field.ensures.ok (λ put.
    changes old.objects.counts c.hold.new.objects.counts (drafted old) change c.requires.can c.requires.counted c.in_ok-hold.ensures.counts old new refl (still_more c.let_go.new.objects c.set_field.new.self c.hold.new.objects.counts _ _ put fewer)
    (put_entry old c.let_go.new.objects c.set_field.new.self c.args.object _ _ put stay set))

pub set_field-requires : goal.set_field-requires
set_field-requires c =
    let stay = c.in_ok-let_go.ensures.entries ∙ c.in_ok-hold.ensures.entries in
    subst (λ (es : FinMap nat_cmp Entry). HasField (get es c.args.object) c.args.index) (sym stay) c.requires.can
