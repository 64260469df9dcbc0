use Rattle.std.proofs.Common.{[], refl, ap, ◌∙◌, sym, subst, arith, length, ◌≤◌, List}
use Rattle.trace_types.specs.declared.slots.Slot.{Slot}
use Rattle.trace_types.specs.declared.slots.Entry.TheVariants.{Alive}
use Rattle.trace_types.specs.declared.slots.Change.{Change}
use Rattle.trace_types.specs.declared.slots.Change.TheVariants.{Make}
use Rattle.ownership_model.specs.State.{slots_weight}
use Rattle.trace_types.specs.declared.limits.TheConstants.{MAX_FIELDS}
use Rattle.object_heap.specs.declared.draft.Draft.{Draft}
use Rattle.object_heap.specs.Counted.{drafted}
use Rattle.object_heap.specs.TableView.{TableView}
use Rattle.object_heap.specs.Gains.{CountsMore, HasRoom}
use Rattle.object_heap.proofs.ChangeWeights.{gained, lost}
use Rattle.object_heap.proofs.DescentLemmas.{names_counted}
use Rattle.object_heap.proofs.GainLemmas.{on_ok, no_more, still_more, put_entry, same_more, changes, room, less_room}
use Rattle.object_heap.proofs.draft.Draft.make.Goals as goal

pub rank_new-requires : goal.rank_new-requires
rank_new-requires c = names_counted c.args.self.now.objects.counts (drafted c.args.self.now) c.requires.counted

pub hold_all-requires : goal.hold_all-requires
hold_all-requires c =
    let old = c.args.self.now in
    let few : length c.as_slice.result.now ≤ MAX_FIELDS = omega (arith, c.requires.fits, ap (λ (l : List Slot). length l) c.as_slice.ensures) in
    subst (λ (t : TableView). HasRoom t.counts (length c.as_slice.result.now)) (sym c.rank_new.ensures)
    (less_room old.objects.counts (length c.as_slice.result.now) MAX_FIELDS few (room old.objects.counts (drafted old) [] c.requires.bounded c.requires.counted (omega arith)))

pub returns : goal.returns
returns c =
    let old = c.args.self.now in
    let counted : TableView = c.hold_all.new.objects in
    let new : Draft = record { handles = old.handles; cells = old.cells; objects = c.insert.new.self } in
    let change : Change = Make c.args.object c.args.fields.now in
    let more : CountsMore old.objects.counts counted.counts (gained change) =
    same_more old.objects.counts counted.counts (λ w. slots_weight w c.as_slice.result.now) (gained change) (λ w. ap (slots_weight w) (sym c.as_slice.ensures))
    (subst (λ (t : TableView). CountsMore t.counts counted.counts (λ w. slots_weight w c.as_slice.result.now)) c.rank_new.ensures c.in_ok-hold_all.ensures.counts) in
    on_ok c.insert.result c.insert.ensures.ok (λ put.
    changes old.objects.counts counted.counts (drafted old) change c.requires.can c.requires.counted more old new refl
    (still_more counted c.insert.new.self counted.counts _ (lost (drafted old) change) put (no_more counted.counts (lost (drafted old) change) (λ w. refl)))
    (put_entry old counted c.insert.new.self c.args.object _ (Alive c.args.fields.now) put (c.in_ok-hold_all.ensures.entries ∙ ap (λ (t : TableView). t.entries) c.rank_new.ensures) (ap (λ (l : List Slot). Alive l) c.in_ok-copy.ensures.cases)))
