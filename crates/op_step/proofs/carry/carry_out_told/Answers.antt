use Rattle.std.proofs.Common.{List, ◌++◌, map, sym, subst}
use Rattle.trace_types.specs.declared.slots.Item.{Item}
use Rattle.trace_types.specs.declared.slots.Change.{Change}
use Rattle.trace_types.specs.declared.outcomes.Event.{Event}
use Rattle.ownership_model.specs.declared.key.Key.{Key}
use Rattle.ownership_model.specs.declared.key.Key.TheVariants.{Object}
use Rattle.ownership_model.specs.declared.plan.Plan.{Plan}
use Rattle.ownership_model.specs.Touched.{event_object, counted}
use Rattle.ownership_model.specs.Alike.{Covers}
use Rattle.object_heap.specs.Told.{event_keys, release_keys}
use Rattle.heap_difference.specs.Naming.{outcome_keys}
use Rattle.op_step.specs.Told.{carried_keys}
use Rattle.op_step.proofs.ToldLemmas.{covers_carried, covers_skipped}
use Rattle.op_step.proofs.carry.carry_out_told.Goals as goal

pub returns-in-Skip-clause-told : goal.returns-in-Skip-clause-told
returns-in-Skip-clause-told c =
    let k0 = c.args.keys.now.items in
    subst (λ (p : Plan). Covers (k0 ++ outcome_keys c.skipped.result) (k0 ++ carried_keys c.args.heap.now p)) (sym c.in-Skip.is) (covers_skipped k0 (outcome_keys c.skipped.result))

pub returns-in_ok-with_named-in-Act-clause-told : goal.returns-in_ok-with_named-in-Act-clause-told
returns-in_ok-with_named-in-Act-clause-told c =
    let m = c.args.heap.now in
    let k0 : List Key = c.args.keys.now.items in
    let k1 : List Key = c.tell_object.new.keys.items in
    let k2 : List Key = c.release_told.new.keys.items in
    let k3 : List Key = c.untell_object.new.keys.items in
    let changes = c.in-Act.changes in
    let pending = c.in-Act.pending in
    let es : List Event = c.in_ok-released-in-Act.released in
    let told : Covers (k2 ++ event_keys es) (k1 ++ release_keys m changes pending) =
    subst (λ (cs : List Change). Covers (k2 ++ event_keys es) (k1 ++ release_keys m cs pending)) c.as_slice.ensures
    (subst (λ (is : List Item). Covers (k2 ++ event_keys es) (k1 ++ release_keys m c.as_slice.result.now is)) c.as_slice-in-Act.ensures c.in_ok-released-in-Act.ensures.told) in
    subst (λ (p : Plan). Covers (k3 ++ map Object (map event_object c.in_ok-with_named-in-Act.field-0 ++ counted c.counts_of.result)) (k0 ++ carried_keys m p)) (sym c.in-Act.is)
    (covers_carried m c.release_told.new.self changes c.in-Act.event pending c.in-Act.object es c.in_ok-with_named-in-Act.field-0 c.counts_of.result k0 k1 k2 k3
    c.in_ok-with_named-in-Act.ensures c.counts_of.ensures c.in_ok-tell_object-in-Act.ensures told c.untell_object.ensures)
