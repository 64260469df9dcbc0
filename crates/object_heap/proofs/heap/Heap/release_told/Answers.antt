use Rattle.std.proofs.Common.{List, ap, ◌∙◌, ◌++◌, refl, sym, subst}
use Rattle.trace_types.specs.declared.outcomes.Event.{Event}
use Rattle.ownership_model.specs.declared.key.Key.{Key}
use Rattle.ownership_model.specs.Alike.{Covers}
use Rattle.ownership_model.specs.State.{State}
use Rattle.ownership_model.specs.Changes.{changed}
use Rattle.object_heap.specs.Counted.{drafted}
use Rattle.object_heap.proofs.ReleaseLemmas.{cascades}
use Rattle.object_heap.proofs.NothingLemmas.{kept_nothing}
use Rattle.object_heap.specs.Told.{release_keys, event_keys}
use Rattle.object_heap.proofs.heap.Heap.release_told.Goals as goal

pub invariant_of-self-in-Err : goal.invariant_of-self-in-Err
invariant_of-self-in-Err c = kept_nothing c.let_go.new.self c.let_go.ensures.state c.let_go.ensures.counts

pub returns-in-Ok-clause-cascade : goal.returns-in-Ok-clause-cascade
returns-in-Ok-clause-cascade c =
    let from = changed (drafted c.self.inside.draft) c.args.changes.now in
    cascades (changed c.args.self.now c.args.changes.now) from (drafted c.carry_out_told.new.self) c.args.pending.now c.args.pending.now c.from_vec.result
    c.requires.sound (ap (λ (m : State). changed m c.args.changes.now) c.self.view_is) refl
    c.in-Ok.ensures.state
    (c.from_vec.ensures ∙ c.in-Ok.ensures.events)

pub returns-in-Ok-clause-told : goal.returns-in-Ok-clause-told
returns-in-Ok-clause-told c =
    let told : List Key = c.carry_out_told.new.keys.items in
    let before : List Key = c.args.keys.now.items in
    subst (λ (es : List Event). Covers (told ++ event_keys es) (before ++ release_keys c.args.self.now c.args.changes.now c.args.pending.now)) (sym c.from_vec.ensures)
    (subst (λ (m : State). Covers (told ++ event_keys c.in-Ok.events.items) (before ++ release_keys m c.args.changes.now c.args.pending.now)) c.self.view_is c.in-Ok.ensures.told)
