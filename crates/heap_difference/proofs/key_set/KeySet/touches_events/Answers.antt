use Rattle.std.proofs.Common.{◌≡◌, ◌∙◌, sym, subst, false, List}
use Rattle.std.specs.List.{list_any}
use Rattle.std.proofs.lemmas.List.{take_all}
use Rattle.std.proofs.lemmas.List.Folds.{list_any_at}
use Rattle.trace_types.specs.declared.outcomes.Event.{Event}
use Rattle.trace_types.specs.declared.outcomes.Event.TheVariants.{Destroyed}
use Rattle.ownership_model.specs.declared.key.Key.TheVariants.{Object}
use Rattle.ownership_model.specs.Touched.{event_object}
use Rattle.heap_difference.specs.KeySets.{is_among}
use Rattle.heap_difference.proofs.NamingLemmas.{any_event}
use Rattle.heap_difference.proofs.key_set.KeySet.touches_events.Goals as goal

pub returns-then-has : goal.returns-then-has
returns-then-has c =
    let p = is_among c.args.self.now in
    sym (any_event p c.args.events.now
    ∙ list_any_at (λ e. p (Object (event_object e))) c.args.events.now c.loop-event.event-index (Destroyed 0) c.loop-event-test.true
    (rw c.object_of.ensures at (sym c.has.ensures ∙ c.if-has.true)))

pub returns : goal.returns
returns c =
    let p = is_among c.args.self.now in
    sym (any_event p c.args.events.now
    ∙ subst (λ (es : List Event). list_any (λ e. p (Object (event_object e))) es ≡ false) (take_all c.loop-event.event-index c.args.events.now c.loop-event-test.false) c.loop-event.invariant)
