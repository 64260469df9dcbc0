use Rattle.object_heap.specs.Links.{AreLinked, entered_above}
use Rattle.object_heap.specs.HandlesView.{places_of}
use Rattle.object_heap.proofs.ViewLemmas.{viewed, linked_view}
use Rattle.object_heap.proofs.HandleLemmas.{nothing_linked, above_kept}
use Rattle.object_heap.proofs.handles.Handles.enter_above.Goals as goal
use Rattle.object_heap.proofs.handles.Handles.enter_above.Goals.{In_default}

pub invariant_of-self : goal.invariant_of-self
invariant_of-self c = nothing_linked c.clear.new.kept c.clear.new.last c.clear.ensures.kept c.clear.ensures.last

linked : (c : In_default) → AreLinked (places_of c.link_above.new.kept) c.link_above.new.last (entered_above c.args.label c.args.handle c.args.under c.args.self.now.scopes)
linked c =
    let held = c.self.inside in
    above_kept held.kept held.last c.args.self.now c.self.view_is c.self.invariant c.link_above.new.kept c.link_above.new.last c.args.label c.args.handle c.args.under c.above-above.result
    c.requires.stands c.above-above.ensures c.requires.free c.in_default.ensures.places c.in_default.ensures.last

pub invariant_of-self-in_default : goal.invariant_of-self-in_default
invariant_of-self-in_default c = linked_view (places_of c.link_above.new.kept) c.link_above.new.last (entered_above c.args.label c.args.handle c.args.under c.args.self.now.scopes) (linked c)

pub returns-clause-scopes : goal.returns-clause-scopes
returns-clause-scopes c = viewed (places_of c.link_above.new.kept) c.link_above.new.last (entered_above c.args.label c.args.handle c.args.under c.args.self.now.scopes) (linked c)
