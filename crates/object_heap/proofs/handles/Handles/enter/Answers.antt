use Rattle.std.proofs.Common.{◌∙◌}
use Rattle.ownership_model.specs.Scopes.{entered}
use Rattle.object_heap.specs.Links.{AreLinked}
use Rattle.object_heap.specs.HandlesView.{places_of}
use Rattle.object_heap.proofs.ViewLemmas.{viewed, linked_view}
use Rattle.object_heap.proofs.HandleLemmas.{nothing_linked, entered_kept}
use Rattle.object_heap.proofs.handles.Handles.enter.Goals as goal
use Rattle.object_heap.proofs.handles.Handles.enter.Goals.{In_default}

pub invariant_of-self : goal.invariant_of-self
invariant_of-self c = nothing_linked c.clear.new.kept c.clear.new.last c.clear.ensures.kept c.clear.ensures.last

linked : (c : In_default) → AreLinked (places_of c.link.new.kept) c.link.new.last (entered c.args.label c.args.handle c.args.self.now.scopes)
linked c =
    let held = c.self.inside in
    entered_kept held.kept held.last c.args.self.now c.self.view_is c.self.invariant c.link.new.kept c.link.new.last c.args.label c.args.handle c.copied-earlier.result (c.copied-earlier.ensures ∙ c.get.ensures) c.requires
    c.in_default.ensures.places c.in_default.ensures.last

pub invariant_of-self-in_default : goal.invariant_of-self-in_default
invariant_of-self-in_default c = linked_view (places_of c.link.new.kept) c.link.new.last (entered c.args.label c.args.handle c.args.self.now.scopes) (linked c)

pub returns-clause-scopes : goal.returns-clause-scopes
returns-clause-scopes c = viewed (places_of c.link.new.kept) c.link.new.last (entered c.args.label c.args.handle c.args.self.now.scopes) (linked c)
