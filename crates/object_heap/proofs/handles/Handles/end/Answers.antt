use Rattle.std.proofs.Common.{◌≡◌, ap, sym, ◌∙◌, rules}
use Rattle.std.specs.Prelude.{Some, None}
use Rattle.std.specs.Option.{option_copied}
use Rattle.std.specs.FinMap.{get}
use Rattle.trace_types.specs.declared.slots.Holding.{Holding}
use Rattle.ownership_model.specs.Scopes.{left}
use Rattle.object_heap.specs.Links.{AreLinked}
use Rattle.object_heap.specs.HandlesView.{places_of}
use Rattle.object_heap.proofs.ViewLemmas.{viewed, linked_view}
use Rattle.object_heap.proofs.HandleLemmas.{nothing_linked, holding_found, held_stays, scopes_stay, left_kept}
use Rattle.object_heap.proofs.handles.Handles.end.Goals as goal
use Rattle.object_heap.proofs.handles.Handles.end.Goals.{In_default, In_default-unlink}

none : (c : In_default) → get c.self.inside.kept c.args.handle ≡ None
none c = sym c.in_default.ensures

pub returns-in_default-clause-was : goal.returns-in_default-clause-was
returns-in_default-clause-was c =
    let held = c.self.inside in
    holding_found held.kept held.last c.args.self.now c.self.view_is c.self.invariant c.args.handle None (none c)

pub returns-in_default-clause-held : goal.returns-in_default-clause-held
returns-in_default-clause-held c =
    let held = c.self.inside in
    held_stays held.kept held.last c.args.self.now c.self.view_is c.self.invariant c.args.handle (none c)

pub returns-in_default-clause-scopes : goal.returns-in_default-clause-scopes
returns-in_default-clause-scopes c =
    let held = c.self.inside in
    scopes_stay held.kept held.last c.args.self.now c.self.view_is c.self.invariant c.args.handle (none c)

pub invariant_of-self : goal.invariant_of-self
invariant_of-self c = nothing_linked c.clear.new.kept c.clear.new.last c.clear.ensures.kept c.clear.ensures.last

linked : (c : In_default-unlink) → AreLinked (places_of c.unlink.new.kept) c.unlink.new.last (left c.args.handle c.args.self.now.scopes)
linked c =
    let held = c.self.inside in
    left_kept held.kept held.last c.args.self.now c.self.view_is c.self.invariant c.unlink.new.kept c.unlink.new.last c.args.handle c.in-Some.held.now (sym c.get.ensures ∙ ap option_copied c.in-Some.is)
    c.in_default-unlink.ensures.places c.in_default-unlink.ensures.last

pub invariant_of-self-in_default-unlink : goal.invariant_of-self-in_default-unlink
invariant_of-self-in_default-unlink c = linked_view (places_of c.unlink.new.kept) c.unlink.new.last (left c.args.handle c.args.self.now.scopes) (linked c)

pub returns-clause-was : goal.returns-clause-was
returns-clause-was c =
    let held = c.self.inside in
    let same : c.in_ok-was.was' ≡ c.in-Some.held.now.holding = search rules in
    ap (λ (x : Holding). Some x) same ∙ holding_found held.kept held.last c.args.self.now c.self.view_is c.self.invariant c.args.handle (Some c.in-Some.held.now) (sym c.get.ensures ∙ ap option_copied c.in-Some.is)

pub returns-clause-scopes : goal.returns-clause-scopes
returns-clause-scopes c = viewed (places_of c.unlink.new.kept) c.unlink.new.last (left c.args.handle c.args.self.now.scopes) (linked c)
