use Rattle.std.proofs.Common.{◌≡◌, refl, ap, sym, ◌∙◌, rules}
use Rattle.std.specs.Prelude.{Option, Some, None}
use Rattle.std.specs.Option.{option_copied}
use Rattle.std.specs.FinMap.{insert}
use Rattle.trace_types.specs.declared.slots.Holding.{Holding}
use Rattle.ownership_model.specs.Scopes.{kept_or_entered}
use Rattle.object_heap.specs.declared.held.Held.{Held}
use Rattle.object_heap.specs.HandlesView.{HandlesView, holdings_of, places_of}
use Rattle.object_heap.proofs.ViewLemmas.{viewed, linked_view}
use Rattle.object_heap.proofs.HandleLemmas.{holding_found, holdings_with, linked_still, scopes_kept}
use Rattle.object_heap.proofs.handles.Handles.set.Goals as goal

pub enter-requires : goal.enter-requires
enter-requires c =
    let held = c.self.inside in
    sym (holding_found held.kept held.last c.args.self.now c.self.view_is c.self.invariant c.args.handle None (sym c.in_default.ensures))

pub returns-in_default-clause-was : goal.returns-in_default-clause-was
returns-in_default-clause-was c =
    let held = c.self.inside in
    holding_found held.kept held.last c.args.self.now c.self.view_is c.self.invariant c.args.handle None (sym c.in_default.ensures)

pub returns-in_default-clause-scopes : goal.returns-in_default-clause-scopes
returns-in_default-clause-scopes c =
    let held = c.self.inside in
    c.in_ok-enter.ensures.scopes
    ∙ ap (λ (o : Option Holding). kept_or_entered o c.args.label c.args.handle c.args.self.now.scopes)
    (holding_found held.kept held.last c.args.self.now c.self.view_is c.self.invariant c.args.handle None (sym c.in_default.ensures))

pub invariant_of-self-2 : goal.invariant_of-self-2
invariant_of-self-2 c =
    let held = c.self.inside in
    let was = c.in-Some.held.now in
    linked_view (places_of c.insert.new.self) held.last c.args.self.now.scopes
    (linked_still held.kept held.last c.args.self.now c.self.view_is c.self.invariant c.insert.new.self c.args.handle was (record { holding = c.args.holding; place = was.place }) (sym c.get.ensures ∙ ap option_copied c.in-Some.is) c.in_ok-insert.ensures.ok refl)

pub returns-clause-was : goal.returns-clause-was
returns-clause-was c =
    let held = c.self.inside in
    let same : c.in_ok-was.was' ≡ c.in-Some.held.now.holding = search rules in
    ap (λ (x : Holding). Some x) same ∙ holding_found held.kept held.last c.args.self.now c.self.view_is c.self.invariant c.args.handle (Some c.in-Some.held.now) (sym c.get.ensures ∙ ap option_copied c.in-Some.is)

pub returns-clause-held : goal.returns-clause-held
returns-clause-held c =
    let held = c.self.inside in
    ap holdings_of c.in_ok-insert.ensures.ok ∙ holdings_with held.kept c.args.handle (record { holding = c.args.holding; place = c.in-Some.held.now.place })
    ∙ ap (λ (v : HandlesView). insert v.holdings c.args.handle c.args.holding) c.self.view_is

pub returns-clause-scopes : goal.returns-clause-scopes
returns-clause-scopes c =
    let held = c.self.inside in
    let was = c.in-Some.held.now in
    let here = sym c.get.ensures ∙ ap option_copied c.in-Some.is in
    let next : Held = record { holding = c.args.holding; place = was.place } in
    viewed (places_of c.insert.new.self) held.last c.args.self.now.scopes
    (linked_still held.kept held.last c.args.self.now c.self.view_is c.self.invariant c.insert.new.self c.args.handle was next here c.in_ok-insert.ensures.ok refl)
    ∙ scopes_kept held.kept held.last c.args.self.now c.self.view_is c.self.invariant c.insert.new.self c.args.handle was next here c.in_ok-insert.ensures.ok refl c.args.label
