use Rattle.std.proofs.Common.{ℕ, ap, ◌∙◌, sym, subst}
use Rattle.std.specs.Prelude.{Option, Some, None}
use Rattle.std.specs.Option.{option_copied}
use Rattle.ownership_model.specs.Scopes.{scope_of}
use Rattle.object_heap.specs.Links.{IsAbove, above_of}
use Rattle.object_heap.proofs.HandleLemmas.{later_found}
use Rattle.object_heap.proofs.handles.Handles.above.Goals as goal

pub returns-in-Some-get : goal.returns-in-Some-get
returns-in-Some-get c =
    let held = c.self.inside in
    let seen = c.args.self.now in
    later_found held.kept held.last seen c.self.view_is c.self.invariant c.args.label c.in-Some.under (Some c.in-Some-get.held.now) (sym c.get.ensures ∙ ap option_copied c.in-Some-get.is)
    (subst (λ (o : Option ℕ). IsAbove o c.args.label seen.scopes) c.in-Some.is c.requires)
    ∙ sym (ap (λ (o : Option ℕ). above_of o None (scope_of c.args.label seen.scopes)) c.in-Some.is)

pub returns-in-None : goal.returns-in-None
returns-in-None c =
    let held = c.self.inside in
    let seen = c.args.self.now in
    later_found held.kept held.last seen c.self.view_is c.self.invariant c.args.label c.in-Some.under None (sym c.get.ensures ∙ ap option_copied c.in-None.is)
    (subst (λ (o : Option ℕ). IsAbove o c.args.label seen.scopes) c.in-Some.is c.requires)
    ∙ sym (ap (λ (o : Option ℕ). above_of o None (scope_of c.args.label seen.scopes)) c.in-Some.is)
