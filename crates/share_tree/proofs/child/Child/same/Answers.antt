use Rattle.std.proofs.Common.{ap, sym, ◌∙◌, Some}
use Rattle.std.specs.Option.{option_map}
use Rattle.std.specs.Arc.{arc_value}
use Rattle.share_tree.proofs.child.Child.same.Goals as goal

pub returns-in-Some-Some : goal.returns-in-Some-Some
returns-in-Some-Some g c =
    rw (sym c.self.view_is ∙ ap (option_map arc_value) c.in-Some-Some.is-0 ∙ ap Some (sym c.deref.ensures), sym c.other.view_is ∙ ap (option_map arc_value) c.in-Some-Some.is-1 ∙ ap Some (sym c.deref-in-Some-Some.ensures)) c.same.ensures

pub returns-in-Some-None : goal.returns-in-Some-None
returns-in-Some-None g c =
    rw (sym c.self.view_is ∙ ap (option_map arc_value) c.in-Some-None.is-0 ∙ ap Some (sym c.deref-in-Some-None.ensures), sym c.other.view_is ∙ ap (option_map arc_value) c.in-Some-None.is-1) c.is_empty.ensures

pub returns-in-None-Some : goal.returns-in-None-Some
returns-in-None-Some g c =
    rw (sym c.other.view_is ∙ ap (option_map arc_value) c.in-None-Some.is-1 ∙ ap Some (sym c.deref-in-None-Some.ensures), sym c.self.view_is ∙ ap (option_map arc_value) c.in-None-Some.is-0)
    ((λ t q h. sym (c.is_empty-in-None-Some.ensures.0 t q h)), (λ f. c.is_empty-in-None-Some.ensures.1 (λ q h. sym (f q h))))
