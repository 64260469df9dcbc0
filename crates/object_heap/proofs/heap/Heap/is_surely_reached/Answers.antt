use Rattle.std.proofs.Common.{◌≡◌, ap, ◌∙◌, sym, subst, true}
use Rattle.std.specs.Prelude.{is_some}
use Rattle.std.specs.FinMap.{get}
use Rattle.ownership_model.specs.State.{State}
use Rattle.ownership_model.specs.declared.link.Link.TheVariants.{StrongOrWeak}
use Rattle.ownership_model.specs.Reach.{is_reached}
use Rattle.object_heap.specs.Counted.{drafted}
use Rattle.object_heap.proofs.DescentLemmas.{reached}
use Rattle.object_heap.proofs.heap.Heap.is_surely_reached.Goals as goal

pub returns-in-Some : goal.returns-in-Some
returns-in-Some c = λ t.
    let m : State = drafted c.self.inside.draft in
    let there : is_some (get m.objects c.args.object) ≡ true = ap (λ (s : State). is_some (get s.objects c.args.object)) c.self.view_is ∙ ap is_some (sym c.in-Some.ensures) in
    subst (λ (s : State). is_reached StrongOrWeak s c.args.object ≡ true) c.self.view_is
    (reached m c.args.object c.self.invariant.sound c.self.invariant.bounded (c.descend_to.ensures t) there)
