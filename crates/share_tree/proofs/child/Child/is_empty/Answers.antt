use Rattle.std.proofs.Common.{ap, sym, ◌∙◌, Some}
use Rattle.std.specs.Option.{option_map}
use Rattle.std.specs.Arc.{arc_value}
use Rattle.share_tree.proofs.child.Child.is_empty.Goals as goal

pub returns-in-Some : goal.returns-in-Some
returns-in-Some g c =
    rw (sym c.self.view_is ∙ ap (option_map arc_value) c.in-Some.is ∙ ap Some (sym c.deref.ensures)) c.is_empty.ensures
