use Rattle.std.proofs.Common.{ap, ◌∙◌, sym}
use Rattle.std.specs.Prelude.{Some, None}
use Rattle.std.specs.Option.{option_copied}
use Rattle.object_heap.proofs.HandleLemmas.{label_found}
use Rattle.object_heap.proofs.handles.Handles.label.Goals as goal

pub returns-in-Some : goal.returns-in-Some
returns-in-Some c =
    let held = c.self.inside in
    label_found held.kept held.last c.args.self.now c.self.view_is c.self.invariant c.args.handle (Some c.in-Some.held.now) (sym c.get.ensures ∙ ap option_copied c.in-Some.is)

pub returns-in-None : goal.returns-in-None
returns-in-None c =
    let held = c.self.inside in
    label_found held.kept held.last c.args.self.now c.self.view_is c.self.invariant c.args.handle None (sym c.get.ensures ∙ ap option_copied c.in-None.is)
