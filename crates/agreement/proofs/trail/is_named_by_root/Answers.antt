use Rattle.std.proofs.Common.{◌∙◌, sym, ap}
use Rattle.ownership_model.specs.declared.link.Link.TheVariants.{StrongOrWeak}
use Rattle.ownership_model.specs.Reach.{has, holding_names, cell_names}
use Rattle.ownership_model.proofs.LawsHold.{named}
use Rattle.agreement.proofs.trail.is_named_by_root.Goals as goal

pub returns-in-Handle : goal.returns-in-Handle
returns-in-Handle c = λ t.
    named.by_handle StrongOrWeak c.args.heap.now c.in-Handle.handle c.args.object
    (ap (λ x. has c.args.object (holding_names StrongOrWeak x)) (sym c.holding.ensures.value) ∙ sym c.is_named_by_holding.ensures ∙ t)

pub returns-in-Cell : goal.returns-in-Cell
returns-in-Cell c = λ t.
    named.by_cell StrongOrWeak c.args.heap.now c.in-Cell.cell c.args.object
    (ap (λ x. has c.args.object (cell_names StrongOrWeak x)) (sym c.cell.ensures) ∙ sym c.is_named_by_cell.ensures ∙ t)
