use Rattle.std.proofs.Common.{◌∙◌, sym, ap, slice_index_or}
use Rattle.ownership_model.specs.declared.link.Link.TheVariants.{StrongOrWeak}
use Rattle.ownership_model.specs.Reach.{has, entry_names}
use Rattle.ownership_model.proofs.LawsHold.{named}
use Rattle.agreement.proofs.trail.leads_to_difference.Goals as goal

pub loop-object-preserved : goal.loop-object-preserved
loop-object-preserved c =
    let next = slice_index_or c.deref-object-items.result.now c.loop-object.object-index 0 in
    named.by_field StrongOrWeak c.args.new.now c.loop-object.at next c.loop-object.invariant
    (ap (λ x. has next (entry_names StrongOrWeak x)) (sym c.object.ensures) ∙ sym c.is_named_by_entry.ensures ∙ c.if-not-is_named_by_entry.false)
