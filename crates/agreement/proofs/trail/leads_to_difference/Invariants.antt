use Rattle.std.proofs.Common.{◌≡◌, true}
use Rattle.ownership_model.specs.declared.link.Link.TheVariants.{StrongOrWeak}
use Rattle.ownership_model.specs.Reach.{is_reached}
use Rattle.agreement.proofs.trail.leads_to_difference.Given as goal

abbrev pub invariant-loop-object : goal.invariant-loop-object
invariant-loop-object l = is_reached StrongOrWeak l.new l.at ≡ true
