use Rattle.std.proofs.Common.{◌≡◌, ◌<◌, ◌∙◌, ℕ, length, get_or, ap, subst, rules}
use Rattle.std.specs.FinMap.{get}
use Rattle.ownership_model.specs.declared.link.Link.TheVariants.{StrongOrWeak}
use Rattle.ownership_model.specs.Reach.{entry_names, field_names}
use Rattle.agreement.specs.Joining.{Compares}
use Rattle.agreement.proofs.JoiningLemmas.{joining_next}
use Rattle.agreement.proofs.joining.joined.Goals as goal

pub loop-at-preserved : goal.loop-at-preserved
loop-at-preserved c =
    let within : c.loop-at.at < length c.loop-at.listed = search rules in
    let is : c.in-Some.object.now ≡ get_or c.loop-at.listed c.loop-at.at 0 = search rules in
    let object : ℕ = get_or c.loop-at.listed c.loop-at.at 0 in
    let in_new : Compares c.args.new.now c.args.old.now (field_names StrongOrWeak c.args.new.now object) c.loop-at.listed c.join_entry.new.listed =
    subst (λ e. Compares c.args.new.now c.args.old.now (entry_names StrongOrWeak e) c.loop-at.listed c.join_entry.new.listed)
    (c.object.ensures ∙ ap (get c.args.new.now.objects) is) c.in_ok-join_entry-in-Some.ensures in
    let in_old : Compares c.args.new.now c.args.old.now (field_names StrongOrWeak c.args.old.now object) c.join_entry.new.listed c.join_entry-in-Some.new.listed =
    subst (λ e. Compares c.args.new.now c.args.old.now (entry_names StrongOrWeak e) c.join_entry.new.listed c.join_entry-in-Some.new.listed)
    (c.object-in-Some.ensures ∙ ap (get c.args.old.now.objects) is) c.in_ok-join_entry-in-Some-2.ensures in
    joining_next c.args.new.now c.args.old.now c.args.objects.now c.loop-at.at 0 c.loop-at.listed c.join_entry.new.listed c.join_entry-in-Some.new.listed within c.loop-at.invariant in_new in_old
