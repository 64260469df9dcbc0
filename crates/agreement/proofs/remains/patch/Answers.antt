use Rattle.std.proofs.Common.{◌≡◌, [], sym, subst}
use Rattle.std.specs.Prelude.{IfOk}
use Rattle.std.specs.Arc.{arc_value}
use Rattle.ownership_model.specs.State.{State, IsSound}
use Rattle.agreement.proofs.TrimmingLemmas.{same_patch}
use Rattle.agreement.proofs.remains.patch.Goals as goal

pub made_in-requires : goal.made_in-requires
made_in-requires c =
    subst (λ (m : State). IsSound m []) (sym (same_patch c.args.remains.now (arc_value c.differing.result.now) c.deref.result.now c.args.later.now c.in_ok-share.field-0 c.differing.ensures.less c.deref.ensures c.requires.there c.in_ok-share.ensures))
    c.requires.sound

pub returns : goal.returns
returns c =
    subst (λ (m : State). IfOk c.made_in.result (λ h. h ≡ m)) (same_patch c.args.remains.now (arc_value c.differing.result.now) c.deref.result.now c.args.later.now c.in_ok-share.field-0 c.differing.ensures.less c.deref.ensures c.requires.there c.in_ok-share.ensures)
    c.made_in.ensures
