use Rattle.std.proofs.Common.{ap, ◌∙◌, sym, subst}
use Rattle.ownership_model.specs.State.{State}
use Rattle.ownership_model.specs.Bounds.{IsBounded}
use Rattle.ownership_model.specs.Release.{Released}
use Rattle.ownership_model.proofs.LawsHold.{bounds}
use Rattle.object_heap.specs.Counted.{drafted}
use Rattle.object_heap.proofs.draft.Draft.carry_out.Goals as goal

pub returns-clause-kept : goal.returns-clause-kept
returns-clause-kept c = record {
  sound = c.in_ok-release.ensures.sound;
  bounded = subst (λ (m : State). IsBounded m) (sym (c.in_ok-release.ensures.state ∙ ap (λ (r : Released). r.state) c.in_ok-begin.ensures.rest))
      (bounds.releases (drafted c.apply.new.self) c.args.pending.now c.in_ok-apply.ensures.bounded);
  counted = c.in_ok-release.ensures.counted;
}
