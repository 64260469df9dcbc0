use Rattle.std.proofs.Common.{◌∙◌, ap, sym, subst, List}
use Rattle.trace_types.specs.declared.slots.Change.{Change}
use Rattle.ownership_model.specs.State.{State}
use Rattle.ownership_model.specs.Bounds.{IsBounded}
use Rattle.ownership_model.specs.Changes.{changed}
use Rattle.ownership_model.specs.Plain.{state_of}
use Rattle.ownership_model.proofs.LimitLemmas.{release_bounded}
use Rattle.ownership_model.proofs.PlainLemmas.{changes_bounded}
use Rattle.ownership_model.proofs.plain.state.PlainState.carry_out.Goals as goal

pub release-requires : goal.release-requires
release-requires c =
    changes_bounded (state_of c.args.self.now) (state_of c.apply.new.self) c.args.plan c.in-Act.answer c.in-Act.changes c.in-Act.event c.in-Act.pending c.in-Act.object c.in-Act.is c.requires.carriable c.requires.fits
    (c.in_ok-apply-in-Act.ensures ∙ ap (λ (cs : List Change). changed (state_of c.args.self.now) cs) c.as_slice.ensures) c.requires.bounded

pub counts_of-requires : goal.counts_of-requires
counts_of-requires c =
    subst (λ (m : State). IsBounded m) (sym c.in_ok-released-in-Act.ensures.state)
    (release_bounded (state_of c.apply.new.self) c.as_slice-in-Act.result.now
    (changes_bounded (state_of c.args.self.now) (state_of c.apply.new.self) c.args.plan c.in-Act.answer c.in-Act.changes c.in-Act.event c.in-Act.pending c.in-Act.object c.in-Act.is c.requires.carriable c.requires.fits
    (c.in_ok-apply-in-Act.ensures ∙ ap (λ (cs : List Change). changed (state_of c.args.self.now) cs) c.as_slice.ensures) c.requires.bounded))
