use Rattle.std.proofs.Common.{◌≡◌, ◌∙◌, ap, subst}
use Rattle.run_engine.specs.RunView.{RunView}
use Rattle.edit_desk.specs.Versions.{Version, ReplaysWithin}
use Rattle.edit_desk.proofs.published.revised.Goals as goal

pub returns-clause-bound : goal.returns-clause-bound
unfolding ReplaysWithin
returns-clause-bound c =
    let same : c.deref.result.now ≡ c.args.published.now.run = c.deref.ensures ∙ ap (λ (v : Version). v.run) c.published.view_is in
    subst (λ (v : RunView). ReplaysWithin v.trace v.marks c.args.batch.now c.args.meter.now c.edited.new.meter) same c.edited.ensures.bound
