use Rattle.std.proofs.Common.{ap, ◌∙◌}
use Rattle.std.specs.Prelude.{insert}
use Rattle.run_engine.proofs.SpanLemmas.{set-removed}
use Rattle.run_engine.proofs.editing.listing.Listing.set.Goals as goal

pub returns-clause-ops : goal.returns-clause-ops
returns-clause-ops c =
    c.in_ok-insert.ensures.ops ∙ ap (λ ops. insert ops c.args.place c.args.op.now) c.in_ok-remove.ensures.ops ∙ set-removed c.args.self.now.ops c.args.place c.args.op.now c.requires.within
