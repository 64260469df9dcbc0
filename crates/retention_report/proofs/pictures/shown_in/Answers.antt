use Rattle.std.proofs.Common.{◌∙◌, ap, length}
use Rattle.std.proofs.lemmas.Result.{IfOk-weaker}
use Rattle.retention_report.proofs.GivenLemmas.{all_long, shown_all, shown_some}
use Rattle.retention.specs.Graph.{size}
use Rattle.retention_report.proofs.pictures.shown_in.Goals as goal

pub returns-then-with_all-clause-long : goal.returns-then-with_all-clause-long
returns-then-with_all-clause-long c = IfOk-weaker c.all_shown.result _ _ (λ v is. all_long (size c.args.end.now.graph) v.items is) c.all_shown.ensures

pub returns-then-with_all-clause-each : goal.returns-then-with_all-clause-each
returns-then-with_all-clause-each c = IfOk-weaker c.all_shown.result _ _ (λ v is. shown_all c.args.with_all c.args.end.now c.args.indices.now v.items c.if-with_all.true is) c.all_shown.ensures

pub shown_for-requires : goal.shown_for-requires
shown_for-requires c = record {
  long = ap length c.deref.ensures.value ∙ c.requires.ending.long;
  within = c.requires.within;
}

pub returns-else-with_all-clause-each : goal.returns-else-with_all-clause-each
returns-else-with_all-clause-each c =
    IfOk-weaker c.shown_for.result _ _ (λ v is. shown_some c.args.with_all c.args.end.now c.args.indices.now c.deref.result.now v.items c.if-with_all.false c.deref.ensures.value is) c.shown_for.ensures.each
