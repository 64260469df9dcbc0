use Rattle.std.proofs.Common.{refl}
use Rattle.retention_report.proofs.GivenLemmas.{indices_more}
use Rattle.retention_report.proofs.given.indices_of.Goals as goal

pub loop-object-preserved : goal.loop-object-preserved
loop-object-preserved c =
    indices_more c.args.graph.now.objects.items c.args.objects.now c.loop-object.object-index _ c.loop-object.indices.items c.push_index.new.indices.items c.loop-object-test.true refl c.loop-object.invariant c.in_ok-push_index.ensures
