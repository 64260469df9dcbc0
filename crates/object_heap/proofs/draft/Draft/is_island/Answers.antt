use Rattle.std.proofs.Common.{◌∙◌, sym}
use Rattle.object_heap.specs.Counted.{drafted}
use Rattle.object_heap.proofs.IslandLemmas.{island}
use Rattle.object_heap.proofs.draft.Draft.is_island.Goals as goal

pub returns : goal.returns
returns c = λ t.
    island c.args.objects.now (drafted c.args.self.now) c.in_ok-rest.rest.objects.counts c.in_ok-rest.ensures (sym c.counts_none.ensures ∙ t)
