use Rattle.std.proofs.Common.{length, get_or, ap, arith}
use Rattle.std.specs.Prelude.{slice_index_or}
use Rattle.retention.proofs.AccountLemmas.{holder_place}
use Rattle.retention.proofs.account.holders.Goals as goal

pub held-requires : goal.held-requires
held-requires c =
    holder_place c.args.graph.now c.args.index c.loop-place.place-index (slice_index_or c.holders-places.result.now c.loop-place.place-index 0)
    (omega (arith, c.loop-place-test.true, ap length c.holders-places.ensures)) (ap (λ xs. get_or xs c.loop-place.place-index 0) c.holders-places.ensures)
