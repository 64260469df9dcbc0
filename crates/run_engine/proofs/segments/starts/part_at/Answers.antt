use Rattle.std.proofs.Common.{leb, leb-true, arith, rules}
use Rattle.std.proofs.lemmas.Bool.{leb-false}
use Rattle.std.proofs.lemmas.List.Sorted.{IsPartitionPoint-from_clause, IsPartitionedBy-leb}
use Rattle.run_engine.proofs.StartLemmas.{starts-rise, last-begun, none-begun}
use Rattle.run_engine.proofs.segments.starts.part_at.Goals as goal

pub returns-then-begun-eq0-clause-none : goal.returns-then-begun-eq0-clause-none
returns-then-begun-eq0-clause-none c parts is =
    let parted = IsPartitionedBy-leb (λ x. x) c.args.starts.now c.args.place (rw is (starts-rise 0 parts)) in
    let point = IsPartitionPoint-from_clause (λ x. leb x c.args.place) _ _ c.partition_point-begun.ensures.partitioned parted (λ a r q k. search rules) in
    none-begun parts c.args.starts.now c.args.place c.partition_point-begun.result is (omega arith) (λ k d from below. leb-false _ _ (point.1 k d from below))

pub returns-clause-part : goal.returns-clause-part
returns-clause-part c parts is =
    let parted = IsPartitionedBy-leb (λ x. x) c.args.starts.now c.args.place (rw is (starts-rise 0 parts)) in
    let point = IsPartitionPoint-from_clause (λ x. leb x c.args.place) _ _ c.partition_point-begun.ensures.partitioned parted (λ a r q k. search rules) in
    last-begun parts c.args.starts.now c.args.place c.partition_point-begun.result is (omega arith) c.partition_point-begun.ensures.bound
    (λ k d below. leb-true _ _ (point.0 k d (omega arith) below)) (λ k d from below. leb-false _ _ (point.1 k d from below))

pub returns-then-begun-eq0-clause-no_block : goal.returns-then-begun-eq0-clause-no_block
returns-then-begun-eq0-clause-no_block c blocks is =
    let parted = IsPartitionedBy-leb (λ x. x) c.args.starts.now c.args.place (rw is (starts-rise 0 blocks)) in
    let point = IsPartitionPoint-from_clause (λ x. leb x c.args.place) _ _ c.partition_point-begun.ensures.partitioned parted (λ a r q k. search rules) in
    none-begun blocks c.args.starts.now c.args.place c.partition_point-begun.result is (omega arith) (λ k d from below. leb-false _ _ (point.1 k d from below))

pub returns-clause-block : goal.returns-clause-block
returns-clause-block c blocks is =
    let parted = IsPartitionedBy-leb (λ x. x) c.args.starts.now c.args.place (rw is (starts-rise 0 blocks)) in
    let point = IsPartitionPoint-from_clause (λ x. leb x c.args.place) _ _ c.partition_point-begun.ensures.partitioned parted (λ a r q k. search rules) in
    last-begun blocks c.args.starts.now c.args.place c.partition_point-begun.result is (omega arith) c.partition_point-begun.ensures.bound
    (λ k d below. leb-true _ _ (point.0 k d (omega arith) below)) (λ k d from below. leb-false _ _ (point.1 k d from below))
