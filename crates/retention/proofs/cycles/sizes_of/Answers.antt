use Rattle.std.proofs.Common.{◌≡◌, ◌<◌, ◌≤◌, length, get_or, take, refl, arith}
use Rattle.std.specs.Prelude.{◌==◌}
use Rattle.std.specs.List.{count_by}
use Rattle.std.proofs.lemmas.List.{get_or_read}
use Rattle.retention.proofs.CountLemmas.{count_taken, counted_more}
use Rattle.retention.proofs.cycles.sizes_of.Goals as goal

pub overflow_add-index_mut : goal.overflow_add-index_mut
overflow_add-index_mut c =
    let part : get_or c.args.parts.now c.loop-part.part-index 0 < length c.args.parts.now = c.requires c.loop-part.part-index c.loop-part-test.true in
    let read : c.index_mut.result.now ≡ get_or c.loop-part.sizes.items (get_or c.args.parts.now c.loop-part.part-index 0) 0 =
    get_or_read c.loop-part.sizes.items (get_or c.args.parts.now c.loop-part.part-index 0) c.index_mut.result.now (omega (arith, part, c.loop-part.invariant.0)) c.index_mut.ensures.value 0 in
    let count : get_or c.loop-part.sizes.items (get_or c.args.parts.now c.loop-part.part-index 0) 0 ≡ count_by (λ part. part == get_or c.args.parts.now c.loop-part.part-index 0) (take c.loop-part.part-index c.args.parts.now) =
    c.loop-part.invariant.1 (get_or c.args.parts.now c.loop-part.part-index 0) part in
    let few : count_by (λ part. part == get_or c.args.parts.now c.loop-part.part-index 0) (take c.loop-part.part-index c.args.parts.now) ≤ c.loop-part.part-index = count_taken (λ part. part == get_or c.args.parts.now c.loop-part.part-index 0) c.args.parts.now c.loop-part.part-index in
    omega (arith, read, count, few, c.loop-part-test.true, c.loop-part.invariant.0, c.loop-part.sizes.ok, c.loop-part.sizes.small)

pub loop-part-preserved : goal.loop-part-preserved
loop-part-preserved c =
    let part : get_or c.args.parts.now c.loop-part.part-index 0 < length c.args.parts.now = c.requires c.loop-part.part-index c.loop-part-test.true in
    let read : c.index_mut.result.now ≡ get_or c.loop-part.sizes.items (get_or c.args.parts.now c.loop-part.part-index 0) 0 =
    get_or_read c.loop-part.sizes.items (get_or c.args.parts.now c.loop-part.part-index 0) c.index_mut.result.now (omega (arith, part, c.loop-part.invariant.0)) c.index_mut.ensures.value 0 in
    counted_more c.args.parts.now c.loop-part.sizes.items c.loop-part.part-index (get_or c.args.parts.now c.loop-part.part-index 0) c.index_mut.result.now c.loop-part-test.true refl part read c.loop-part.invariant.0 c.loop-part.invariant.1
