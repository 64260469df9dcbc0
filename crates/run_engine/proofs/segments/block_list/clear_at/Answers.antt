use Rattle.std.proofs.Common.{◌∙◌, ap, set, length}
use Rattle.run_engine.specs.inner.Parts.{joined}
use Rattle.run_engine.specs.Segments.{trace_of}
use Rattle.run_engine.proofs.SegmentLemmas.{trace_of-without_mark}
use Rattle.run_engine.proofs.PositionLemmas.{traces-set}
use Rattle.run_engine.proofs.BlocksLemmas.{inside-block, joined-without, starts-set, length-without}
use Rattle.run_engine.proofs.segments.block_list.clear_at.Goals as goal

pub returns-clause-segments : goal.returns-clause-segments
returns-clause-segments c =
    let lt = rw c.deref.ensures.value at c.find-i.ensures.within in
    let place = rw c.deref.ensures.value at c.find-i.ensures.place in
    let inside = rw c.deref.ensures.value at c.find-i.ensures.inside in
    ap (λ new. joined (set c.args.blocks.now.items c.find-i.result.0 new)) c.clear_mark.ensures.kept
    ∙ joined-without c.args.blocks.now.items c.find-i.result.0 c.find-i.result.1 c.args.index c.index_mut.result.now lt c.index_mut.ensures.value place
    (inside-block c.args.blocks.now.items c.find-i.result.0 c.find-i.result.1 c.args.index c.index_mut.result.now lt c.index_mut.ensures.value place inside)

pub returns-clause-starts : goal.returns-clause-starts
returns-clause-starts c =
    let lt = rw c.deref.ensures.value at c.find-i.ensures.within in
    starts-set 0 c.args.blocks.now.items c.find-i.result.0 c.index_mut.result.now c.clear_mark.new.self lt c.index_mut.ensures.value
    (ap length c.clear_mark.ensures.kept ∙ length-without c.index_mut.result.now c.find-i.result.1)

pub returns-clause-traces : goal.returns-clause-traces
returns-clause-traces c =
    let lt = rw c.deref.ensures.value at c.find-i.ensures.within in
    traces-set c.args.blocks.now.items c.find-i.result.0 c.index_mut.result.now c.clear_mark.new.self lt c.index_mut.ensures.value
    (ap trace_of c.clear_mark.ensures.kept ∙ trace_of-without_mark c.index_mut.result.now c.find-i.result.1)
