use Rattle.std.proofs.Common.{◌≡◌, ◌<◌, ◌+◌, ◌∙◌, List, ap, map, length, take, subst, arith, refl}
use Rattle.run_engine.specs.SegmentView.{SegmentView}
use Rattle.run_engine.specs.inner.Parts.{joined, IsPartAt}
use Rattle.run_engine.specs.Segments.{trace_of, IsLastFrom}
use Rattle.run_engine.proofs.StartLemmas.{starts-long, start-there}
use Rattle.run_engine.proofs.PositionLemmas.{block-there, block-before, position-is, start-of, last-joined}
use Rattle.run_engine.proofs.segments.blocks.Segments.last_from.Goals as goal

pub index-at-requires : goal.index-at-requires
index-at-requires c =
    let blocks : List (List SegmentView) = c.self.inside.blocks.items in
    let positions = c.self.inside.positions in
    let part : IsPartAt (map trace_of c.self.inside.blocks.items) c.args.position c.in-Some.i = c.in-Some.ensures.part (map trace_of blocks) (c.deref.ensures.value ∙ c.self.invariant.3) in
    let lt = start-there (map trace_of blocks) positions.items c.args.position c.in-Some.i c.self.invariant.3 part in
    omega (arith, positions.ok.0)

pub overflow_sub-position : goal.overflow_sub-position
overflow_sub-position c =
    let blocks : List (List SegmentView) = c.self.inside.blocks.items in
    let positions = c.self.inside.positions in
    let part : IsPartAt (map trace_of c.self.inside.blocks.items) c.args.position c.in-Some.i = c.in-Some.ensures.part (map trace_of blocks) (c.deref.ensures.value ∙ c.self.invariant.3) in
    let lt : c.in-Some.i < length c.self.inside.blocks.items = block-there blocks c.args.position c.in-Some.i part in
    let at : c.index-at.result.now ≡ length (trace_of (joined (take c.in-Some.i c.self.inside.blocks.items))) = c.index-at.ensures ∙ position-is blocks positions.items c.in-Some.i c.index-at.result.now c.self.invariant.3 lt in
    omega (arith, at, block-before blocks c.args.position c.in-Some.i part)

pub index-requires-in-Some : goal.index-requires-in-Some
index-requires-in-Some c =
    let blocks : List (List SegmentView) = c.self.inside.blocks.items in
    let positions = c.self.inside.positions in
    let part : IsPartAt (map trace_of c.self.inside.blocks.items) c.args.position c.in-Some.i = c.in-Some.ensures.part (map trace_of blocks) (c.deref.ensures.value ∙ c.self.invariant.3) in
    let lt : c.in-Some.i < length c.self.inside.blocks.items = block-there blocks c.args.position c.in-Some.i part in
    let at : c.index-at.result.now ≡ length (trace_of (joined (take c.in-Some.i c.self.inside.blocks.items))) = c.index-at.ensures ∙ position-is blocks positions.items c.in-Some.i c.index-at.result.now c.self.invariant.3 lt in
    let starts = c.self.inside.starts in
    omega (arith, lt, ap length c.self.invariant.0 ∙ starts-long 0 c.self.inside.blocks.items, starts.ok.0)

pub overflow_add-result : goal.overflow_add-result
overflow_add-result c =
    let blocks : List (List SegmentView) = c.self.inside.blocks.items in
    let positions = c.self.inside.positions in
    let part : IsPartAt (map trace_of c.self.inside.blocks.items) c.args.position c.in-Some.i = c.in-Some.ensures.part (map trace_of blocks) (c.deref.ensures.value ∙ c.self.invariant.3) in
    let lt : c.in-Some.i < length c.self.inside.blocks.items = block-there blocks c.args.position c.in-Some.i part in
    let at : c.index-at.result.now ≡ length (trace_of (joined (take c.in-Some.i c.self.inside.blocks.items))) = c.index-at.ensures ∙ position-is blocks positions.items c.in-Some.i c.index-at.result.now c.self.invariant.3 lt in
    let start : c.index-in-Some.result.now ≡ length (joined (take c.in-Some.i c.self.inside.blocks.items)) = c.index-in-Some.ensures ∙ start-of blocks c.self.inside.starts.items c.in-Some.i c.index-in-Some.result.now c.self.invariant.0 lt in
    let last : IsLastFrom (joined c.self.inside.blocks.items) c.args.position (c.index-in-Some.result.now + c.last_from-more.result.0) (c.index-at.result.now + c.last_from-more.result.1) =
    last-joined blocks c.args.position c.in-Some.i part c.index.result.now c.index-in-Some.result.now c.index-at.result.now c.last_from-more.result.0 c.last_from-more.result.1 _ _ c.index.ensures start at refl refl c.last_from-more.ensures in
    let within = last.within in
    omega (arith, c.self.invariant.1, c.self.invariant.2)

pub returns-in-Some-clause-last : goal.returns-in-Some-clause-last
returns-in-Some-clause-last c =
    let blocks : List (List SegmentView) = c.self.inside.blocks.items in
    let positions = c.self.inside.positions in
    let part : IsPartAt (map trace_of c.self.inside.blocks.items) c.args.position c.in-Some.i = c.in-Some.ensures.part (map trace_of blocks) (c.deref.ensures.value ∙ c.self.invariant.3) in
    let lt : c.in-Some.i < length c.self.inside.blocks.items = block-there blocks c.args.position c.in-Some.i part in
    let at : c.index-at.result.now ≡ length (trace_of (joined (take c.in-Some.i c.self.inside.blocks.items))) = c.index-at.ensures ∙ position-is blocks positions.items c.in-Some.i c.index-at.result.now c.self.invariant.3 lt in
    let start : c.index-in-Some.result.now ≡ length (joined (take c.in-Some.i c.self.inside.blocks.items)) = c.index-in-Some.ensures ∙ start-of blocks c.self.inside.starts.items c.in-Some.i c.index-in-Some.result.now c.self.invariant.0 lt in
    let last : IsLastFrom (joined c.self.inside.blocks.items) c.args.position (c.index-in-Some.result.now + c.last_from-more.result.0) (c.index-at.result.now + c.last_from-more.result.1) =
    last-joined blocks c.args.position c.in-Some.i part c.index.result.now c.index-in-Some.result.now c.index-at.result.now c.last_from-more.result.0 c.last_from-more.result.1 _ _ c.index.ensures start at refl refl c.last_from-more.ensures in
    subst (λ ss. IsLastFrom ss c.args.position (c.index-in-Some.result.now + c.last_from-more.result.0) (c.index-at.result.now + c.last_from-more.result.1)) c.self.view_is last

pub returns-in-Some-clause-few : goal.returns-in-Some-clause-few
returns-in-Some-clause-few c =
    let blocks : List (List SegmentView) = c.self.inside.blocks.items in
    let positions = c.self.inside.positions in
    let part : IsPartAt (map trace_of c.self.inside.blocks.items) c.args.position c.in-Some.i = c.in-Some.ensures.part (map trace_of blocks) (c.deref.ensures.value ∙ c.self.invariant.3) in
    let lt : c.in-Some.i < length c.self.inside.blocks.items = block-there blocks c.args.position c.in-Some.i part in
    let at : c.index-at.result.now ≡ length (trace_of (joined (take c.in-Some.i c.self.inside.blocks.items))) = c.index-at.ensures ∙ position-is blocks positions.items c.in-Some.i c.index-at.result.now c.self.invariant.3 lt in
    let start : c.index-in-Some.result.now ≡ length (joined (take c.in-Some.i c.self.inside.blocks.items)) = c.index-in-Some.ensures ∙ start-of blocks c.self.inside.starts.items c.in-Some.i c.index-in-Some.result.now c.self.invariant.0 lt in
    let last : IsLastFrom (joined c.self.inside.blocks.items) c.args.position (c.index-in-Some.result.now + c.last_from-more.result.0) (c.index-at.result.now + c.last_from-more.result.1) =
    last-joined blocks c.args.position c.in-Some.i part c.index.result.now c.index-in-Some.result.now c.index-at.result.now c.last_from-more.result.0 c.last_from-more.result.1 _ _ c.index.ensures start at refl refl c.last_from-more.ensures in
    let within = last.within in
    omega (arith, c.self.invariant.1, c.self.invariant.2)
