use Rattle.std.proofs.Common.{◌≡◌, ◌<◌, ◌≤◌, ◌+◌, ◌∙◌, List, ap, sym, map, length, take, arith, refl}
use Rattle.std.proofs.lemmas.List.{length-map}
use Rattle.run_engine.specs.SegmentView.{SegmentView}
use Rattle.run_engine.specs.inner.Parts.{joined}
use Rattle.run_engine.specs.Segments.{trace_of}
use Rattle.run_engine.proofs.BlocksLemmas.{inside-block}
use Rattle.run_engine.proofs.PlaceLemmas.{place-within}
use Rattle.run_engine.proofs.StartLemmas.{starts-long}
use Rattle.run_engine.proofs.PositionLemmas.{position-is, position-there}
use Rattle.run_engine.proofs.segments.blocks.Segments.position.Goals as goal

pub index-requires : goal.index-requires
index-requires c =
    let blocks : List (List SegmentView) = c.self.inside.blocks.items in
    let lt : c.find-i.result.0 < length c.self.inside.blocks.items = rw c.deref.ensures.value at c.find-i.ensures.within in
    let positions = c.self.inside.positions in
    omega (arith, lt, ap length c.self.invariant.3 ∙ starts-long 0 (map trace_of blocks) ∙ length-map blocks trace_of, positions.ok.0)

pub overflow_add-result : goal.overflow_add-result
overflow_add-result c =
    let blocks : List (List SegmentView) = c.self.inside.blocks.items in
    let lt : c.find-i.result.0 < length c.self.inside.blocks.items = rw c.deref.ensures.value at c.find-i.ensures.within in
    let at : c.index.result.now ≡ length (trace_of (joined (take c.find-i.result.0 c.self.inside.blocks.items))) = c.index.ensures ∙ position-is blocks c.self.inside.positions.items c.find-i.result.0 c.index.result.now c.self.invariant.3 lt in
    let place = rw c.deref.ensures.value at c.find-i.ensures.place in
    let inside = rw c.deref.ensures.value at c.find-i.ensures.inside in
    let b : List SegmentView = c.index-2.result.now in
    let less : c.find-i.result.1 < length c.index-2.result.now = inside-block blocks c.find-i.result.0 c.find-i.result.1 c.args.index b lt c.index-2.ensures place inside in
    let there : length (trace_of (take c.args.index (joined c.self.inside.blocks.items))) ≡ c.index.result.now + c.ops_between.result =
    position-there blocks c.find-i.result.0 c.find-i.result.1 c.args.index b lt c.index-2.ensures place (omega (arith, less))
    ∙ sym (ap (λ n. n + c.ops_between.result) at ∙ ap (λ n. length (trace_of (joined (take c.find-i.result.0 blocks))) + n) c.ops_between.ensures) in
    let le : length (trace_of (take c.args.index (joined c.self.inside.blocks.items))) ≤ length (trace_of (joined c.self.inside.blocks.items)) = place-within (joined blocks) c.args.index _ refl in
    omega (arith, c.self.invariant.4, c.self.invariant.5)

pub returns : goal.returns
returns c =
    let blocks : List (List SegmentView) = c.self.inside.blocks.items in
    let lt : c.find-i.result.0 < length c.self.inside.blocks.items = rw c.deref.ensures.value at c.find-i.ensures.within in
    let at : c.index.result.now ≡ length (trace_of (joined (take c.find-i.result.0 c.self.inside.blocks.items))) = c.index.ensures ∙ position-is blocks c.self.inside.positions.items c.find-i.result.0 c.index.result.now c.self.invariant.3 lt in
    let place = rw c.deref.ensures.value at c.find-i.ensures.place in
    let inside = rw c.deref.ensures.value at c.find-i.ensures.inside in
    let b : List SegmentView = c.index-2.result.now in
    let less : c.find-i.result.1 < length c.index-2.result.now = inside-block blocks c.find-i.result.0 c.find-i.result.1 c.args.index b lt c.index-2.ensures place inside in
    let there : length (trace_of (take c.args.index (joined c.self.inside.blocks.items))) ≡ c.index.result.now + c.ops_between.result =
    position-there blocks c.find-i.result.0 c.find-i.result.1 c.args.index b lt c.index-2.ensures place (omega (arith, less))
    ∙ sym (ap (λ n. n + c.ops_between.result) at ∙ ap (λ n. length (trace_of (joined (take c.find-i.result.0 blocks))) + n) c.ops_between.ensures) in
    ap (λ ss. length (trace_of (take c.args.index ss))) (sym c.self.view_is) ∙ there
