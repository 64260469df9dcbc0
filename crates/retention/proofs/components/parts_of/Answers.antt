use Rattle.std.proofs.Common.{◌≡◌, ◌<◌, ◌≤◌, ◌+◌, ◌-◌, length, get_or, sym, ◌∙◌, subst, arith, false}
use Rattle.std.proofs.lemmas.List.{get_or_read}
use Rattle.retention.specs.Graph.{size}
use Rattle.retention.specs.Paths.{Points, marked, ArePartsFrom}
use Rattle.retention.proofs.GraphPaths.{points_bounded}
use Rattle.retention.proofs.PartSteps.{parts_more}
use Rattle.retention.proofs.CyclicLemmas.{parts_end}
use Rattle.retention.proofs.components.parts_of.Goals as goal

pub loop-left-preserved-in-Continue-branch-4 : goal.loop-left-preserved-in-Continue-branch-4
loop-left-preserved-in-Continue-branch-4 c =
    let left : c.loop-left.left ≡ c.loop-left.left - 1 + 1 = omega (arith, c.loop-left-test.true) in
    let inside : c.loop-left.left - 1 < length c.in_ok-order.order.items = omega (arith, c.loop-left-test.true, c.loop-left.invariant.within) in
    let here : get_or c.in_ok-order.order.items (c.loop-left.left - 1) 0 ≡ c.index-last.result.now = sym (get_or_read c.in_ok-order.order.items (c.loop-left.left - 1) c.index-last.result.now inside c.index-last.ensures 0) in
    let within : c.index-last.result.now < size c.args.graph.now = subst (λ x. x < size c.args.graph.now) here (c.in_ok-order.ensures.within (c.loop-left.left - 1) inside) in
    let long : length c.loop-left.marks.items ≡ size c.args.graph.now = c.loop-left.invariant.parts.marks_long in
    let read : c.index.result.now ≡ marked c.loop-left.marks.items c.index-last.result.now = get_or_read c.loop-left.marks.items c.index-last.result.now c.index.result.now (omega (arith, within, long)) c.index.ensures false in
    let it = c.in_ok-mark_component.ensures in
    record {
      parts = parts_more (Points c.args.graph.now) (size c.args.graph.now) (points_bounded c.args.graph.now) c.in_ok-order.order.items c.in_ok-order.ensures (c.loop-left.left - 1) c.loop-left.marks.items c.loop-left.parts.items
          (subst (λ k. ArePartsFrom (Points c.args.graph.now) (size c.args.graph.now) c.in_ok-order.order.items k c.loop-left.marks.items c.loop-left.parts.items) left c.loop-left.invariant.parts) inside
          c.index-last.result.now here (sym read ∙ c.if-not-index.true) it.0 c.mark_component.new.marks.items it.1 c.mark_component.new.parts.items it.2;
      within = omega (arith, inside);
    }

pub returns : goal.returns
returns c =
    parts_end c.args.graph.now c.in_ok-order.order.items c.in_ok-order.ensures c.loop-left.marks.items c.loop-left.parts.items
    (subst (λ k. ArePartsFrom (Points c.args.graph.now) (size c.args.graph.now) c.in_ok-order.order.items k c.loop-left.marks.items c.loop-left.parts.items)
    (let low : c.loop-left.left ≤ 0 = c.loop-left-test.false in omega (arith, low)) c.loop-left.invariant.parts)
