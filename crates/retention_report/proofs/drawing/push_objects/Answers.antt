use Rattle.std.proofs.Common.{◌≡◌, ◌<◌, ◌++◌, refl, ap, ◌∙◌, arith, string_bytes}
use Rattle.std.specs.Prelude.{flat_map, filter}
use Rattle.retention.specs.Graph.{size, object_at}
use Rattle.retention_report.specs.Drawn.{object_of, is_marked_in}
use Rattle.retention_report.proofs.DrawLemmas.{lines_more, take_end}
use Rattle.retention_report.proofs.drawing.push_objects.Goals as goal

pub loop-index-preserved : goal.loop-index-preserved
loop-index-preserved c =
    lines_more (object_of c.args.end.now c.args.heap.now c.args.given.now) (is_marked_in c.args.end.now.graph.objects.items c.args.shown.now) c.args.end.now.graph.objects.items c.loop-index.index 0 (object_at c.args.end.now.graph c.loop-index.index)
    (string_bytes c.args.text.now) (string_bytes c.loop-index.text) (string_bytes c.push_if_shown.new.text)
    (let inside : c.loop-index.index < size c.args.end.now.graph = omega (arith, c.loop-index-test.true, c.len-index-end.ensures) in inside) refl c.loop-index.invariant c.in_ok-push_if_shown.ensures

pub returns : goal.returns
returns c =
    c.loop-index.invariant ∙ ap (λ xs. string_bytes c.args.text.now ++ flat_map (object_of c.args.end.now c.args.heap.now c.args.given.now) (filter (is_marked_in c.args.end.now.graph.objects.items c.args.shown.now) xs))
    (take_end c.args.end.now.graph.objects.items c.loop-index.index (let end : c.loop-index.index ≡ size c.args.end.now.graph = omega (arith, c.loop-index-test.false, c.loop-index.auto.index-end, c.len-index-end.ensures) in end))
