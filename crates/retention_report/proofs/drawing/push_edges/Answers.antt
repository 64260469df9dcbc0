use Rattle.std.proofs.Common.{◌≡◌, ◌<◌, ◌++◌, ap, ◌∙◌, arith, string_bytes}
use Rattle.std.specs.Prelude.{flat_map, filter}
use Rattle.trace_types.specs.declared.slots.Slot.TheVariants.{Nothing}
use Rattle.retention_model.specs.declared.place.Place.TheVariants.{Cell}
use Rattle.retention.specs.Graph.{places}
use Rattle.retention_report.specs.Drawn.{edge_of, is_drawn}
use Rattle.retention_report.proofs.DrawLemmas.{lines_more, take_end}
use Rattle.retention_report.proofs.drawing.push_edges.Goals as goal

pub loop-place-preserved : goal.loop-place-preserved
loop-place-preserved c =
    lines_more (edge_of c.args.end.now) (is_drawn c.args.end.now.graph.objects.items c.args.shown.now) c.args.end.now.graph.held.items c.loop-place.place (record { place = Cell 0; slot = Nothing; since = 0 }) c.held.result
    (string_bytes c.args.text.now) (string_bytes c.loop-place.text) (string_bytes c.push_if_drawn.new.text)
    (let inside : c.loop-place.place < places c.args.end.now.graph = omega (arith, c.loop-place-test.true, c.places-place-end.ensures) in inside) c.held.ensures c.loop-place.invariant c.in_ok-push_if_drawn.ensures

pub returns : goal.returns
returns c =
    c.loop-place.invariant ∙ ap (λ xs. string_bytes c.args.text.now ++ flat_map (edge_of c.args.end.now) (filter (is_drawn c.args.end.now.graph.objects.items c.args.shown.now) xs))
    (take_end c.args.end.now.graph.held.items c.loop-place.place (let end : c.loop-place.place ≡ places c.args.end.now.graph = omega (arith, c.loop-place-test.false, c.loop-place.auto.place-end, c.places-place-end.ensures) in end))
