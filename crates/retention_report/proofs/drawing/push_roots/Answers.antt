use Rattle.std.proofs.Common.{◌≡◌, ◌<◌, ◌+◌, ◌++◌, take, append-nil, refl, sym, ap, ◌∙◌, subst, arith, string_bytes}
use Rattle.trace_types.specs.declared.slots.Slot.TheVariants.{Nothing}
use Rattle.retention_model.specs.declared.place.Place.TheVariants.{Cell}
use Rattle.retention.specs.Graph.{places}
use Rattle.retention_report.specs.Drawn.{roots_in}
use Rattle.retention_report.proofs.DrawLemmas.{IsLastOf, lines_of, roots_more, take_end}
use Rattle.retention_report.proofs.drawing.push_roots.Goals as goal

pub loop-place-init : goal.loop-place-init
loop-place-init c = (record { each = λ q. refl }, sym (append-nil (string_bytes c.args.text.now)))

pub loop-place-preserved : goal.loop-place-preserved
loop-place-preserved c =
    subst (λ l. IsLastOf l (roots_in c.args.graph.now.objects.items c.args.shown.now (take (c.loop-place.place + 1) c.args.graph.now.held.items))
    × (string_bytes c.push_other_root.new.text ≡ string_bytes c.args.text.now ++ lines_of (roots_in c.args.graph.now.objects.items c.args.shown.now (take (c.loop-place.place + 1) c.args.graph.now.held.items)))) (sym c.later-last.ensures)
    (roots_more c.args.graph.now.objects.items c.args.shown.now c.args.graph.now.held.items c.loop-place.place (record { place = Cell 0; slot = Nothing; since = 0 }) c.held.result c.loop-place.last c.drawn_root-root.result
    (string_bytes c.args.text.now) (string_bytes c.loop-place.text) (string_bytes c.push_other_root.new.text)
    (let inside : c.loop-place.place < places c.args.graph.now = omega (arith, c.loop-place-test.true, c.places-place-end.ensures) in inside) c.held.ensures c.drawn_root-root.ensures c.loop-place.invariant.0 c.loop-place.invariant.1 c.in_ok-push_other_root.ensures)

pub returns : goal.returns
returns c =
    c.loop-place.invariant.1 ∙ ap (λ xs. string_bytes c.args.text.now ++ lines_of (roots_in c.args.graph.now.objects.items c.args.shown.now xs))
    (take_end c.args.graph.now.held.items c.loop-place.place (let end : c.loop-place.place ≡ places c.args.graph.now = omega (arith, c.loop-place-test.false, c.loop-place.auto.place-end, c.places-place-end.ensures) in end))
