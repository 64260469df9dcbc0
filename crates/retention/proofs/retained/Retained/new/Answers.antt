use Rattle.std.proofs.Common.{◌∙◌, length, ap, arith, replicate}
use Rattle.std.proofs.lemmas.List.{length-replicate}
use Rattle.retention.specs.Graph.{size}
use Rattle.retention.proofs.RetainingLemmas.{counted_start, counted_place, counted_few}
use Rattle.retention.proofs.retained.Retained.new.Goals as goal

pub loop-place-init : goal.loop-place-init
loop-place-init c =
    let zeros = c.in_ok-missing.ensures ∙ ap (λ n. replicate n 0) c.len.ensures in
    counted_start c.args.graph.now c.in_ok-missing.missing.items zeros (ap length zeros ∙ length-replicate (size c.args.graph.now) 0)

pub count_place-requires : goal.count_place-requires
count_place-requires c = record {
  long = c.loop-place.invariant.long;
  there = omega (arith, c.loop-place-test.true, c.places-places.ensures);
  few = omega (arith, c.places-places.ensures);
  counted = counted_few c.args.graph.now c.loop-place.place c.loop-place.missing.items c.loop-place.invariant;
}

pub loop-place-preserved : goal.loop-place-preserved
loop-place-preserved c =
    counted_place c.args.graph.now c.loop-place.place c.loop-place.missing.items c.count_place.new.missing.items c.loop-place.invariant c.count_place.ensures
