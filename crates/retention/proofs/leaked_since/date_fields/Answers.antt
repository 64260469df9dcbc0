use Rattle.std.proofs.Common.{◌+◌, ◌<◌, ◌≤◌, ◌∙◌, arith}
use Rattle.retention.specs.Graph.{start_at}
use Rattle.retention.proofs.DatingLemmas.{fields_start, fields_place, fields_end}
use Rattle.retention.proofs.leaked_since.date_fields.Goals as goal

pub loop-place-init : goal.loop-place-init
loop-place-init c =
    fields_start c.args.graph.now c.args.leaked.now c.args.source c.args.id c.args.since.now.items c.args.todo.now.items c.fields-fields.result.start c.fields-fields.ensures.start

pub date_place-requires : goal.date_place-requires
date_place-requires c = record {
  marks = c.requires.marks;
  long = c.loop-place.invariant.long ∙ c.requires.long;
  there = omega (arith, c.loop-place-test.true, c.fields-fields.ensures.within);
}

pub loop-place-preserved : goal.loop-place-preserved
loop-place-preserved c =
    let first : start_at c.args.graph.now c.args.source ≤ c.loop-place.place = omega (arith, c.loop-place.auto.place, c.fields-fields.ensures.start) in
    let last : c.loop-place.place < start_at c.args.graph.now (c.args.source + 1) = omega (arith, c.loop-place-test.true, c.fields-fields.ensures.end) in
    fields_place c.args.graph.now c.args.leaked.now c.args.source c.args.id c.args.since.now.items c.loop-place.since.items c.date_place.new.since.items
    c.args.todo.now.items c.loop-place.todo.items c.date_place.new.todo.items c.loop-place.place c.loop-place.invariant (first, last) c.in_ok-date_place.ensures

pub returns : goal.returns
returns c =
    fields_end c.args.graph.now c.args.leaked.now c.args.source c.args.id c.args.since.now.items c.loop-place.since.items c.args.todo.now.items c.loop-place.todo.items
    c.loop-place.place (start_at c.args.graph.now (c.args.source + 1))
    (omega (arith, c.loop-place-test.false, c.loop-place.auto.place-end, c.fields-fields.ensures.end, c.fields-fields.ensures.rising)) c.loop-place.invariant
