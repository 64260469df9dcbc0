use Rattle.std.proofs.Common.{◌∙◌, ap, arith}
use Rattle.std.specs.Prelude.{filter}
use Rattle.std.proofs.lemmas.List.{take_all}
use Rattle.retention.proofs.NotedTold.{is_of_note, noted_more, noted_told}
use Rattle.retention.proofs.noted.objects_of_note.Goals as goal

pub push_noted-requires : goal.push_noted-requires
push_noted-requires c = record { ending = c.requires; there = omega (arith, c.loop-index-test.true, c.len-count.ensures) }

pub loop-index-preserved : goal.loop-index-preserved
loop-index-preserved c =
    noted_more c.args.end.now c.loop-index.index c.loop-index.noted.items c.push_noted.new.noted.items (omega (arith, c.loop-index-test.true, c.len-count.ensures)) c.loop-index.invariant c.in_ok-push_noted.ensures

pub returns : goal.returns
returns c = λ ops of. noted_told ops c.args.end.now of c.requires c.loop-index.noted.items
    (c.loop-index.invariant ∙ ap (λ os. filter (is_of_note c.args.end.now) os) (take_all c.loop-index.index c.args.end.now.graph.objects.items (omega (arith, c.loop-index-test.false, c.len-count.ensures))))
