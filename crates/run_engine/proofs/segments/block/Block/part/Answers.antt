use Rattle.std.proofs.Common.{◌-◌, ◌∙◌, sym, subst, ap, map, take, drop, arith, List, length}
use Rattle.std.specs.Arc.{arc_value}
use Rattle.std.specs.Option.{option_map}
use Rattle.run_engine.specs.SegmentView.{SegmentView}
use Rattle.run_engine.specs.inner.Blocks.{laid_over, AreSoundBelow, standing}
use Rattle.std.specs.Prelude.{slice_range}
use Rattle.run_engine.specs.Segments.{trace_of}
use Rattle.run_engine.proofs.MeasureLemmas.{measured-part}
use Rattle.run_engine.proofs.BlockLemmas.{length-laid, standing-part, sound-part, laid-part}
use Rattle.run_engine.proofs.segments.block.Block.part.Goals as goal

pub invariant_of-result : goal.invariant_of-result
invariant_of-result c =
    let x = option_map arc_value c.self.inside.laid in
    let items = (arc_value c.self.inside.segments).items in
    let ss : List SegmentView = standing c.self.inside.given_up c.self.inside.from c.self.inside.len items in
    let long = length-laid x c.self.inside.given_up c.self.inside.from c.self.inside.len items c.args.self.now c.self.view_is c.self.invariant.0 in
    let some = standing-part c.self.inside.given_up c.self.inside.from c.self.inside.len c.args.from c.args.to items c.requires.order (omega (arith, c.requires.within)) in
    rw (c.in_ok-segments.ensures, c.share-given_up.ensures, c.in_ok-laid.ensures) (
      omega (arith, c.requires.order, c.requires.within, c.self.invariant.0),
      c.self.invariant.1,
      subst (AreSoundBelow x) (sym some) (sound-part x c.args.from (c.args.to - c.args.from) ss c.self.invariant.2),
      measured-part (map (laid_over x) ss) _ c.self.inside.ops c.ops_between.result c.self.inside.bounds.least c.self.inside.bounds.greatest c.args.from c.args.to (ap (map (laid_over x)) some ∙ laid-part x c.args.from (c.args.to - c.args.from) ss)
          (c.ops_between.ensures ∙ ap (λ v. length (trace_of (slice_range v c.args.from c.args.to))) (sym c.self.view_is)) c.self.invariant.3,
    )

pub returns : goal.returns
returns c =
    let x = option_map arc_value c.self.inside.laid in
    let items = (arc_value c.self.inside.segments).items in
    let ss : List SegmentView = standing c.self.inside.given_up c.self.inside.from c.self.inside.len items in
    let long = length-laid x c.self.inside.given_up c.self.inside.from c.self.inside.len items c.args.self.now c.self.view_is c.self.invariant.0 in
    let some = standing-part c.self.inside.given_up c.self.inside.from c.self.inside.len c.args.from c.args.to items c.requires.order (omega (arith, c.requires.within)) in
    rw (c.in_ok-segments.ensures, c.share-given_up.ensures, c.in_ok-laid.ensures)
    (ap (map (laid_over x)) some ∙ laid-part x c.args.from (c.args.to - c.args.from) ss ∙ ap (λ all. take (c.args.to - c.args.from) (drop c.args.from all)) c.self.view_is)
