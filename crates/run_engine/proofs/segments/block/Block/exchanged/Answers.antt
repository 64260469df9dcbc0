use Rattle.std.proofs.Common.{◌∙◌, sym, subst, ap, map, List}
use Rattle.std.specs.Arc.{arc_value}
use Rattle.std.specs.Option.{option_map}
use Rattle.run_engine.specs.SegmentView.{SegmentView}
use Rattle.run_engine.specs.inner.Exchanged.{exchanged, AreExchangeable}
use Rattle.run_engine.specs.inner.Blocks.{laid_over, standing}
use Rattle.std.specs.Prelude.{Some}
use Rattle.run_engine.proofs.MeasureLemmas.{measured-as, standing-trace}
use Rattle.run_engine.proofs.BlockLemmas.{laid-both, sound-both}
use Rattle.run_engine.proofs.segments.block.Block.exchanged.Goals as goal

pub invariant_of-result : goal.invariant_of-result
invariant_of-result c =
    let x = option_map arc_value c.self.inside.laid in
    let ss : List SegmentView = standing c.self.inside.given_up c.self.inside.from c.self.inside.len (arc_value c.self.inside.segments).items in
    let can : AreExchangeable c.args.remains.now (map (laid_over x) ss) = subst (AreExchangeable c.args.remains.now) (sym c.self.view_is) c.requires in
    rw (c.in_ok-segments.ensures, c.share-given_up.ensures) (
      c.self.invariant.0,
      c.self.invariant.1,
      sound-both x c.args.remains.now (arc_value c.in_ok-laid.laid) ss c.in_ok-laid.ensures can,
      measured-as (map (laid_over x) ss) _ c.self.inside.ops c.self.inside.bounds.least c.self.inside.bounds.greatest
          (standing-trace x (Some (arc_value c.in_ok-laid.laid)) c.self.inside.given_up c.self.inside.given_up c.self.inside.from c.self.inside.len (arc_value c.self.inside.segments).items) c.self.invariant.3,
    )

pub returns : goal.returns
returns c =
    let x = option_map arc_value c.self.inside.laid in
    let ss : List SegmentView = standing c.self.inside.given_up c.self.inside.from c.self.inside.len (arc_value c.self.inside.segments).items in
    let can : AreExchangeable c.args.remains.now (map (laid_over x) ss) = subst (AreExchangeable c.args.remains.now) (sym c.self.view_is) c.requires in
    rw (c.in_ok-segments.ensures, c.share-given_up.ensures) (laid-both x c.args.remains.now (arc_value c.in_ok-laid.laid) ss c.in_ok-laid.ensures can ∙ ap (map (exchanged c.args.remains.now)) c.self.view_is)
