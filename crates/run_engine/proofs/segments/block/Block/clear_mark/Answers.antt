use Rattle.std.proofs.Common.{◌≡◌, ◌∙◌, sym, subst, arith, ap, map}
use Rattle.std.specs.Arc.{arc_value}
use Rattle.std.specs.Option.{option_map}
use Rattle.run_engine.specs.Segments.{without_mark}
use Rattle.run_engine.specs.inner.Blocks.{laid_over, AreSoundBelow, standing}
use Rattle.run_engine.proofs.MeasureLemmas.{measured-as, standing-trace}
use Rattle.run_engine.proofs.BlockLemmas.{length-laid, standing-without, sound-without, map-without}
use Rattle.run_engine.proofs.GiveUpLemmas.{has_mark-at}
use Rattle.run_engine.proofs.segments.block.Block.clear_mark.Goals as goal

pub invariant_of-self : goal.invariant_of-self
invariant_of-self c =
    let x = option_map arc_value c.self.inside.laid in
    let items = (arc_value c.self.inside.segments).items in
    let long = length-laid x c.self.inside.given_up c.self.inside.from c.self.inside.len items c.args.self.now c.self.view_is c.self.invariant.0 in
    let less : standing c.set.new.self c.self.inside.from c.self.inside.len items ≡ without_mark (standing c.self.inside.given_up c.self.inside.from c.self.inside.len items) c.args.index =
    ap (λ g. standing g c.self.inside.from c.self.inside.len items) c.set.ensures.set ∙ standing-without c.self.inside.given_up c.self.inside.from c.self.inside.len c.args.index items (omega (arith, c.requires, c.set.ensures.long, c.self.invariant.0, c.self.invariant.1)) in (
      c.self.invariant.0,
      c.self.invariant.1,
      subst (AreSoundBelow x) (sym less) (sound-without x c.args.index (standing c.self.inside.given_up c.self.inside.from c.self.inside.len items) c.self.invariant.2),
      measured-as (map (laid_over x) (standing c.self.inside.given_up c.self.inside.from c.self.inside.len items)) _ c.self.inside.ops c.self.inside.bounds.least c.self.inside.bounds.greatest
          (standing-trace x x c.self.inside.given_up c.set.new.self c.self.inside.from c.self.inside.len items) c.self.invariant.3,
    )

pub returns-clause-kept : goal.returns-clause-kept
returns-clause-kept c =
    let x = option_map arc_value c.self.inside.laid in
    let items = (arc_value c.self.inside.segments).items in
    let long = length-laid x c.self.inside.given_up c.self.inside.from c.self.inside.len items c.args.self.now c.self.view_is c.self.invariant.0 in
    let less : standing c.set.new.self c.self.inside.from c.self.inside.len items ≡ without_mark (standing c.self.inside.given_up c.self.inside.from c.self.inside.len items) c.args.index =
    ap (λ g. standing g c.self.inside.from c.self.inside.len items) c.set.ensures.set ∙ standing-without c.self.inside.given_up c.self.inside.from c.self.inside.len c.args.index items (omega (arith, c.requires, c.set.ensures.long, c.self.invariant.0, c.self.invariant.1)) in
    ap (map (laid_over x)) less ∙ map-without x (standing c.self.inside.given_up c.self.inside.from c.self.inside.len items) c.args.index ∙ ap (λ all. without_mark all c.args.index) c.self.view_is

pub returns-clause-answer : goal.returns-clause-answer
returns-clause-answer c = c.is_marked-was.ensures ∙ sym (has_mark-at c.args.self.now c.args.index c.at.result c.requires c.at.ensures)
