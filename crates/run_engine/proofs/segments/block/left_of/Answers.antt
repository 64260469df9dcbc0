use Rattle.std.proofs.Common.{◌∙◌, ◌≡◌, ◌++◌, ◌∷◌, [], ap, sym, arith, take, length, None}
use Rattle.std.proofs.lemmas.List.{take_more, take_all}
use Rattle.run_engine.specs.inner.Blocks.{standing}
use Rattle.run_engine.proofs.BlockLemmas.{length-standing, stands}
use Rattle.run_engine.proofs.segments.block.left_of.Goals as goal

pub loop-i-preserved : goal.loop-i-preserved
loop-i-preserved c =
    let ss = standing c.args.given_up.now c.args.from c.args.len c.args.segments.now in
    let long : length ss ≡ c.args.len = length-standing c.args.given_up.now c.args.from c.args.len c.args.segments.now c.requires.within in
    let s = c.in_ok-left_at.field-0 in
    c.in_ok-push.ensures.items ∙ ap (λ all. all ++ s ∷ []) c.loop-i.invariant
    ∙ ap (λ t. take c.loop-i.i ss ++ t ∷ []) (c.in_ok-left_at.ensures ∙ stands None c.args.given_up.now c.args.from c.args.len c.loop-i.i c.args.segments.now c.index-segments-place.result c.has.result c.requires.within c.loop-i-test.true c.index-segments-place.is c.has.ensures)
    ∙ sym (take_more ss c.loop-i.i _ (omega (arith, long, c.loop-i-test.true)))

pub returns : goal.returns
returns c =
    let ss = standing c.args.given_up.now c.args.from c.args.len c.args.segments.now in
    let long : length ss ≡ c.args.len = length-standing c.args.given_up.now c.args.from c.args.len c.args.segments.now c.requires.within in
    c.loop-i.invariant ∙ take_all c.loop-i.i ss (omega (arith, long, c.loop-i-test.false))
