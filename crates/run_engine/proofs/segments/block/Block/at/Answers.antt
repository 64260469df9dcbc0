use Rattle.std.proofs.Common.{◌+◌, ◌∙◌, arith, ap, get_or}
use Rattle.std.specs.Arc.{arc_value}
use Rattle.std.specs.Option.{option_map}
use Rattle.run_engine.proofs.BlockLemmas.{length-laid, stands-sound, stands-laid}
use Rattle.run_engine.proofs.segments.block.Block.at.Goals as goal

pub new-requires : goal.new-requires
new-requires c =
    let x = option_map arc_value c.self.inside.laid in
    let items = (arc_value c.self.inside.segments).items in
    let long = length-laid x c.self.inside.given_up c.self.inside.from c.self.inside.len items c.args.self.now c.self.view_is c.self.invariant.0 in
    stands-sound x c.self.inside.given_up c.self.inside.from c.self.inside.len c.args.index items c.index.result.now c.has-is_given_up.result c.self.invariant.0 (omega (arith, c.requires)) (c.index.ensures ∙ ap (λ v. get_or v.items (c.self.inside.from + c.args.index) c.index.result.now) c.deref.ensures) c.has-is_given_up.ensures c.self.invariant.2

pub returns : goal.returns
returns c =
    let x = option_map arc_value c.self.inside.laid in
    let items = (arc_value c.self.inside.segments).items in
    let long = length-laid x c.self.inside.given_up c.self.inside.from c.self.inside.len items c.args.self.now c.self.view_is c.self.invariant.0 in
    c.new.ensures
    ∙ stands-laid x c.self.inside.given_up c.self.inside.from c.self.inside.len c.args.index items c.index.result.now c.has-is_given_up.result c.self.invariant.0 (omega (arith, c.requires)) (c.index.ensures ∙ ap (λ v. get_or v.items (c.self.inside.from + c.args.index) c.index.result.now) c.deref.ensures) c.has-is_given_up.ensures c.args.self.now c.new.result c.self.view_is
