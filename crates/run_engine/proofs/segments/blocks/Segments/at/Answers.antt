use Rattle.std.proofs.Common.{◌∙◌, ap, get_or}
use Rattle.run_engine.proofs.BlocksLemmas.{joined-at}
use Rattle.run_engine.proofs.segments.blocks.Segments.at.Goals as goal

pub returns : goal.returns
returns c =
    let lt = rw c.deref.ensures.value at c.find-i.ensures.within in
    let place = rw c.deref.ensures.value at c.find-i.ensures.place in
    let inside = rw c.deref.ensures.value at c.find-i.ensures.inside in
    c.at.ensures ∙ joined-at c.self.inside.blocks.items c.find-i.result.0 c.find-i.result.1 c.args.index c.index.result.now lt c.index.ensures place inside c.at.result
    ∙ ap (λ all. get_or all c.args.index c.at.result) c.self.view_is
