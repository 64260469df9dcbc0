use Rattle.std.proofs.Common.{◌≡◌, ◌∙◌, ◌++◌, ◌∷◌, [], None, ap, sym, subst}
use Rattle.run_engine.specs.declared.replay.fresh.FreshChunk.{FreshChunk}
use Rattle.run_engine.specs.inner.FreshChunks.{end_after, AreLinked}
use Rattle.run_engine.proofs.FreshLemmas.{AreLinked-push, end_after-push}
use Rattle.run_engine.proofs.replay.fresh.Fresh.push.Goals as goal

pub invariant_of-self-2 : goal.invariant_of-self-2
invariant_of-self-2 c =
    let f : FreshChunk = record { chunk = c.args.chunk; follows = c.args.follows } in
    let items : c.push_back.new.self.items ≡ c.self.inside.chunks.items ++ f ∷ [] = c.in_ok-push_back.ensures.items in
    subst (AreLinked None) (sym items) (AreLinked-push None c.self.inside.chunks.items f c.self.invariant (rw (← c.self.view_is) at c.requires))

pub returns : goal.returns
returns c =
    let f : FreshChunk = record { chunk = c.args.chunk; follows = c.args.follows } in
    let items : c.push_back.new.self.items ≡ c.self.inside.chunks.items ++ f ∷ [] = c.in_ok-push_back.ensures.items in
    ap (end_after None) items ∙ end_after-push None c.self.inside.chunks.items f
