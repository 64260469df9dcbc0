use Rattle.std.proofs.Common.{◌≡◌, ◌∷◌, subst}
use Rattle.ownership_model.specs.Step.{end_from}
use Rattle.run_engine.proofs.FreshLemmas.{AreBehind, AreBehind-next}
use Rattle.run_engine.proofs.MemoLemmas.{HasSameMarks-next}
use Rattle.run_engine.proofs.replay.fresh.remember_last.Goals as goal

pub loop-fresh-preserved : goal.loop-fresh-preserved
loop-fresh-preserved c =
    let items : c.loop-fresh.chunks.items ≡ c.in-Some.fresh ∷ c.pop_front-in-loop-fresh.new.self.items = c.in-Some.ensures.items in
    let behind = subst (AreBehind c.loop-fresh.shelf.chunks c.loop-fresh.last) items c.loop-fresh.invariant.behind in
    record {
      marks = HasSameMarks-next c.args.shelf.now c.loop-fresh.shelf c.remember_next-last.new.shelf c.loop-fresh.invariant.marks c.remember_next-last.ensures.marks;
      behind = AreBehind-next c.remember_next-last.new.shelf.chunks c.remember_next-last.result (end_from c.in-Some.fresh.chunk.start c.in-Some.fresh.chunk.ops) c.pop_front-in-loop-fresh.new.self.items behind.1 c.remember_next-last.ensures.ends;
    }
