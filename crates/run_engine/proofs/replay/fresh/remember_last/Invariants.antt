use Rattle.std.proofs.Common.{length, Option}
use Rattle.ownership_model.specs.State.{State}
use Rattle.run_engine.specs.inner.FreshChunks.{AreLinked}
use Rattle.run_engine.specs.Memo.{HasSameMarks}
use Rattle.run_engine.proofs.FreshLemmas.{AreBehind}
use Rattle.run_engine.proofs.replay.fresh.remember_last.Given as goal

abbrev pub invariant-loop-chunks : goal.invariant-loop-chunks
invariant-loop-chunks l = (before : Option State) × AreLinked before l.chunks.items

abbrev pub decreases-loop-chunks : goal.decreases-loop-chunks
decreases-loop-chunks l = length l.chunks.items

abbrev pub invariant-loop-fresh : goal.invariant-loop-fresh
invariant-loop-fresh l = record {
  marks : HasSameMarks l.fn.shelf l.shelf;
  behind : AreBehind l.shelf.chunks l.last l.chunks.items;
}

abbrev pub decreases-loop-fresh : goal.decreases-loop-fresh
decreases-loop-fresh l = length l.chunks.items
