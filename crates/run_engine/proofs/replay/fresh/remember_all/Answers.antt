use Rattle.run_engine.proofs.MemoLemmas.{HasSameMarks-next}
use Rattle.run_engine.proofs.replay.fresh.remember_all.Goals as goal

pub returns : goal.returns
returns c = HasSameMarks-next c.args.shelf.now c.remember_last.new.shelf c.remember_last-2.new.shelf c.remember_last.ensures c.remember_last-2.ensures
