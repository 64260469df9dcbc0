use Rattle.mark_shelf.specs.Shelf.{name_of}
use Rattle.run_engine.proofs.MemoLemmas.{IsAmong-found, IsSearched-found}
use Rattle.run_engine.proofs.replay.prefix.found.Goals as goal

pub returns-clause-there : goal.returns-clause-there
returns-clause-there c =
    IsAmong-found c.args.shelf.now.chunks c.in-Some.found.chunk c.args.heap.now c.args.ops.now c.in-Some.ensures.start c.in-Some.ensures.ops
    (c.finds_what_was_there.ensures.there c.args.shelf.now (name_of c.args.ops.now) c.in-Some.found.chunk c.in-Some.ensures.named)

pub returns-in_default-clause-searched : goal.returns-in_default-clause-searched
returns-in_default-clause-searched c = IsSearched-found c.args.shelf.now (name_of c.args.ops.now) (c.finds_what_was_there.ensures.fewer c.args.shelf.now (name_of c.args.ops.now)) _ _ c.find_behind.ensures.shelf

pub returns-in_err-piece-clause-searched : goal.returns-in_err-piece-clause-searched
returns-in_err-piece-clause-searched c = IsSearched-found c.args.shelf.now (name_of c.args.ops.now) (c.finds_what_was_there.ensures.fewer c.args.shelf.now (name_of c.args.ops.now)) _ _ c.find_behind.ensures.shelf

pub returns-clause-searched : goal.returns-clause-searched
returns-clause-searched c = IsSearched-found c.args.shelf.now (name_of c.args.ops.now) (c.finds_what_was_there.ensures.fewer c.args.shelf.now (name_of c.args.ops.now)) _ _ c.find_behind.ensures.shelf

pub returns-clause-next : goal.returns-clause-next
returns-clause-next c = record {
  start_is = tt;
  end_is = tt;
  kept = rw c.in_ok-piece.ensures.end c.in-Some.ensures.ends;
}
