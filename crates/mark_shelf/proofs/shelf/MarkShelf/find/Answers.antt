use Rattle.mark_shelf.proofs.JointLemmas.{Notes-nowhere}
use Rattle.mark_shelf.specs.Shelf.{sought, name_of}
use Rattle.mark_shelf.proofs.shelf.MarkShelf.find.Goals as goal

pub returns-in_err-found-clause-shelf : goal.returns-in_err-found-clause-shelf
returns-in_err-found-clause-shelf c = Notes-nowhere (sought c.args.self.now (name_of c.args.ops.now)) c.find_behind.new.self _ c.find_behind.ensures.shelf

pub returns-clause-shelf : goal.returns-clause-shelf
returns-clause-shelf c = Notes-nowhere (sought c.args.self.now (name_of c.args.ops.now)) c.find_behind.new.self _ c.find_behind.ensures.shelf
