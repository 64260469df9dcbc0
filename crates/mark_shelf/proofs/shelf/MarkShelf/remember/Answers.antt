use Rattle.mark_shelf.proofs.JointLemmas.{Remembers-alone}
use Rattle.mark_shelf.proofs.shelf.MarkShelf.remember.Goals as goal

pub returns : goal.returns
returns c = Remembers-alone c.args.self.now c.remember_behind.new.self c.args.chunk c.remember_behind.ensures.remembers
