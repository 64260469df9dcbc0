use Rattle.std.proofs.Common.{◌∙◌, ap}
use Rattle.retention_model.specs.declared.mark.Mark.TheVariants.{Ended}
use Rattle.retention_model.specs.Turns.{marked}
use Rattle.retention.proofs.moves.ended_by.Goals as goal

pub returns : goal.returns
returns c = c.marked_by.ensures ∙ ap (marked c.args.position c.args.heap.now (Ended c.args.event)) c.object_of.ensures
