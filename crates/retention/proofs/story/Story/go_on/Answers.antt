use Rattle.std.proofs.Common.{sym, subst, List}
use Rattle.retention_model.specs.declared.mark.Moved.{Moved}
use Rattle.retention.specs.Stories.{MovesTo}
use Rattle.retention.proofs.StoryLemmas.{goes}
use Rattle.retention.proofs.story.Story.go_on.Goals as goal

pub returns : goal.returns
returns c =
    let done = c.in_ok-outcome.ensures in
    let s = c.args.self.now in
    let u = c.carry_out.new.self in
    goes c.args.op.now c.id.result c.args.position c.args.with_marks c.in_ok-outcome.outcome c.as_slice.result.now s u c.note.new.self c.id.ensures.value done.outcome
    (subst (λ (xs : List Moved). MovesTo c.args.op.now s.end s.dates u.end u.dates xs) (sym c.as_slice.ensures.value) done.moves)
    done.made done.events done.losses done.marked c.in_ok-note.ensures
