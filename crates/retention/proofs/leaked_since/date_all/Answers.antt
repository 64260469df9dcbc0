use Rattle.std.proofs.Common.{◌∙◌, subst, arith}
use Rattle.retention.specs.DatingSteps.{IsDating}
use Rattle.retention.proofs.DatingLemmas.{has_last, dating_start, dating_next, work_less}
use Rattle.retention.proofs.AccountLemmas.{holds_within}
use Rattle.retention.proofs.leaked_since.date_all.Goals as goal

pub date-requires : goal.date-requires
date-requires c = omega (arith, c.requires.there, c.requires.long)

pub loop-source-init : goal.loop-source-init
loop-source-init c =
    dating_start c.args.graph.now c.args.leaked.now c.args.index c.args.id c.args.since.now.items c.date.new.since.items c.args.todo.now.items c.date.new.todo.items
    c.requires.closed (omega (arith, c.requires.there, c.requires.long)) c.requires.there c.requires.marked c.requires.empty c.in_ok-date.ensures

pub date_fields-requires : goal.date_fields-requires
date_fields-requires c =
    let d = subst (λ xs. IsDating c.args.graph.now c.args.leaked.now c.args.index c.args.id c.args.since.now.items c.loop-source.since.items xs) c.in-Some.ensures.items c.loop-source.invariant in
    record {
      marks = c.requires.marks;
      long = d.long ∙ c.requires.long;
      there = (d.waiting c.in-Some.source (has_last c.in-Some.source c.pop.new.self.items)).0;
    }

pub loop-source-smaller : goal.loop-source-smaller
loop-source-smaller c =
    work_less c.loop-source.since.items c.date_fields.new.since.items c.loop-source.todo.items c.pop.new.self.items c.date_fields.new.todo.items c.in-Some.source
    c.in-Some.ensures.items c.in_ok-date_fields.ensures.work

pub loop-source-preserved : goal.loop-source-preserved
loop-source-preserved c =
    let d = subst (λ xs. IsDating c.args.graph.now c.args.leaked.now c.args.index c.args.id c.args.since.now.items c.loop-source.since.items xs) c.in-Some.ensures.items c.loop-source.invariant in
    dating_next c.args.graph.now c.args.leaked.now c.args.index c.args.id c.args.since.now.items c.loop-source.since.items c.date_fields.new.since.items c.pop.new.self.items c.date_fields.new.todo.items
    c.in-Some.source d (λ p field k held. holds_within c.args.graph.now p k held) c.in_ok-date_fields.ensures
