use Rattle.retention.proofs.DatingLemmas.{dated_same, dated_more}
use Rattle.retention.proofs.AccountLemmas.{never_there, never_marked}
use Rattle.retention.proofs.leaked_since.date_lost.Goals as goal

pub returns-in_default-clause-dated : goal.returns-in_default-clause-dated
returns-in_default-clause-dated c =
    λ losses dated. dated_same c.args.graph.now c.args.leaked.now c.args.loss losses c.args.since.now.items
    (never_there c.args.graph.now c.args.leaked.now c.args.loss.object c.in_default.ensures) dated

pub returns-then-not-leaked-index-clause-dated : goal.returns-then-not-leaked-index-clause-dated
returns-then-not-leaked-index-clause-dated c =
    λ losses dated. dated_same c.args.graph.now c.args.leaked.now c.args.loss losses c.args.since.now.items
    (never_marked c.args.graph.now c.args.leaked.now c.args.loss.object c.in-Some.index c.in-Some.ensures.0 c.in-Some.ensures.1 c.requires.distinct c.if-not-leaked-index.true) dated

pub returns-clause-dated : goal.returns-clause-dated
returns-clause-dated c =
    λ losses dated. dated_more c.args.graph.now c.args.leaked.now c.args.loss losses c.in-Some.index c.in-Some.ensures.0 c.in-Some.ensures.1 c.requires.distinct
    c.args.since.now.items c.date_all.new.since.items c.in_ok-date_all.ensures.dated dated
