use Rattle.std.proofs.Common.{◌<◌, ◌∙◌, subst}
use Rattle.retention.specs.Graph.{size}
use Rattle.retention.specs.Pictured.{IsAskedAt}
use Rattle.retention.proofs.PathLemmas.{has_all}
use Rattle.retention.proofs.ShownSteps.{shown_each, marked_within}
use Rattle.retention.proofs.shown.shown_for.Goals as goal

pub returns-clause-each : goal.returns-clause-each
returns-clause-each c =
    shown_each c.args.graph.now (IsAskedAt c.args.graph.now c.args.leaked.now c.args.given.now) c.push_asked.new.shown.items c.push_weak_holders.new.shown.items c.push_weak_holders.new.near.items
    c.gather.new.members.items c.gather.new.marks.items c.in_ok-push_asked.ensures.each c.in_ok-push_weak_holders.ensures.each c.in_ok-push_weak_holders.ensures.marked c.in_ok-gather.ensures.gathered

pub gather-requires-clause-within : goal.gather-requires-clause-within
gather-requires-clause-within c =
    has_all (λ i. i < size c.args.graph.now) c.push_weak_holders.new.near.items
    (λ z h. subst (λ n. z < n) c.in_ok-push_weak_holders.ensures.long (marked_within c.push_weak_holders.new.shown.items z (c.in_ok-push_weak_holders.ensures.marked z ∙ h)))
