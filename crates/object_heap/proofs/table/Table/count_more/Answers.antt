use Rattle.object_heap.proofs.GainLemmas.{on_ok}
use Rattle.object_heap.proofs.MoreLemmas.{room_kept, counted_first, counted_more}
use Rattle.object_heap.proofs.LessLemmas.{answered}
use Rattle.object_heap.proofs.table.Table.count_more.Goals as goal

pub update-requires : goal.update-requires
update-requires c = room_kept c.self.inside.kept c.args.self.now c.self.view_is c.args.object c.args.more c.requires.room

pub invariant_of-self-then-branch : goal.invariant_of-self-then-branch
invariant_of-self-then-branch c =
    (counted_more c.self.inside.kept c.args.self.now c.self.view_is c.args.object c.args.more c.update.new.self c.self.invariant c.requires.any c.in_ok-update.ensures.ok (answered _ _ _ c.in_ok-update.ensures.answer c.if-branch.true)).0

pub returns-then-branch-clause-set : goal.returns-then-branch-clause-set
returns-then-branch-clause-set c =
    (counted_more c.self.inside.kept c.args.self.now c.self.view_is c.args.object c.args.more c.update.new.self c.self.invariant c.requires.any c.in_ok-update.ensures.ok (answered _ _ _ c.in_ok-update.ensures.answer c.if-branch.true)).1.0

pub returns-then-branch-clause-entries : goal.returns-then-branch-clause-entries
returns-then-branch-clause-entries c =
    (counted_more c.self.inside.kept c.args.self.now c.self.view_is c.args.object c.args.more c.update.new.self c.self.invariant c.requires.any c.in_ok-update.ensures.ok (answered _ _ _ c.in_ok-update.ensures.answer c.if-branch.true)).1.1

pub returns-clause-set : goal.returns-clause-set
returns-clause-set c =
    on_ok c.put_counters.result c.put_counters.ensures.set (λ set.
    counted_first c.self.inside.kept c.args.self.now c.self.view_is c.args.object c.args.more c.update.new.self c.put_counters.new.self.counts c.in_ok-update.ensures.ok (answered _ _ _ c.in_ok-update.ensures.answer c.if-branch.false) set)
