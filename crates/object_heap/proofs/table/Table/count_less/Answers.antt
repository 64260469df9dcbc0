use Rattle.std.proofs.Common.{ap, sym, subst, ◌∙◌}
use Rattle.std.specs.FinMap.{get}
use Rattle.object_heap.specs.declared.counters.Counters.{Counters}
use Rattle.object_heap.specs.TableView.{TableView, counters_at, minus, table_of, AreAmong, IsLean}
use Rattle.object_heap.specs.Gains.{IsSetAt}
use Rattle.object_heap.proofs.GainLemmas.{on_ok}
use Rattle.object_heap.proofs.LessLemmas.{among_kept, counted_less, left_whole}
use Rattle.object_heap.proofs.table.Table.count_less.Goals as goal

pub update-requires : goal.update-requires
update-requires c = among_kept c.self.inside.kept c.args.self.now c.self.view_is c.args.object c.args.less c.requires

pub invariant_of-self-then-branch : goal.invariant_of-self-then-branch
invariant_of-self-then-branch c =
    (counted_less c.self.inside.kept c.args.self.now c.self.view_is c.args.object c.args.less c.update.new.self c.in_ok-update.ensures.ok _ c.in_ok-update.ensures.answer c.self.invariant c.if-branch.true).0

pub returns-then-branch-clause-set : goal.returns-then-branch-clause-set
returns-then-branch-clause-set c =
    (counted_less c.self.inside.kept c.args.self.now c.self.view_is c.args.object c.args.less c.update.new.self c.in_ok-update.ensures.ok _ c.in_ok-update.ensures.answer c.self.invariant c.if-branch.true).1.0

pub returns-then-branch-clause-entries : goal.returns-then-branch-clause-entries
returns-then-branch-clause-entries c =
    (counted_less c.self.inside.kept c.args.self.now c.self.view_is c.args.object c.args.less c.update.new.self c.in_ok-update.ensures.ok _ c.in_ok-update.ensures.answer c.self.invariant c.if-branch.true).1.1

pub invariant_of-self-2 : goal.invariant_of-self-2
invariant_of-self-2 c =
    let same = left_whole c.self.inside.kept c.args.self.now c.self.view_is c.args.object c.args.less c.update.new.self c.in_ok-update.ensures.ok _ c.in_ok-update.ensures.answer c.if-branch.false in
    subst (λ m. IsLean m) (sym same) c.self.invariant

pub minus-counters-requires : goal.minus-counters-requires
minus-counters-requires c =
    let same = left_whole c.self.inside.kept c.args.self.now c.self.view_is c.args.object c.args.less c.update.new.self c.in_ok-update.ensures.ok _ c.in_ok-update.ensures.answer c.if-branch.false in
    let seen = ap table_of same ∙ c.self.view_is in
    subst (λ (n : Counters). AreAmong c.args.less n) (sym (c.counters.ensures ∙ ap (λ (s : TableView). counters_at (get s.counts c.args.object)) seen)) c.requires

pub returns-clause-set : goal.returns-clause-set
returns-clause-set c =
    let same = left_whole c.self.inside.kept c.args.self.now c.self.view_is c.args.object c.args.less c.update.new.self c.in_ok-update.ensures.ok _ c.in_ok-update.ensures.answer c.if-branch.false in
    let seen = ap table_of same ∙ c.self.view_is in
    let left = c.minus-counters.ensures ∙ ap (λ (n : Counters). minus n c.args.less) (c.counters.ensures ∙ ap (λ (s : TableView). counters_at (get s.counts c.args.object)) seen) in
    on_ok c.put_counters.result c.put_counters.ensures.set (λ set.
    subst (λ (s : TableView). IsSetAt s.counts c.put_counters.new.self.counts c.args.object (minus (counters_at (get c.args.self.now.counts c.args.object)) c.args.less)) seen
    (subst (λ (n : Counters). IsSetAt (table_of c.update.new.self).counts c.put_counters.new.self.counts c.args.object n) left set))

pub returns-clause-entries : goal.returns-clause-entries
returns-clause-entries c =
    let same = left_whole c.self.inside.kept c.args.self.now c.self.view_is c.args.object c.args.less c.update.new.self c.in_ok-update.ensures.ok _ c.in_ok-update.ensures.answer c.if-branch.false in
    c.put_counters.ensures.entries ∙ ap (λ (s : TableView). s.entries) (ap table_of same ∙ c.self.view_is)
