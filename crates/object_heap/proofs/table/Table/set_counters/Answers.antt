use Rattle.std.proofs.Common.{rules, ◌≡◌, false}
use Rattle.object_heap.specs.TableView.{are_zero}
use Rattle.object_heap.proofs.TableLemmas.{kept_counted, recounted}
use Rattle.object_heap.proofs.LessLemmas.{answered}
use Rattle.object_heap.proofs.table.Table.set_counters.Goals as goal

pub invariant_of-self-then-branch : goal.invariant_of-self-then-branch
invariant_of-self-then-branch c =
    let any : are_zero c.args.counters ≡ false = search rules in
    (recounted c.self.inside.kept c.update.new.self c.args.self.now c.self.view_is c.self.invariant c.args.object c.args.counters (λ x _. kept_counted x.0 c.args.counters any) c.in_ok-update.ensures.ok (answered _ _ _ c.in_ok-update.ensures.answer c.if-branch.true)).0

pub returns-then-branch-clause-set : goal.returns-then-branch-clause-set
returns-then-branch-clause-set c =
    let any : are_zero c.args.counters ≡ false = search rules in
    (recounted c.self.inside.kept c.update.new.self c.args.self.now c.self.view_is c.self.invariant c.args.object c.args.counters (λ x _. kept_counted x.0 c.args.counters any) c.in_ok-update.ensures.ok (answered _ _ _ c.in_ok-update.ensures.answer c.if-branch.true)).1.0

pub returns-then-branch-clause-entries : goal.returns-then-branch-clause-entries
returns-then-branch-clause-entries c =
    let any : are_zero c.args.counters ≡ false = search rules in
    (recounted c.self.inside.kept c.update.new.self c.args.self.now c.self.view_is c.self.invariant c.args.object c.args.counters (λ x _. kept_counted x.0 c.args.counters any) c.in_ok-update.ensures.ok (answered _ _ _ c.in_ok-update.ensures.answer c.if-branch.true)).1.1
