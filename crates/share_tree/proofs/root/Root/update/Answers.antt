use Rattle.std.proofs.Common.{rules, ◌≡◌, Some, ap, sym, ◌∙◌}
use Rattle.std.proofs.lemmas.Result.{on_ok_weaker, on_err_weaker}
use Rattle.std.specs.Arc.{arc_value}
use Rattle.std.specs.Option.{option_map}
use Rattle.share_tree.specs.Digits.{updated, nowhere}
use Rattle.share_tree.specs.Levels.{root_at}
use Rattle.share_tree.proofs.RootLemmas.{one-set}
use Rattle.share_tree.proofs.UpdatedLemmas.{updated-there}
use Rattle.share_tree.proofs.root.Root.update.Goals as goal

pub returns-else-only-key-clause-ok : goal.returns-else-only-key-clause-ok
returns-else-only-key-clause-ok g c =
    let only = c.in-One.only in
    let value = (arc_value c.in-One.leaf).value in
    let to = g.F.Update.to c.args.how.now in
    let same : only ≡ c.args.key = search rules in
    let there : root_at c.args.self.now c.args.key ≡ Some value = ap (λ r. root_at r c.args.key) c.in-One.is ∙ updated-there nowhere only (Some value) c.args.key (sym same) in
    on_ok_weaker c.update_in.result (λ set q.
    ap (λ v. updated nowhere only (Some v) q) set
    ∙ one-set only (Some value) (Some (to value)) q
    ∙ ap (λ r. updated (root_at r) only (Some (to value)) q) (sym c.in-One.is)
    ∙ ap (λ k. updated (root_at c.args.self.now) k (Some (to value)) q) same
    ∙ ap (λ o. updated (root_at c.args.self.now) c.args.key (option_map to o) q) (sym there)) c.update_in.ensures.ok

pub returns-else-only-key-clause-err : goal.returns-else-only-key-clause-err
returns-else-only-key-clause-err g c =
    on_err_weaker c.update_in.result (λ kept q. ap (λ v. updated nowhere c.in-One.only (Some v) q) kept ∙ ap (λ r. root_at r q) (sym c.in-One.is)) c.update_in.ensures.err
