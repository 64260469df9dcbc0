use Rattle.std.proofs.Common.{◌≡◌, Some, ap, sym, ◌∙◌}
use Rattle.std.proofs.lemmas.Result.{err_from_is_err_and}
use Rattle.std.specs.Arc.{arc_value}
use Rattle.share_tree.specs.Digits.{updated, nowhere}
use Rattle.share_tree.specs.Levels.{root_at}
use Rattle.share_tree.proofs.RootLemmas.{one-set}
use Rattle.share_tree.proofs.root.Root.put.Goals as goal

pub returns-in_ok-put_in-in-One-clause-ok : goal.returns-in_ok-put_in-in-One-clause-ok
returns-in_ok-put_in-in-One-clause-ok g c =
    let only = c.in-One.field-0 in
    let room : only ≡ c.args.key = rw c.in-One.is at c.requires in
    λ q.
    ap (λ v. updated nowhere only (Some v) q) c.in_ok-put_in-in-One.ensures.ok
    ∙ one-set only (Some (arc_value c.in-One.leaf).value) (Some c.args.value) q
    ∙ ap (λ r. updated (root_at r) only (Some c.args.value) q) (sym c.in-One.is)
    ∙ ap (λ k. updated (root_at c.args.self.now) k (Some c.args.value) q) room

pub returns-in_err-put_in-in-One-clause-err : goal.returns-in_err-put_in-in-One-clause-err
returns-in_err-put_in-in-One-clause-err g c =
    let p = err_from_is_err_and c.from_residual.result c.from_residual.ensures.1 in
    rw p.1 (λ q. ap (λ v. updated nowhere c.in-One.field-0 (Some v) q) c.in_err-put_in-in-One.ensures.err ∙ ap (λ r. root_at r q) (sym c.in-One.is))
