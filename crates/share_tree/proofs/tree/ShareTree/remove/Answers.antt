use Rattle.std.proofs.Common.{ap, sym, ◌∙◌, arith, ◌≡◌, ◌<◌, ◌-◌, ◌^◌, true}
use Rattle.std.proofs.lemmas.Result.{err_from_is_err_and}
use Rattle.std.specs.FinMap as map
use Rattle.share_tree.specs.Levels.{root_at}
use Rattle.share_tree.proofs.MapLemmas.{map_of-remove, map_of-alike, len-remove_there, len-positive, remove-absent}
use Rattle.share_tree.proofs.tree.ShareTree.remove.Goals as goal

pub invariant_of-self : goal.invariant_of-self
invariant_of-self g c = c.self.invariant ∙ sym (ap map.len (map_of-alike (root_at c.self.inside.root) (root_at c.remove.new.self) c.in_err-remove.ensures.err))

pub returns-in_err-remove-clause-err : goal.returns-in_err-remove-clause-err
returns-in_err-remove-clause-err g c =
    let p = err_from_is_err_and c.from_residual.result c.from_residual.ensures.1 in
    rw p.1 (map_of-alike (root_at c.self.inside.root) (root_at c.remove.new.self) c.in_err-remove.ensures.err ∙ c.self.view_is)

pub overflow_sub-self : goal.overflow_sub-self
overflow_sub-self g c =
    let there : map.contains_key c.args.self.now c.args.key ≡ true = sym c.contains_key.ensures ∙ c.if-contains_key.true in
    omega (arith, c.self.invariant, ap map.len c.self.view_is, len-positive c.args.self.now c.args.key there)

pub invariant_of-self-then-contains_key : goal.invariant_of-self-then-contains_key
invariant_of-self-then-contains_key g c =
    let below : c.args.key < 2 ^ 32 = omega arith in
    let there : map.contains_key c.args.self.now c.args.key ≡ true = sym c.contains_key.ensures ∙ c.if-contains_key.true in
    ap (λ n. n - 1) (c.self.invariant ∙ ap map.len c.self.view_is)
    ∙ sym (len-remove_there c.args.self.now c.args.key there)
    ∙ sym (ap map.len (map_of-remove (root_at c.self.inside.root) (root_at c.remove.new.self) c.args.key below c.in_ok-remove.ensures.ok ∙ ap (λ m. map.remove m c.args.key) c.self.view_is))

pub returns-in_ok-remove-clause-ok : goal.returns-in_ok-remove-clause-ok
returns-in_ok-remove-clause-ok g c =
    let below : c.args.key < 2 ^ 32 = omega arith in
    map_of-remove (root_at c.self.inside.root) (root_at c.remove.new.self) c.args.key below c.in_ok-remove.ensures.ok ∙ ap (λ m. map.remove m c.args.key) c.self.view_is

pub returns-else-contains_key-clause-ok : goal.returns-else-contains_key-clause-ok
returns-else-contains_key-clause-ok g c = sym (remove-absent c.args.self.now c.args.key (sym c.contains_key.ensures ∙ c.if-contains_key.false))
