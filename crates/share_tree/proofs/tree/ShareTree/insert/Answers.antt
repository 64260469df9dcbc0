use Rattle.std.proofs.Common.{ap, sym, ◌∙◌, arith, ◌<◌, ◌+◌, ◌^◌}
use Rattle.std.proofs.lemmas.Result.{err_from_is_err_and}
use Rattle.std.specs.FinMap as map
use Rattle.share_tree.specs.Levels.{root_at}
use Rattle.share_tree.proofs.MapLemmas.{map_of-insert, map_of-alike, len-map_of, contains_key-map_of, len-insert_new, len-insert_there}
use Rattle.share_tree.proofs.tree.ShareTree.insert.Goals as goal

pub invariant_of-self : goal.invariant_of-self
invariant_of-self g c = c.self.invariant ∙ sym (ap map.len (map_of-alike (root_at c.self.inside.root) (root_at c.insert.new.self) c.in_err-was.ensures.err))

pub returns-in_err-was-clause-err : goal.returns-in_err-was-clause-err
returns-in_err-was-clause-err g c =
    let p = err_from_is_err_and c.from_residual.result c.from_residual.ensures.1 in
    rw p.1 (map_of-alike (root_at c.self.inside.root) (root_at c.insert.new.self) c.in_err-was.ensures.err ∙ c.self.view_is)

pub overflow_add-self : goal.overflow_add-self
overflow_add-self g c = omega (arith, c.self.invariant, len-map_of (root_at c.self.inside.root))

pub invariant_of-self-then-not-was : goal.invariant_of-self-then-not-was
invariant_of-self-then-not-was g c =
    let below : c.args.key < 2 ^ 32 = omega arith in
    let f = root_at c.self.inside.root in
    ap (λ n. n + 1) c.self.invariant
    ∙ sym (len-insert_new _ c.args.key c.args.value (contains_key-map_of f c.args.key below ∙ sym c.in_ok-was.ensures.was ∙ c.if-not-was.true))
    ∙ sym (ap map.len (map_of-insert f (root_at c.insert.new.self) c.args.key c.args.value below c.in_ok-was.ensures.ok))

pub invariant_of-self-else-not-was : goal.invariant_of-self-else-not-was
invariant_of-self-else-not-was g c =
    let below : c.args.key < 2 ^ 32 = omega arith in
    let f = root_at c.self.inside.root in
    c.self.invariant
    ∙ sym (len-insert_there _ c.args.key c.args.value (contains_key-map_of f c.args.key below ∙ sym c.in_ok-was.ensures.was ∙ c.if-not-was.false))
    ∙ sym (ap map.len (map_of-insert f (root_at c.insert.new.self) c.args.key c.args.value below c.in_ok-was.ensures.ok))

pub returns-then-not-was-clause-ok : goal.returns-then-not-was-clause-ok
returns-then-not-was-clause-ok g c =
    let below : c.args.key < 2 ^ 32 = omega arith in
    map_of-insert (root_at c.self.inside.root) (root_at c.insert.new.self) c.args.key c.args.value below c.in_ok-was.ensures.ok ∙ ap (λ m. map.insert m c.args.key c.args.value) c.self.view_is

pub returns-else-not-was-clause-ok : goal.returns-else-not-was-clause-ok
returns-else-not-was-clause-ok g c =
    let below : c.args.key < 2 ^ 32 = omega arith in
    map_of-insert (root_at c.self.inside.root) (root_at c.insert.new.self) c.args.key c.args.value below c.in_ok-was.ensures.ok ∙ ap (λ m. map.insert m c.args.key c.args.value) c.self.view_is
