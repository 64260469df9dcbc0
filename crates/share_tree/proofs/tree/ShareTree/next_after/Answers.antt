use Rattle.std.proofs.Common.{◌≡◌, ◌+◌, sym, arith, Some, None}
use Rattle.share_tree.specs.Levels.{root_at}
use Rattle.share_tree.proofs.FirstLemmas.{IfNone_then, IfSome_both, through-first, through-end, through-all}
use Rattle.share_tree.proofs.tree.ShareTree.next_after.Goals as goal

pub returns-in-None-clause-next : goal.returns-in-None-clause-next
returns-in-None-clause-next g c =
    IfSome_both c.first_from.result c.first_from.ensures.within c.first_from.ensures.first (λ e below h.
    rw (sym c.self.view_is, c.in-None.is) (through-first (root_at c.self.inside.root) None e.0 e.1.now below h))

pub returns-in-None-clause-end : goal.returns-in-None-clause-end
returns-in-None-clause-end g c =
    IfNone_then c.first_from.result c.first_from.ensures.none (λ nothing.
    rw (sym c.self.view_is, c.in-None.is) (through-end (root_at c.self.inside.root) None (omega arith) nothing))

pub returns-in_ok-checked_add-in-Some-clause-next :
    goal.returns-in_ok-checked_add-in-Some-clause-next
returns-in_ok-checked_add-in-Some-clause-next g c =
    let next : c.in_ok-checked_add-in-Some.field-0 ≡ c.in-Some.key + 1 = c.in_ok-checked_add-in-Some.ensures.1 in
    IfSome_both c.first_from-in-Some.result c.first_from-in-Some.ensures.within c.first_from-in-Some.ensures.first (λ e below h.
    rw (sym c.self.view_is, c.in-Some.is) (through-first (root_at c.self.inside.root) (Some c.in-Some.key) e.0 e.1.now below (rw next at h)))

pub returns-in_ok-checked_add-in-Some-clause-end :
    goal.returns-in_ok-checked_add-in-Some-clause-end
returns-in_ok-checked_add-in-Some-clause-end g c =
    let next : c.in_ok-checked_add-in-Some.field-0 ≡ c.in-Some.key + 1 = c.in_ok-checked_add-in-Some.ensures.1 in
    IfNone_then c.first_from-in-Some.result c.first_from-in-Some.ensures.none (λ nothing.
    rw (sym c.self.view_is, c.in-Some.is) (through-end (root_at c.self.inside.root) (Some c.in-Some.key) (omega (arith, c.in_ok-checked_add-in-Some.ensures.0)) (rw next at nothing)))

pub returns-in_err-checked_add-in-Some-clause-end :
    goal.returns-in_err-checked_add-in-Some-clause-end
returns-in_err-checked_add-in-Some-clause-end g c =
    rw (c.from_residual.ensures, sym c.self.view_is, c.in-Some.is) (through-all (root_at c.self.inside.root) c.in-Some.key (omega (arith, c.in_err-checked_add-in-Some.ensures)))
