use Rattle.std.proofs.Common.{◌≤◌, subst, arith}
use Rattle.std.proofs.lemmas.Bool.Decides.{nat_tests}
use Rattle.std.specs.Prelude.{◌≡◌, nat_le, true}
use Rattle.object_heap.specs.Descent.{DescendTo}
use Rattle.object_heap.specs.TableView.{TableView}
use Rattle.object_heap.proofs.objects.Objects.descend_to.Goals as goal

pub returns : goal.returns
returns c = λ t.
    let told : nat_le c.self.inside.from c.rank_of.result ≡ true = t in
    let above : c.self.inside.from ≤ c.rank_of.result = grind (arith, nat_tests, told) in
    subst (λ (t : TableView). DescendTo t.entries c.args.object) c.self.view_is
    (record { ranks = c.self.inside.ranks; from = c.self.inside.from; ranked = c.self.invariant; above = omega (arith, above, c.rank_of.ensures.rank) })
