use Rattle.std.proofs.Common.{◌<◌, sym, subst, arith}
use Rattle.object_heap.specs.Descent.{rank_in, IsUnnamed}
use Rattle.object_heap.specs.TableView.{TableView}
use Rattle.object_heap.proofs.DescentLemmas.{raised}
use Rattle.object_heap.proofs.objects.Objects.raise.Goals as goal

pub invariant_of-self-then-rank-le-MAX_RANK :
    goal.invariant_of-self-then-rank-le-MAX_RANK
invariant_of-self-then-rank-le-MAX_RANK c =
    let higher : rank_in c.self.inside.ranks c.args.object < c.args.rank = omega (arith, c.rank_of.ensures.rank, c.if-rank-rank_of.true) in
    raised c.insert.result c.self.inside.ranks c.insert.new.self c.args.object c.args.rank c.insert.ensures.ok c.insert.ensures.err c.self.inside.from c.self.inside.table.entries higher (omega (arith, c.if-rank-le-MAX_RANK.true))
    (subst (λ (t : TableView). IsUnnamed t.entries c.args.object) (sym c.self.view_is) c.requires) c.self.invariant
