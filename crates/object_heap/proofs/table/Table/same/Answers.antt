use Rattle.object_heap.proofs.TableLemmas.{same_seen}
use Rattle.object_heap.proofs.table.Table.same.Goals as goal

pub returns : goal.returns
returns c =
    let same = same_seen c.self.inside.kept c.other.inside.kept c.args.self.now c.args.other.now c.self.view_is c.other.view_is c.self.invariant c.other.invariant in
    (λ t. same.0 (c.same.ensures.0 t), λ alike. c.same.ensures.1 (same.1 alike))
