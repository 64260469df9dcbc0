use Rattle.std.proofs.Common.{refl, ap, ◌∙◌, sym}
use Rattle.std.specs.Prelude.{Option, ◌==◌, if◌then◌else◌}
use Rattle.std.specs.FinMap as map
use Rattle.ownership_model.proofs.Counting.{get_inserted, get_removed}
use Rattle.object_heap.specs.TableView.{Kept}
use Rattle.object_heap.proofs.GainLemmas.{on_ok}
use Rattle.object_heap.proofs.table.store.Goals as goal

pub returns-then-is_needed-clause-ok : goal.returns-then-is_needed-clause-ok
returns-then-is_needed-clause-ok c = on_ok c.insert.result c.insert.ensures.ok (λ is q.
    ap (λ m. map.get m q) is ∙ get_inserted c.args.tree.now c.args.object c.args.kept q
    ∙ ap (λ (x : Option Kept). if c.args.object == q then x else map.get c.args.tree.now q) (sym (c.if-is_needed.ensures.kept refl)))

pub returns-else-is_needed-clause-ok : goal.returns-else-is_needed-clause-ok
returns-else-is_needed-clause-ok c = on_ok c.remove.result c.remove.ensures.ok (λ is q.
    ap (λ m. map.get m q) is ∙ get_removed c.args.tree.now c.args.object q
    ∙ ap (λ (x : Option Kept). if c.args.object == q then x else map.get c.args.tree.now q) (sym (c.if-is_needed.ensures.not_kept refl)))
