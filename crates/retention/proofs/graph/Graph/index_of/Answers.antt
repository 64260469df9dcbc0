use Rattle.std.proofs.Common.{◌≡◌, ◌<◌, length, get_or, subst, sym, false}
use Rattle.ownership_model.specs.Reach.{has}
use Rattle.retention.specs.Layout.{IsRising}
use Rattle.retention.proofs.LayoutLemmas.{search_found, search_none}
use Rattle.retention.proofs.CountLemmas.{none_has}
use Rattle.retention.proofs.graph.Graph.index_of.Goals as goal

pub returns-in-Ok : goal.returns-in-Ok
returns-in-Ok c =
    subst (λ xs. (c.in-Ok.index < length xs) × (get_or xs c.in-Ok.index 0 ≡ c.args.object)) c.deref.ensures.value
    (search_found c.deref.result.now c.args.object c.binary_search.result c.in-Ok.index (subst (λ xs. IsRising xs) (sym c.deref.ensures.value) c.args.self.now.laid.rising) c.binary_search.ensures.position c.in-Ok.is)

pub returns-in-Err : goal.returns-in-Err
returns-in-Err c =
    subst (λ xs. has c.args.object xs ≡ false) c.deref.ensures.value
    (none_has c.deref.result.now c.args.object (search_none c.deref.result.now c.args.object c.binary_search.result c.in-Err.field-0 (subst (λ xs. IsRising xs) (sym c.deref.ensures.value) c.args.self.now.laid.rising) c.binary_search.ensures.position c.in-Err.is))
