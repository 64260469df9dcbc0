-- How counts change with a map and with what is pending. For the layers above: `object_heap` keeps its counters by these, and cites
-- no other lemma on counts; `agreement` gathers what remains by those on maps.
pub use Rattle.ownership_model.proofs.MapLemmas.{get_inserted, get_removed}
pub use Rattle.ownership_model.proofs.TotalLemmas.{weight_at, total-insert, total-remove, total-positive}
pub use Rattle.ownership_model.proofs.CountLemmas.{total-set, total-cut, items_weight-drops, ends-drops}
pub use Rattle.ownership_model.proofs.CountLemmas.{self_strong, self_weak, other_strong, other_weak, same_number}
pub use Rattle.ownership_model.proofs.BoundLemmas.{names_alike-le}
