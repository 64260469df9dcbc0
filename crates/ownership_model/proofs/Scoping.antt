-- Where a handle stands in scopes, before and after one enters or leaves. For the layers above: `object_heap` keeps its scopes by
-- these, and cites no other lemma on scopes but the laws.
pub use Rattle.ownership_model.proofs.ScopeLemmas.{one_if, hit_is, itself, times_among, times_of_scope}
pub use Rattle.ownership_model.proofs.ScopeLemmas.{times-entered, times-left, from_entered, from_lower, from_left}
pub use Rattle.ownership_model.proofs.ScopeMaps.{own_first, same_scopes}
