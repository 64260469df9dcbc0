-- What a handle, a cell or a field of a reached object names is reached.
use Rattle.std.proofs.Common.{refl}
use Rattle.std.specs.FinMap.{keys}
use Rattle.ownership_model.specs.Reach.{is_reached, holding_names, cell_names, handle_names, all_cell_names}
use Rattle.ownership_model.specs.ReachLaws.{NamedAreReached}
use Rattle.ownership_model.proofs.NameLemmas.{all_left, all_right, at_each_key}
use Rattle.ownership_model.proofs.ReachedLemmas.{reached}

pub named_reached : NamedAreReached
named_reached = record {
  by_handle = λ by m h o is.
      at_each_key (λ q. is_reached by m q) m.handles (holding_names by) refl
      (all_left (λ q. is_reached by m q) (handle_names by m (keys m.handles)) (all_cell_names by m (keys m.cells)) (reached by m).roots) h o is;
  by_cell = λ by m c o is.
      at_each_key (λ q. is_reached by m q) m.cells (cell_names by) refl
      (all_right (λ q. is_reached by m q) (handle_names by m (keys m.handles)) (all_cell_names by m (keys m.cells)) (reached by m).roots) c o is;
  by_field = λ by m p o there is. (reached by m).fields p o there is;
}
