use Rattle.std.proofs.Common.{◌≡◌, ◌++◌, drop}
use Rattle.serde_json.specs.View.{items_view}
use Rattle.trace_reader.specs.Looks.{elements_of}
use Rattle.trace_reader.proofs.values.elements.Given as goal

abbrev pub invariant-loop-item : goal.invariant-loop-item
invariant-loop-item l = l.found.items ++ elements_of (items_view (drop l.item-index l.items)) ≡ elements_of (items_view l.items)
