use Rattle.std.proofs.Common.{◌≡◌, [], drop}
use Rattle.serde_json.specs.View.{items_view}
use Rattle.trace_reader.specs.Requests.{edits_from}
use Rattle.trace_reader.proofs.request.elements.Given as goal

abbrev pub invariant-loop-item : goal.invariant-loop-item
invariant-loop-item l = edits_from l.edits (items_view (drop l.item-index l.items)) ≡ edits_from [] (items_view l.items)
