use Rattle.std.proofs.Common.{◌≡◌, ◌++◌, take, string_bytes}
use Rattle.std.specs.Prelude.{flat_map, filter}
use Rattle.retention_report.specs.Drawn.{object_of, is_marked_in}
use Rattle.retention_report.proofs.drawing.push_objects.Given as goal

abbrev pub invariant-loop-index : goal.invariant-loop-index
invariant-loop-index l = string_bytes l.text ≡ string_bytes l.initial.text ++ flat_map (object_of l.end l.heap l.given) (filter (is_marked_in l.end.graph.objects.items l.shown) (take l.index l.end.graph.objects.items))
