use Rattle.std.proofs.Common.{◌≡◌, ◌++◌, take, string_bytes}
use Rattle.std.specs.Prelude.{flat_map, filter}
use Rattle.retention_report.specs.Drawn.{edge_of, is_drawn}
use Rattle.retention_report.proofs.drawing.push_edges.Given as goal

abbrev pub invariant-loop-place : goal.invariant-loop-place
invariant-loop-place l = string_bytes l.text ≡ string_bytes l.initial.text ++ flat_map (edge_of l.end) (filter (is_drawn l.end.graph.objects.items l.shown) (take l.place l.end.graph.held.items))
