use Rattle.std.proofs.Common.{◌≡◌, ◌++◌, take, string_bytes}
use Rattle.retention_report.specs.Drawn.{roots_in}
use Rattle.retention_report.proofs.DrawLemmas.{IsLastOf, lines_of}
use Rattle.retention_report.proofs.drawing.push_roots.Given as goal

abbrev pub invariant-loop-place : goal.invariant-loop-place
invariant-loop-place l = IsLastOf l.last (roots_in l.graph.objects.items l.shown (take l.place l.graph.held.items)) × (string_bytes l.text ≡ string_bytes l.initial.text ++ lines_of (roots_in l.graph.objects.items l.shown (take l.place l.graph.held.items)))
