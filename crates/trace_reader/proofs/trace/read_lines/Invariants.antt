use Rattle.std.proofs.Common.{◌≡◌, ◌+◌, ◌≤◌, length}
use Rattle.trace_reader.specs.Reading.{after_lines, lines_of, read_trace}
use Rattle.trace_reader.proofs.trace.read_lines.Given as goal

abbrev pub invariant-lines : goal.invariant-lines
invariant-lines l = record {
  reads : after_lines l.trace l.number (lines_of l.rest) ≡ read_trace l.bytes;
  number : l.number + length l.rest ≤ length l.bytes + 1;
  line : 1 ≤ l.number;
  lines : l.number + length (lines_of l.rest) ≡ length (lines_of l.bytes) + 1;
}

abbrev pub decreases-lines : goal.decreases-lines
decreases-lines l = length l.rest
