use Rattle.std.proofs.Common.{◌≡◌, ◌+◌, ◌≤◌, length}
use Rattle.trace_reader.specs.Reading.{lines_of}
use Rattle.trace_reader.specs.Scripts.{script_from, read_script}
use Rattle.trace_reader.proofs.script.read_script.Given as goal

abbrev pub invariant-lines : goal.invariant-lines
invariant-lines l = record {
  reads : script_from l.lone l.trace l.number (lines_of l.rest) ≡ read_script l.lone l.bytes;
  number : l.number + length l.rest ≤ length l.bytes + 1;
  line : 1 ≤ l.number;
  lines : l.number + length (lines_of l.rest) ≡ length (lines_of l.bytes) + 1;
}

abbrev pub decreases-lines : goal.decreases-lines
decreases-lines l = length l.rest
