use Rattle.std.proofs.Common.{◌≡◌, ◌+◌, ◌≤◌, length, []}
use Rattle.trace_reader.specs.Reading.{lines_of}
use Rattle.trace_reader.specs.Scripts.{after_requests}
use Rattle.trace_reader.proofs.script.read_requests.Given as goal

abbrev pub invariant-lines : goal.invariant-lines
invariant-lines l = record {
  reads : after_requests l.lone l.requests l.number (lines_of l.rest) ≡ after_requests l.lone [] l.first (lines_of l.bytes);
  number : l.number + length l.rest ≤ l.first + length l.bytes;
  line : l.first ≤ l.number;
  lines : l.number + length (lines_of l.rest) ≡ l.first + length (lines_of l.bytes);
}

abbrev pub decreases-lines : goal.decreases-lines
decreases-lines l = length l.rest
