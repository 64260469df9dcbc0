use Rattle.std.proofs.Common.{◌-◌, length, take, drop}
use Rattle.trace_reader.proofs.PlainLemmas.{IsAfterMembers}
use Rattle.trace_reader.proofs.plain.line.plain_members.Given as goal

abbrev pub invariant-members : goal.invariant-members
invariant-members l = IsAfterMembers l.initial.kept (take (length l.line - 1) (drop 1 l.line)) l.kept l.rest

abbrev pub decreases-members : goal.decreases-members
decreases-members l = length l.rest
