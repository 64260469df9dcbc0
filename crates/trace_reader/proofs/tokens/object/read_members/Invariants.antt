use Rattle.std.proofs.Common.{◌≡◌, ℕ, ◌≤◌, length}
use Rattle.json.specs.Json.{members, value}
use Rattle.serde_json.specs.Data.{Members}
use Rattle.serde_json.specs.Read.{of_members, converted}
use Rattle.trace_reader.specs.Looks.{Tells}
use Rattle.trace_reader.proofs.tokens.object.read_members.Given as goal

-- the members that were read stand in front of those to come
abbrev pub invariant-members : goal.invariant-members
invariant-members l =
    (n : ℕ) × (length l.reader ≤ n) × (grown : Members → Members)
    × ((old : Members) → converted (λ js. of_members js old) (members (value l.depth) (length l.initial.reader) l.initial.reader) ≡ converted (λ js. of_members js (grown old)) (members (value l.depth) n l.reader))
    × ((old : Members) → Tells l.initial.kept old → Tells l.kept (grown old))

abbrev pub decreases-members : goal.decreases-members
decreases-members l = length l.reader
