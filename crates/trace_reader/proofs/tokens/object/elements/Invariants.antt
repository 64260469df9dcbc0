use Rattle.std.proofs.Common.{◌≡◌, ℕ, ◌≤◌, ◌++◌, length}
use Rattle.json.specs.Json.{items, value, parse_map}
use Rattle.serde_json.specs.Data.{Items}
use Rattle.serde_json.specs.Read.{of_items, converted}
use Rattle.trace_reader.specs.Looks.{elements_of}
use Rattle.trace_reader.proofs.tokens.object.elements.Given as goal

-- the elements that were read stand before those to come
abbrev pub invariant-items : goal.invariant-items
invariant-items l =
    (n : ℕ) × (length l.reader ≤ n) × (before : Items → Items)
    × (converted of_items (items (value l.depth) (length l.initial.reader) l.initial.reader) ≡ parse_map before (converted of_items (items (value l.depth) n l.reader)))
    × ((ds : Items) → elements_of (before ds) ≡ l.found.items ++ elements_of ds)
    × (length l.reader ≤ length l.initial.reader)

abbrev pub decreases-items : goal.decreases-items
decreases-items l = length l.reader
