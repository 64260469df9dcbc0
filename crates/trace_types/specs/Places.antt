-- What a trace keeps of the places of its operations (profile of this project).
use Rattle.std.specs.Prelude.{ℕ, ◌≡◌, ◌<◌, List, length, Option, Some, slice_index_or, if◌then◌else◌, ◌==◌}
use Rattle.std.specs.Option.{MatchOption}
use Rattle.std.specs.Ordering.{nat_cmp}
use Rattle.std.specs.BTreeMap.{BTreeMap, get}
use Rattle.trace_types.specs.Operation.{Operation}
use Rattle.trace_types.specs.Trace.{place_of}

-- each operation has a greater number than those before it
abbrev pub HasRisingNumbers : List Operation → Type 0
HasRisingNumbers ops = (i j : ℕ) (d : Operation) → i < j → j < length ops → (slice_index_or ops i d).id < (slice_index_or ops j d).id

-- all operations have smaller numbers
abbrev pub AreBelow : ℕ → List Operation → Type 0
AreBelow id ops = (i : ℕ) (d : Operation) → i < length ops → (slice_index_or ops i d).id < id

-- there is no map and numbers rise, or the map tells each place
abbrev pub ArePlaces : Option (BTreeMap ℕ ℕ) → List Operation → Type 0
ArePlaces places ops = MatchOption places (HasRisingNumbers ops) (λ m. (id : ℕ) → get nat_cmp m id ≡ place_of id ops)

-- the same, once an operation with this number stands behind them
abbrev pub ArePlacesWith : ℕ → Option (BTreeMap ℕ ℕ) → List Operation → Type 0
ArePlacesWith new places ops =
    MatchOption places (HasRisingNumbers ops × AreBelow new ops) (λ m. (id : ℕ) → get nat_cmp m id ≡ (if new == id then Some (length ops) else place_of id ops))
