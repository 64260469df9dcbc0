-- Operations in spans: those that stay where they stand in an original, and new ones.
use Rattle.std.specs.Prelude.{◌≡◌, ℕ, suc, zero, ◌+◌, ◌<◌, ◌≤◌, List, [], ◌∷◌, length, take, drop}
use Rattle.std.specs.List.{flat_map, AllByRecursion}
use Rattle.trace_types.specs.Operation.{Operation}
use Rattle.run_engine.specs.declared.editing.spans.Span.{Span}
use Rattle.run_engine.specs.declared.editing.spans.Span.TheVariants.{Old, New}

-- the operations of a span
abbrev pub ops_in : List Operation → Span → List Operation
ops_in base (Old from len) = take len (drop from base)
ops_in base (New op) = op.now ∷ []

-- the operations of all spans
abbrev pub laid : List Operation → List Span → List Operation
laid base spans = flat_map (ops_in base) spans

-- how many operations a span has
abbrev pub span_length : Span → ℕ
span_length (Old from len) = len
span_length (New op) = suc zero

-- how many operations all spans have
abbrev pub total : List Span → ℕ
total [] = 0
total (s ∷ spans) = span_length s + total spans

-- the span lies within an original of n operations
abbrev pub Fits : ℕ → Span → Type 0
Fits n (Old from len) = from + len ≤ n
Fits n (New op) = Unit {0}

-- each span lies within it
abbrev pub AreFit : ℕ → List Span → Type 0
AreFit n spans = AllByRecursion (Fits n) spans

-- where the span that has a place begins: the span at i, if there is one, has the place
pub record IsFound (spans : List Span) (place i rest : ℕ) : Type 0 where
  pub within : i ≤ length spans
  pub place_is : total (take i spans) + rest ≡ place
  pub inside : i < length spans → place < total (take (i + 1) spans)
