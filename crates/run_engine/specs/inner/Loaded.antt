-- A trace that is loaded with checkpoints given up.
use Rattle.std.specs.Prelude.{ℕ, ◌/◌, ◌&&◌, Bool, false, not, List, [], ◌∷◌, ◌++◌, length, filter, get_or, nat_lt}
use Rattle.trace_types.specs.Operation.{Operation}
use Rattle.run_engine.specs.RunView.{RunView}
use Rattle.run_engine.specs.Marks.{multiples_below}

-- whether the checkpoint at p, a multiple of 64, is given up: the list tells it of each, and the one at 0 stays
abbrev pub is_given_up : List Bool → ℕ → Bool
is_given_up flags p = nat_lt 0 p && get_or flags (p / 64) false

-- the multiples of 64 below n that are not given up
abbrev pub kept_below : List Bool → ℕ → List ℕ
kept_below flags n = filter (λ p. not (is_given_up flags p)) (multiples_below n)

-- the run of the trace with these checkpoints, and the one at the end
abbrev pub loaded_view : List Operation → List Bool → RunView
loaded_view trace flags = record { trace = trace; marks = kept_below flags (length trace) ++ length trace ∷ [] }
