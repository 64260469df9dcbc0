-- The checkpoints of an edited trace.
use Rattle.std.specs.Prelude.{◌≡◌, ℕ, ◌+◌, ◌-◌, ◌<◌, ◌≤◌, List, [], ◌∷◌, ◌++◌, map, filter, nat_lt, length, Contains, ◌⊎◌}
use Rattle.trace_types.specs.Operation.{Operation}
use Rattle.run_engine.specs.HeadAndTail.{AreShared}
use Rattle.run_engine.specs.Marks.{IsGreatest}
use Rattle.run_engine.specs.Bounds.{AgreesAt}
use Rattle.run_engine.specs.RunView.{RunView}
use Rattle.op_step.specs.Chunk.{Chunk}
use Rattle.run_engine.specs.Guesses.{Reusable, IsAsLong}

-- g is how far two neighbouring checkpoints are apart
pub record AreNeighbours (marks : List ℕ) (g : ℕ) : Type 0 where
  pub before : List ℕ
  pub after : List ℕ
  pub at : ℕ
  pub marks_are : marks ≡ before ++ at ∷ (at + g) ∷ after

-- g operations are an old stretch between neighbouring checkpoints, or its first ones, if these are at least 64
pub record IsFirstPart (marks : List ℕ) (g : ℕ) : Type 0 where
  pub long : ℕ
  pub neighbours : AreNeighbours marks long
  pub within : g ≤ long
  pub enough : (g ≡ long) ⊎ (64 ≤ g)

-- the operations from `at` on, `len` of them, are an old stretch between neighbouring checkpoints, or a part of one, if these are at least 64
pub record IsPart (marks : List ℕ) (at len : ℕ) : Type 0 where
  pub long : ℕ
  pub neighbours : AreNeighbours marks long
  pub begins : neighbours.at ≤ at
  pub ends : at + len ≤ neighbours.at + long
  pub enough : (len ≡ long) ⊎ (64 ≤ len)

-- how far a new checkpoint is behind the one before it: up to 64, or as far as an old stretch serves, or as a guess is long
pub record IsGap (old : Reusable) (g : ℕ) : Type 0 where
  pub some : 0 < g
  pub small : (g ≤ 64) ⊎ (IsFirstPart old.marks g ⊎ IsAsLong old.guesses g)

-- the positions lead from r to `to`, each a gap behind the one before it
abbrev pub LeadTo : Reusable → ℕ → List ℕ → ℕ → Type 0
LeadTo old r [] to = r ≡ to
LeadTo old r (p ∷ ps) to = IsGap old (p - r) × LeadTo old p ps to

-- the kept checkpoints, then r, and new ones behind it as far as `at`, where one is due
pub record AreLaid (old : Reusable) (kept : List ℕ) (r at : ℕ) (marks : List ℕ) : Type 0 where
  pub fresh : List ℕ
  pub laid : marks ++ at ∷ [] ≡ kept ++ r ∷ fresh
  pub lead : LeadTo old r fresh at

-- the stop: the first old checkpoint at or behind a where the states agree, or the end
pub record IsStop (trace ops : List Operation) (old : List ℕ) (a b stop : ℕ) : Type 0 where
  pub mark : Contains old stop
  pub behind : a ≤ stop
  pub agrees : AgreesAt trace ops a b stop ⊎ (stop ≡ length trace)
  pub first : (p : ℕ) → Contains old p → a ≤ p → AgreesAt trace ops a b p → stop ≤ p

-- the kept checkpoints, then r, new ones behind it as far as the stop, and the old ones behind the stop, moved
pub record AreMarksOf (trace ops : List Operation) (kept : List ℕ) (old : Reusable) (new : List ℕ) (r a b stop : ℕ) : Type 0 where
  pub fresh : List ℕ
  pub stop_is : IsStop trace ops old.marks a b stop
  pub lead : LeadTo old r fresh (stop - a + b)
  pub new_is : new ≡ kept ++ r ∷ (fresh ++ map (λ p. p - a + b) (filter (λ p. nat_lt stop p) old.marks))

-- the checkpoints of the run of an edited trace, which is replayed between two positions: from the greatest old checkpoint at or
-- before the head, and those before it are kept, to where the stop stands in it
pub record AreMarksAfter (guesses : List Chunk) (old new : RunView) (from to : ℕ) : Type 0 where
  pub head : ℕ
  pub tail : ℕ
  pub stop : ℕ
  pub shared : AreShared old.trace new.trace head tail
  pub restart : IsGreatest old.marks head from
  pub marks : AreMarksOf old.trace new.trace (filter (λ p. nat_lt p from) old.marks) (record { marks = old.marks; guesses = guesses }) new.marks from (length old.trace - tail) (length new.trace - tail) stop
  pub to_is : to ≡ stop - (length old.trace - tail) + (length new.trace - tail)
