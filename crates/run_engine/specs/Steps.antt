-- Which operations of an edited trace are stepped.
use Rattle.std.specs.Prelude.{◌≡◌, ℕ, ◌+◌, ◌-◌, ◌<◌, ◌≤◌, List, [], ◌∷◌, ◌++◌, Bool, length, take, drop, Contains, ◌⊎◌, ◌||◌}
use Rattle.std.specs.List.{AllByRecursion}
use Rattle.trace_types.specs.Operation.{Operation}
use Rattle.ownership_model.specs.State.{State, nothing_held}
use Rattle.ownership_model.specs.Step.{end_from}
use Rattle.ownership_model.specs.declared.key.Key.{Key}
use Rattle.ownership_model.specs.Alike.{AreWithin}
use Rattle.ownership_model.specs.Near.{is_object_of, AreNear, AreBlindFrom}
use Rattle.ownership_model.specs.Footprint.{footprints_from, moved_from}
use Rattle.op_step.specs.Meter.{raised}
use Rattle.run_engine.specs.HeadAndTail.{AreShared}
use Rattle.run_engine.specs.Marks.{IsGreatest}
use Rattle.run_engine.specs.Bounds.{AgreesAt}
use Rattle.op_step.specs.Chunk.{Chunk}
use Rattle.run_engine.specs.NewMarks.{IsFirstPart, IsPart}
use Rattle.run_engine.specs.Memo.{IsAmong, AreSome}

-- an old stretch between neighbouring checkpoints begins with the state and has the first `len` of the operations: all of them are its
-- own, or its first ones, if these are at least 64
pub record IsOldStretch (old : List Operation) (marks : List ℕ) (start : State) (ops : List Operation) (len : ℕ) : Type 0 where
  pub place : IsFirstPart marks len
  pub start_is : start ≡ end_from nothing_held (take place.neighbours.at old)
  pub ops_are : take len (drop place.neighbours.at old) ≡ take len ops

-- An old stretch between neighbouring checkpoints, or a part of one, has the first `len` of the operations, and begins with a state that differs
-- from this one only in what they don't touch, move or copy; and in the counts, and some fields, of objects that are alive in both, which they touch
-- without reading these
pub record IsUntouchedStretch (old : List Operation) (marks : List ℕ) (start : State) (ops : List Operation) (len : ℕ) : Type 0 where
  pub at : ℕ
  pub place : IsPart marks at len
  pub ops_are : take len (drop at old) ≡ take len ops
  pub keys : Key → Bool
  pub objects : ℕ → Bool
  pub loose : ℕ → ℕ → Bool
  pub near : AreNear keys objects loose (end_from nothing_held (take at old)) start
  pub blind : AreBlindFrom objects loose (end_from nothing_held (take at old)) (take len ops)
  pub within : AreWithin (λ x. is_object_of objects x || keys x) (footprints_from (end_from nothing_held (take at old)) (take len ops) ++ moved_from (end_from nothing_held (take at old)) (take len ops))

-- an old stretch begins with the state and has the first `len` of the operations, or it differs where it begins only in what they don't
-- touch, or one of the chunks begins so and has them
abbrev pub IsKnown : List Operation → List ℕ → List (ℕ × Chunk) → State → List Operation → ℕ → Type 0
IsKnown old marks chunks start ops len = (IsOldStretch old marks start ops len ⊎ IsUntouchedStretch old marks start ops len) ⊎ IsAmong chunks start (take len ops)

-- of the first `len` operations none is stepped, since they are known, or each one
abbrev pub AreTaken : List Operation → List ℕ → List (ℕ × Chunk) → State → List Operation → ℕ → ℕ → ℕ → Type 0
AreTaken old marks chunks start ops len before after = (IsKnown old marks chunks start ops len × (after ≡ before)) ⊎ (after ≡ raised before len)

-- the operation at p of the edited trace lies in a stretch that is known
pub record IsCovered (old ops : List Operation) (marks : List ℕ) (chunks : List (ℕ × Chunk)) (p : ℕ) : Type 0 where
  pub at : ℕ
  pub len : ℕ
  pub from_there : at ≤ p
  pub before_end : p < at + len
  pub stretch : IsKnown old marks chunks (end_from nothing_held (take at ops)) (drop at ops) len

-- the positions rise, from `from` on and below `to`
abbrev pub AreRising : ℕ → ℕ → List ℕ → Type 0
AreRising from to [] = Unit {0}
AreRising from to (p ∷ ps) = (from ≤ p) × (p < to) × AreRising (p + 1) to ps

-- as many operations were stepped as there are from r to `at` that are not covered
abbrev pub HaveStepped : List Operation → List Operation → List ℕ → List (ℕ × Chunk) → ℕ → ℕ → ℕ → ℕ → Type 0
HaveStepped old ops marks chunks r at before after =
    (ps : List ℕ) → AreRising r at ps → AllByRecursion (λ p. IsCovered old ops marks chunks p → ⊥) ps → raised before (length ps) ≤ after

-- so from one position on to another, where it is so up to the first: from wherever on, and with whatever chunks beside these
abbrev pub HaveSteppedOn : List Operation → List Operation → List ℕ → List (ℕ × Chunk) → ℕ → ℕ → ℕ → ℕ → Type 0
HaveSteppedOn old ops marks some at to before after =
    (r start : ℕ) (chunks : List (ℕ × Chunk)) → HaveStepped old ops marks chunks r at start before → AreSome some chunks
    → HaveStepped old ops marks chunks r to start after

-- a replay of an edited trace beside an old run: both traces, from where on they have the same operations, the old checkpoints, and the chunks
-- that may serve
pub record EditedReplay : Type 0 where
  pub old : List Operation
  pub ops : List Operation
  pub base : ℕ
  pub edited : ℕ
  pub marks : List ℕ
  pub chunks : List (ℕ × Chunk)

-- the operation at p of the edited trace is before each place where the replay may stop, and is not covered
pub record MustStep (x : EditedReplay) (p : ℕ) : Type 0 where
  pub early : (q : ℕ) → Contains x.marks q → x.base ≤ q → AgreesAt x.old x.ops x.base x.edited q → p < q - x.base + x.edited
  pub bare : IsCovered x.old x.ops x.marks x.chunks p → ⊥

-- each such operation from r on was stepped
abbrev pub AreStepped : EditedReplay → ℕ → ℕ → ℕ → Type 0
AreStepped x r before after =
    (ps : List ℕ) → AreRising r (length x.ops) ps → AllByRecursion (MustStep x) ps → raised before (length ps) ≤ after

-- the same from the greatest checkpoint at or before the head
abbrev pub AreSteppedFrom : List Operation → List Operation → List ℕ → List (ℕ × Chunk) → ℕ → ℕ → Type 0
AreSteppedFrom old ops marks chunks before after =
    (head tail r : ℕ) → AreShared old ops head tail → IsGreatest marks head r → AreStepped (record { old = old; ops = ops; base = length old - tail; edited = length ops - tail; marks = marks; chunks = chunks }) r before after
