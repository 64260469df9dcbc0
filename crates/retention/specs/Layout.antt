-- How a graph is laid out in lists: of each place the object that it names and the object of which it is a field, and of each object where
-- its fields stand, and which places name it (profile of this project). Objects and places go by numbers from 0.
use Rattle.std.specs.Prelude.{ℕ, ◌≡◌, ◌+◌, ◌<◌, ◌≤◌, ◌==◌, List, [], length, filter, Bool, slice_index, slice_index_or}
use Rattle.std.specs.List.{range_with_len}
use Rattle.std.proofs.Props.{props}

-- the numbers below n
abbrev pub upto : ℕ → List ℕ
upto n = range_with_len 0 n

-- the places that name an object, rising
abbrev pub naming : List ℕ → ℕ → List ℕ
naming targets i = filter (λ p. slice_index targets p == i) (upto (length targets))

-- the place is a field of the object, where these are the starts of the fields
abbrev pub IsWithin : List ℕ → ℕ → ℕ → Type 0
IsWithin starts i p = (slice_index starts i ≤ p) × (p < slice_index starts (i + 1))

-- The fields of each object stand behind those of the object before it, and those of the last one end with the places
pub record AreStarts (objects places : ℕ) (starts : List ℕ) : Type 0 where
  pub long : length starts ≡ objects + 1
  pub rising : (i : ℕ) → i < objects → slice_index starts i ≤ slice_index starts (i + 1)
  pub within : (i : ℕ) → i < objects + 1 → slice_index starts i ≤ places
  pub last : slice_index starts objects ≡ places

-- Of each place behind the first start, the object of which it is a field
pub record AreSources (objects places : ℕ) (starts sources : List ℕ) : Type 0 where
  pub long : length sources ≡ places
  pub same : (i p : ℕ) → i < objects → slice_index starts i ≤ p → p < slice_index starts (i + 1) → slice_index sources p ≡ i
  pub own : (p : ℕ) → slice_index starts 0 ≤ p → p < places → (slice_index sources p < objects) × IsWithin starts (slice_index sources p) p

-- Of each object, the places that name it
pub record AreHolders (objects : ℕ) (targets : List ℕ) (holders : List (List ℕ)) : Type 0 where
  pub long : length holders ≡ objects
  pub each : (i : ℕ) → i < objects → slice_index_or holders i [] ≡ naming targets i

-- each number is greater than the one before it
abbrev pub IsRising : List ℕ → Type 0
IsRising ps = (i j : ℕ) → i < j → j < length ps → slice_index ps i < slice_index ps j

-- objects, whether each lives, how many places name them, and where the fields of each begin
pub record AreListed (objects : List ℕ) (alive : List Bool) (places : ℕ) (starts : List ℕ) : Type 0 where
  pub rising : IsRising objects
  pub alive_long : length alive ≡ length objects
  pub are_starts : AreStarts (length objects) places starts

-- all of that, and what is laid out from it
pub record AreLaid (objects : List ℕ) (alive : List Bool) (places : ℕ) (targets sources starts : List ℕ) (holders : List (List ℕ)) : Type 0 where
  pub rising : IsRising objects
  pub alive_long : length alive ≡ length objects
  pub targets_long : length targets ≡ places
  pub are_starts : AreStarts (length objects) places starts
  pub are_sources : AreSources (length objects) places starts sources
  pub are_holders : AreHolders (length objects) targets holders

AreStarts-prop : (objects places : ℕ) (starts : List ℕ) → IsProp (AreStarts objects places starts)
AreStarts-prop objects places starts = hlevel props

AreSources-prop : (objects places : ℕ) (starts sources : List ℕ) → IsProp (AreSources objects places starts sources)
AreSources-prop objects places starts sources = hlevel props

AreHolders-prop : (objects : ℕ) (targets : List ℕ) (holders : List (List ℕ)) → IsProp (AreHolders objects targets holders)
AreHolders-prop objects targets holders = hlevel props

pub AreListed-prop : (objects : List ℕ) (alive : List Bool) (places : ℕ) (starts : List ℕ) → IsProp (AreListed objects alive places starts)
AreListed-prop objects alive places starts = hlevel props

pub AreLaid-prop : (objects : List ℕ) (alive : List Bool) (places : ℕ) (targets sources starts : List ℕ) (holders : List (List ℕ)) → IsProp (AreLaid objects alive places targets sources starts holders)
AreLaid-prop objects alive places targets sources starts holders = hlevel props
