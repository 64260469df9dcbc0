-- What a command has read and written when it ends, for what is due for an input.
use Rattle.std.specs.Prelude.{◌≡◌, ◌≢◌, ◌⊎◌, ℕ, ◌+◌, ◌≤◌, List, [], ◌∷◌, ◌++◌, length, Bool, true, false, nat_lt, if◌then◌else◌, codes, Option}
use Rattle.std.specs.Io.KnownBytes.{Appends, Consumes, IsAtEnd}
use Rattle.trace_types.specs.Devices.{IsInput, AppendsFront}
use Rattle.trace_types.specs.declared.devices.Source as Source
use Rattle.trace_types.specs.declared.devices.Sink as Sink
use Rattle.trace_types.specs.declared.limits.TheConstants.{MAX_INPUT}
use Rattle.trace_reader.specs.declared.fault.LineFault.{LineFault}
use Rattle.trace_reader.specs.FaultText.{fault_text}
use Rattle.command_serve.specs.declared.due.Due.{Due}
use Rattle.command_serve.specs.declared.exits.Exit.{Exit}
use Rattle.command_serve.specs.declared.exits.Exit.TheVariants.{Fine, Trace, Usage, Device, Memory}

-- whether an input has more than `MAX_INPUT` bytes
abbrev pub is_too_long : List ℕ → Bool
is_too_long input = nat_lt MAX_INPUT (length input)

-- how a command ends that has written it
abbrev pub exit_of : Due → Exit
exit_of due = if due.is_fault then Trace else Fine

-- what is due for an input that is too long: the one line that says so
abbrev pub too_long : Due
too_long = record { text = codes "fault input TooLong\n"; is_fault = true }

-- the line that tells the first faulty line
abbrev pub fault_due : LineFault → Due
fault_due fault = record { text = fault_text fault ++ 10 ∷ []; is_fault = true }

-- what is due for an input: where it is too long the line that says so, else what IsDue says
abbrev pub IsDueOrTooLong : (List ℕ → Due → Type 0) → List ℕ → Due → Type 0
IsDueOrTooLong IsDue input due =
    (is_too_long input ≡ true → due ≡ too_long) × (is_too_long input ≡ false → IsDue input due)

-- an input was read until a read gave no bytes, or until one byte more than is allowed
abbrev pub IsRead : Option (List ℕ) → Option (List ℕ) → List ℕ → Type 0
IsRead left left' input = (length input ≤ MAX_INPUT → IsAtEnd left')
    × (is_too_long input ≡ true
    → (bytes : List ℕ) × Consumes left left' bytes × (length bytes ≡ MAX_INPUT + 1))

-- all of what is due was written, with the exit that tells so, or a front of it, with exit Device
abbrev pub IsWritten : Due → Option (List ℕ) → Option (List ℕ) → Exit → Type 0
IsWritten due held held' exit =
    ((exit ≡ exit_of due) × Appends held held' due.text)
    ⊎ ((exit ≡ Device) × AppendsFront held held' due.text)

-- an input was read, all of it or as far as is allowed, and what is due for it was written, or a front
abbrev pub IsAnswered : (List ℕ → Due → Type 0) → List ℕ
    → Option (List ℕ) → Option (List ℕ) → Option (List ℕ) → Option (List ℕ) → Exit → Type 0
IsAnswered IsDue input left left' held held' exit =
    IsRead left left' input
    × ((due : Due) × IsDueOrTooLong IsDue input due × IsWritten due held held' exit)

-- nothing was written, for want of memory or because a device failed
abbrev pub IsGivenUp : Option (List ℕ) → Option (List ℕ) → Exit → Type 0
IsGivenUp held held' exit = ((exit ≡ Memory) ⊎ (exit ≡ Device)) × Appends held held' []

-- what a command has read and written when it ends with this exit, where the source was s and is s'
-- and the sink was k and is k'; `source` and `sink` say what these tell
pub record Serves {S K : Type 0} (IsDue : List ℕ → Due → Type 0)
    (source : Source.Ghosts S) (s s' : S) (sink : Sink.Ghosts K) (k k' : K) (exit : Exit)
    : Type 0 where
  -- there is an input, which is all that the source had left where that is told
  pub input : List ℕ
  pub whole : IsInput (source.left s) input
  -- it was answered, or nothing was written
  pub ends :
      IsAnswered IsDue input (source.left s) (source.left s') (sink.held k) (sink.held k') exit
      ⊎ IsGivenUp (sink.held k) (sink.held k') exit
  -- status 3: a read has failed, and nothing was written, or a write has failed
  pub device : exit ≡ Device
      → ((source.failed s' ≡ true) × Appends (sink.held k) (sink.held k') [])
      ⊎ (sink.failed k' ≡ true)
  -- any other status: both flags are as they were
  pub flags : exit ≢ Device
      → (source.failed s' ≡ source.failed s) × (sink.failed k' ≡ sink.failed k)
  -- status 2 is for words, and no command's
  pub usage : exit ≢ Usage
