-- A state that is kept as an older one, over which an exchange is laid, or nothing.
use Rattle.std.specs.Prelude.{[], Option, Some, None}
use Rattle.ownership_model.specs.State.{State, IsSound}
use Rattle.ownership_model.specs.Patch.{Remains, patched}

-- the state that is meant: the exchange is made
abbrev pub with_laid : Option Remains → State → State
with_laid None m = m
with_laid (Some x) m = patched m x

-- it leaves a sound state
abbrev pub IsSoundWith : Option Remains → State → Type 0
IsSoundWith None m = Unit {0}
IsSoundWith (Some x) m = IsSound (patched m x) []
