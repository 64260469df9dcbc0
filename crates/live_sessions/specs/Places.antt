-- The places of sessions, and the passes that are at them (profile of this project).
use Rattle.std.specs.Prelude.{ℕ, ◌≡◌, ◌<◌, List, length, Option, None, Some, IfSome, IsSome, All, take, slice_index_or, slice_set}
use Rattle.edit_desk.specs.declared.entries.Entry.{Entry}
use Rattle.live_sessions.specs.declared.limits.TheConstants.{PLACES}
use Rattle.live_sessions.specs.Views.{PassView}

-- a place has the pass of its session, or none
abbrev pub AreOwn : List (Option PassView) → Type 0
AreOwn places = (s : ℕ) → IfSome (slice_index_or places s None) (λ p. p.session ≡ s)

-- one place for each session
pub record ArePlaces (places : List (Option PassView)) : Type 0 where
  pub all : length places ≡ PLACES
  pub own : AreOwn places

-- a place has a pass that has seen this front, and was not answered
abbrev pub IsUnused : List Entry → Option PassView → Type 0
IsUnused front place = (p : PassView) × (place ≡ Some p) × (p.front ≡ front) × (p.answered ≡ 0)

-- this place has a pass, and none below it has one
pub record IsFirst (places : List (Option PassView)) (at : ℕ) : Type 0 where
  pub within : at < length places
  pub there : IsSome (slice_index_or places at None)
  pub below : All (λ place. place ≡ None) (take at places)

-- the pass of the lowest place that has one is given, or none where no place has one
abbrev pub Gives : List (Option PassView) → Option PassView → List (Option PassView) → Type 0
Gives old (Some pass) new =
    IsFirst old pass.session
    × (slice_index_or old pass.session None ≡ Some pass)
    × (new ≡ slice_set old pass.session None)
Gives old None new = All (λ place. place ≡ None) old × (new ≡ old)
