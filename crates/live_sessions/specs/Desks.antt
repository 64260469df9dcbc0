-- What contracts see of a desk whose entries are counted, and of what is published of it (profile of this project).
use Rattle.std.specs.Prelude.{ℕ, ◌≡◌, ◌<◌, ◌++◌, ◌∷◌, List, [], length, slice_index, All}
use Rattle.trace_types.specs.Operation.{Operation}
use Rattle.edit_desk.specs.declared.entries.Entry.{Entry}
use Rattle.edit_desk.specs.Versions.{Version}
use Rattle.live_sessions.specs.declared.limits.TheConstants.{PLACES}
use Rattle.live_sessions.specs.declared.shown.ShownView.{ShownView}
use Rattle.live_sessions.specs.Fronts.{accepted_of, trace_after, count_of, IsFront}

-- the opening trace, the history, and how many entries more it has room for
pub record CountedView : Type 0 where
  pub opening : List Operation
  pub history : List Entry
  pub room : ℕ

-- the version is the number of accepted entries, and its run is one of the trace after them
abbrev pub IsAfter : List Operation → Version → List Entry → Type 0
IsAfter t v h = (v.version ≡ accepted_of h) × (v.run.trace ≡ trace_after t h)

-- a version that stood after some legal history
abbrev pub IsSomeVersion : List Operation → Version → Type 0
IsSomeVersion t v = (h : List Entry) × IsAfter t v h × IsFront t h

-- for each session its number of entries; the history has no entries of others
pub record IsCounted (counts : List ℕ) (h : List Entry) : Type 0 where
  pub places : length counts ≡ PLACES
  pub numbers : (s : ℕ) → s < PLACES → slice_index counts s ≡ count_of s h
  pub sessions : All (λ e. e.session < PLACES) h

-- the entry joins the history, and the version is the one after it
abbrev pub Follows : List Operation → List Entry → Entry → Version → Type 0
Follows t h e v = IsFront t (h ++ e ∷ []) × IsAfter t v (h ++ e ∷ [])

-- what is published is the version after this history
abbrev pub IsShown : List Operation → ShownView → List Entry → Type 0
IsShown t f h = IsAfter t f.published h × (f.entries ≡ h)
