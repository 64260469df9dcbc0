-- What contracts see of a pass, and what a submit does to it (profile of this project).
use Rattle.std.specs.Prelude.{ℕ, ◌≡◌, ◌≢◌, ◌+◌, ◌≤◌, ◌<◌, List, [], ◌∷◌, ◌++◌, length}
use Rattle.std.specs.List.{All}
use mathlib.Core.List.{IsPrefix}
use Rattle.edit_desk.specs.declared.entries.Entry.{Entry}
use Rattle.edit_desk.specs.Versions.{Version}
use Rattle.edit_desk.specs.declared.entries.Request.{Request}
use Rattle.edit_desk.specs.declared.replies.Reply.{Reply}
use Rattle.edit_desk.specs.declared.replies.Reply.TheVariants.{Accepted, Stale, Refused, HistoryFull}
use Rattle.trace_types.specs.Operation.{Operation}
use Rattle.trace_types.specs.declared.limits.TheConstants.{MAX_ENTRIES}
use Rattle.live_sessions.specs.declared.limits.TheConstants.{PLACES}
use Rattle.live_sessions.specs.Desks.{IsAfter}
use Rattle.live_sessions.specs.Fronts.{count_of, IsFront}

-- the session, the beginning of the history that it has seen, and how many of its submits were answered
pub record PassView : Type 0 where
  pub session : ℕ
  pub front : List Entry
  pub answered : ℕ

-- what a pass keeps
pub record Stands (t : List Operation) (v : PassView) (last : Version) : Type 0 where
  pub session_in : v.session < PLACES
  pub legal : IsFront t v.front
  pub run : IsAfter t last v.front
  pub own : v.answered ≤ count_of v.session v.front

-- the pass's front begins the history, and has all entries of its session
pub record HasMet (v : PassView) (h : List Entry) : Type 0 where
  pub begins : IsPrefix v.front h
  pub own : v.answered ≡ count_of v.session h

-- what a read does to the pass: it has seen as much of the history as before, or more, and is else as it was
pub record Reads (t : List Operation) (old new : PassView) : Type 0 where
  pub front : IsPrefix old.front new.front
  pub legal : IsFront t new.front
  pub same : (new.session ≡ old.session) × (new.answered ≡ old.answered)

-- an entry of a history
abbrev pub entry : ℕ → Request → Reply → Entry
entry s r reply = record { session = s; request = r; reply = reply }

-- a submit with this reply: the front is the old one, then entries of other sessions, then the submit's own
pub record Submitted (t : List Operation) (old new : PassView) (request : Request) (reply : Reply) : Type 0 where
  pub between : List Entry
  pub front : new.front ≡ old.front ++ between ++ entry old.session request reply ∷ []
  pub others : All (λ e. e.session ≢ old.session) between
  pub legal : IsFront t new.front
  pub session : new.session ≡ old.session
  pub answered : new.answered ≡ old.answered + 1
  pub exactly : count_of new.session new.front ≡ new.answered

-- a submit to a full history, which was seen: the front is the old one, then entries of other sessions
pub record SawFull (t : List Operation) (old new : PassView) : Type 0 where
  pub between : List Entry
  pub front : new.front ≡ old.front ++ between
  pub others : All (λ e. e.session ≢ old.session) between
  pub full : length new.front ≡ MAX_ENTRIES
  pub legal : IsFront t new.front
  pub same : (new.session ≡ old.session) × (new.answered ≡ old.answered)
  pub exactly : count_of new.session new.front ≡ new.answered

-- what a submit with this reply does to the pass
abbrev pub Replied : List Operation → PassView → PassView → Request → Reply → Type 0
Replied t old new request (Accepted version) = Submitted t old new request (Accepted version)
Replied t old new request (Stale version) = Submitted t old new request (Stale version)
Replied t old new request (Refused fault) = Submitted t old new request (Refused fault)
Replied t old new request HistoryFull = SawFull t old new

-- what a submit with this reply does to the history
abbrev pub Grown : List Entry → List Entry → ℕ → Request → Reply → Type 0
Grown before now session request (Accepted version) = now ≡ before ++ entry session request (Accepted version) ∷ []
Grown before now session request (Stale version) = now ≡ before ++ entry session request (Stale version) ∷ []
Grown before now session request (Refused fault) = now ≡ before ++ entry session request (Refused fault) ∷ []
Grown before now session request HistoryFull = now ≡ before
