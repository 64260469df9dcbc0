-- What a session's own thread does (profile of this project).
use Rattle.std.specs.Prelude.{Bool, true, false, ◌==◌, map, ℕ, ◌≡◌, ◌<◌, ◌⊎◌, List, [], ◌∷◌, ◌++◌, length, Option, IfSome, slice_index_or}
use mathlib.Core.List.{IsPrefix}
use Rattle.trace_types.specs.declared.limits.TheConstants.{MAX_ENTRIES}
use Rattle.edit_desk.specs.declared.entries.Entry.{Entry}
use Rattle.edit_desk.specs.declared.entries.Request.{Request}
use Rattle.edit_desk.specs.declared.replies.Reply.{Reply}
use Rattle.edit_desk.specs.declared.replies.Reply.TheVariants.{Accepted, Stale, Refused, HistoryFull}
use Rattle.live_sessions.specs.declared.limits.TheConstants.{PLACES}
use Rattle.live_sessions.specs.declared.submitter.End.{End}
use Rattle.live_sessions.specs.declared.submitter.End.TheVariants.{Stored, Full, Fault}
use Rattle.live_sessions.specs.Fronts.{count_of}
use Rattle.live_sessions.specs.Views.{PassView}

-- a pass, and the requests that its session is to submit
pub record SubmitterView : Type 0 where
  pub pass : PassView
  pub requests : List Request

-- the entry before these, where it counts
abbrev pub keep_if : Bool → Entry → List Entry → List Entry
keep_if true e es = e ∷ es
keep_if false e es = es

-- the entries of one session
abbrev pub own_of : ℕ → List Entry → List Entry
own_of s [] = []
own_of s (e ∷ es) = keep_if (e.session == s) e (own_of s es)

-- what an entry answered
abbrev pub asked : Entry → Request
asked e = e.request

-- the requests that were answered and stored for one session, in order
abbrev pub asked_by : ℕ → List Entry → List Request
asked_by s h = map asked (own_of s h)

-- these requests were all answered and stored, or the first ones of them where the history is full
abbrev pub AreAsked : List Request → List Request → ℕ → Type 0
AreAsked requests stored entries = (stored ≡ requests) ⊎ (IsPrefix stored requests × (entries ≡ MAX_ENTRIES))

-- the session has asked what it had asked before, and then these requests
abbrev pub Asks : PassView → List Request → PassView → Type 0
Asks old requests new = (new.session ≡ old.session)
    × AreAsked (asked_by old.session old.front ++ requests) (asked_by old.session new.front) (length new.front)

-- what the thread of a session answers
abbrev pub AsksAt : SubmitterView → Option PassView → Type 0
AsksAt r found = IfSome found (λ p. Asks r.pass r.requests p)

-- the threads answer so, each for its session
abbrev pub AllAsk : List SubmitterView → List (Option PassView) → Type 0
AllAsk submitters found = (i : ℕ) (r : SubmitterView) (p : Option PassView) → i < length submitters → AsksAt (slice_index_or submitters i r) (slice_index_or found i p)

-- one submit: the session has asked one request more, or it goes no further
abbrev pub Stepped : PassView → Request → PassView → End → Type 0
Stepped old r new Stored = (new.session ≡ old.session) × (asked_by old.session new.front ≡ asked_by old.session old.front ++ r ∷ [])
Stepped old r new Full = (new.session ≡ old.session) × (asked_by old.session new.front ≡ asked_by old.session old.front) × (length new.front ≡ MAX_ENTRIES)
Stepped old r new Fault = new ≡ old

-- whether a session goes on after a reply
abbrev pub end_of : Reply → End
end_of (Accepted version) = Stored
end_of (Stale version) = Stored
end_of (Refused fault) = Stored
end_of HistoryFull = Full

-- what a session is to submit
abbrev pub given : SubmitterView → List Request
given r = r.requests

-- the pass of session s, which has seen nothing
abbrev pub IsFresh : ℕ → SubmitterView → Type 0
IsFresh s r = (r.pass.session ≡ s) × (r.pass.front ≡ [])

-- the submitter at place s is the one of session s, whose pass has seen nothing
abbrev pub AllFresh : List SubmitterView → Type 0
AllFresh submitters = (s : ℕ) (r : SubmitterView) → s < length submitters → IsFresh s (slice_index_or submitters s r)

-- the history has as many entries of each session as the front of the receipt at that place
abbrev pub AddUp : List Entry → List PassView → Type 0
AddUp h receipts = (s : ℕ) (r : PassView) → s < PLACES → count_of s (slice_index_or receipts s r).front ≡ count_of s h
