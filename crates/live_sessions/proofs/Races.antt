-- A session's requests, one after another.
use Rattle.std.proofs.Common.{◌≡◌, ℕ, List, [], ◌∷◌, ◌++◌, inr, ap, sym, ◌∙◌, subst, append_assoc, arith}
use mathlib.Core.List.{IsPrefix}
use Rattle.trace_types.specs.Operation.{Operation}
use Rattle.edit_desk.specs.declared.entries.Entry.{Entry}
use Rattle.edit_desk.specs.declared.entries.Request.{Request}
use Rattle.edit_desk.specs.declared.replies.Reply.{Reply}
use Rattle.edit_desk.specs.declared.replies.Reply.TheVariants.{Accepted, Stale, Refused, HistoryFull}
use Rattle.live_sessions.specs.declared.submitter.End.TheVariants.{Stored, Full}
use Rattle.live_sessions.specs.Fronts.{count_of}
use Rattle.live_sessions.specs.Views.{PassView, Replied}
use Rattle.live_sessions.specs.Races.{asked_by, Asks, Stepped, end_of}
use Rattle.live_sessions.proofs.Counts.{count_of-append, all_others}
use Rattle.live_sessions.proofs.Owns.{asked_more, asked_same, asked_by-others}

pub stepped : (t : List Operation) (old new : PassView) (r : Request) (reply : Reply) → Replied t old new r reply → Stepped old r new (end_of reply)
stepped t old new r (Accepted version) sub = (sub.session, asked_more t old new r (Accepted version) sub)
stepped t old new r (Stale version) sub = (sub.session, asked_more t old new r (Stale version) sub)
stepped t old new r (Refused fault) sub = (sub.session, asked_more t old new r (Refused fault) sub)
stepped t old new r HistoryFull saw = (saw.same.0, asked_same t old new saw, saw.full)

-- one submit more: what is still to be asked is one request less
pub asks_more : (s : ℕ) (mid new : PassView) (r : Request) (items rest all : List Request) → mid.session ≡ s → Stepped mid r new Stored → items ≡ r ∷ rest
    → asked_by s mid.front ++ items ≡ all → asked_by s new.front ++ rest ≡ all
asks_more s mid new r items rest all same step next whole =
    let more : asked_by s new.front ≡ asked_by s mid.front ++ r ∷ [] = subst (λ (k : ℕ). asked_by k new.front ≡ asked_by k mid.front ++ r ∷ []) same step.1 in
    ap (λ (x : List Request). x ++ rest) more ∙ (append_assoc (asked_by s mid.front) (r ∷ []) rest ∙ (ap (λ (x : List Request). asked_by s mid.front ++ x) (sym next) ∙ whole))

-- the history is full
pub asks_full : (old mid new : PassView) (r : Request) (items requests : List Request) → mid.session ≡ old.session → Stepped mid r new Full
    → asked_by old.session mid.front ++ items ≡ asked_by old.session old.front ++ requests → Asks old requests new
asks_full old mid new r items requests same step whole =
    let alike : asked_by old.session new.front ≡ asked_by old.session mid.front = subst (λ (k : ℕ). asked_by k new.front ≡ asked_by k mid.front) same step.1 in
    (step.0 ∙ same, inr ((items, ap (λ (x : List Request). x ++ items) alike ∙ whole), step.2))

-- where the whole history has as many entries of the session as its front, it has those of the front alone
pub asked_whole : (s : ℕ) (front h : List Entry) → IsPrefix front h → count_of s front ≡ count_of s h → asked_by s h ≡ asked_by s front
asked_whole s front h pre same =
    let rest = pre.0 in
    let none : count_of s rest ≡ 0 = omega (arith, same, count_of-append s front rest, ap (count_of s) pre.1) in
    ap (asked_by s) (sym pre.1) ∙ asked_by-others s front rest (all_others s rest none)
